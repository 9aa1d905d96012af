use Rattle.std.proofs.Common.{◌≡◌, ◌++◌, length}
use Rattle.std.specs.Vec.Iter.{into_iter_items, into_iter_len}
use Rattle.ccfg.specs.OpeningStores.{HaveOpened}
use Rattle.ccfg.proofs.schedule_nodes.opening_stores.joining_books.Given as goal

-- the stores so far, of the keys so far
abbrev pub invariant-loop-node : goal.invariant-loop-node
invariant-loop-node l =
    (l.yielded ++ into_iter_items l.node-iterator ≡ into_iter_items l.initial.node-iterator)
    × HaveOpened l.settings 0 l.books.items
    × (length l.books.items ≡ length l.yielded)
    × (into_iter_len l.node-iterator ≡ length (into_iter_items l.node-iterator))
