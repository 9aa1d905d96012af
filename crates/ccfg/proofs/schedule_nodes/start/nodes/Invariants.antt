use Rattle.std.proofs.Common.{◌≡◌, ◌++◌, length}
use Rattle.std.specs.Vec.Iter.{into_iter_items, into_iter_len}
use Rattle.ccfg.proofs.FileStarts.{HaveBegun}
use Rattle.ccfg.proofs.schedule_nodes.start.nodes.Given as goal

-- the nodes so far, over the stores so far
abbrev pub invariant-loop-book : goal.invariant-loop-book
invariant-loop-book l =
    (l.yielded ++ into_iter_items l.book-iterator ≡ into_iter_items l.initial.book-iterator)
    × HaveBegun l.settings l.nodes.items
    × (length l.nodes.items ≡ length l.yielded)
    × (into_iter_len l.book-iterator ≡ length (into_iter_items l.book-iterator))
