use Rattle.std.proofs.Common.{◌≡◌, ◌+◌, ◌≤◌, length}
use Rattle.ccfg.specs.OpeningStores.{HaveOpened}
use Rattle.ccfg.proofs.schedule_nodes.opening_stores.books.Given as goal

abbrev pub invariant-loop-i : goal.invariant-loop-i
invariant-loop-i l =
    HaveOpened l.settings l.i l.books.items × (length l.books.items ≡ l.settings.starting + l.settings.joiners) × (1 ≤ l.i) × (l.i ≤ l.settings.starting)
