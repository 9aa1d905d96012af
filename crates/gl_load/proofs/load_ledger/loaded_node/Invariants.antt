use Rattle.std.proofs.Common.{◌≤◌}
use Rattle.gl_load.specs.Node.{IsAfterRequests}
use Rattle.gl_load.proofs.load_ledger.loaded_node.Given as goal

-- the node stands for that of the rules after the requests so far
abbrev pub invariant-loop-done : goal.invariant-loop-done
invariant-loop-done g l = IsAfterRequests g.B.Book.stands l.fn.seed l.fn.count l.done l.node l.words × (l.done ≤ l.fn.count)
