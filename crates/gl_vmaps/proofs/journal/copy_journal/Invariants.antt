use Rattle.std.proofs.Common.{◌≡◌, ◌++◌}
use Rattle.std.specs.VecDeque.Iter.{deque_iter_rest}
use Rattle.gl_vmaps.proofs.journal.copy_journal.Given as goal

abbrev pub invariant-loop-written : goal.invariant-loop-written
invariant-loop-written l = l.copy.items ++ deque_iter_rest l.written-iterator ≡ l.journal.items
