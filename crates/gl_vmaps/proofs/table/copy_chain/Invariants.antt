use Rattle.std.proofs.Common.{◌≡◌, ◌++◌}
use Rattle.std.specs.VecDeque.Iter.{deque_iter_rest}
use Rattle.gl_vmaps.proofs.table.copy_chain.Given as goal

abbrev pub invariant-loop-version : goal.invariant-loop-version
invariant-loop-version l = l.copy.items ++ deque_iter_rest l.version-iterator ≡ l.chain.items
