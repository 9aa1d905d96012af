use Rattle.std.proofs.Common.{◌≡◌, length}
use Rattle.t_base.proofs.merkle.leaves.Given as goal

abbrev pub invariant-loop-byte : goal.invariant-loop-byte
invariant-loop-byte l = length l.leaves.items ≡ l.byte
