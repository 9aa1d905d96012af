use Rattle.std.proofs.Common.{◌≡◌}
use Rattle.gl_merkle.specs.Frontier.{count_of}
use Rattle.t_base.proofs.merkle.frontier_of.Given as goal

abbrev pub invariant-loop-leaf : goal.invariant-loop-leaf
invariant-loop-leaf l = record { base : l.frontier.base ≡ 0; count : count_of l.frontier ≡ l.leaf-index }
