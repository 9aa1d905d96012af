use Rattle.std.proofs.Common.{◌≡◌}
use Rattle.gl_merkle.specs.Frontier.{count_of}
use Rattle.t_base.proofs.merkle.frontier_agrees_with_plain.Given as goal

abbrev pub invariant-loop-size : goal.invariant-loop-size
invariant-loop-size g l = record { base : l.frontier.base ≡ l.base; count : count_of l.frontier ≡ l.size }
