use Rattle.std.proofs.Common.{◌≡◌, length}
use Rattle.gl_config.specs.NodeSet.{are_distinct}
use Rattle.gl_config.proofs.node_set.are_distinct.Given as goal

abbrev pub invariant-loop-rest : goal.invariant-loop-rest
invariant-loop-rest l = are_distinct l.rest ≡ are_distinct l.nodes

abbrev pub decreases-loop-rest : goal.decreases-loop-rest
decreases-loop-rest l = length l.rest
