use Rattle.std.proofs.Common.{◌≡◌, ◌++◌, drop}
use Rattle.gl_requests.proofs.copy.copy_nodes.Given as goal

-- what is copied and what is left to copy make the whole
abbrev pub invariant-loop-node : goal.invariant-loop-node
invariant-loop-node l = l.out.items ++ drop l.node-index l.nodes ≡ l.nodes
