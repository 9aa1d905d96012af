use Rattle.std.proofs.Common.{◌≡◌, ◌++◌, drop, map, true}
use Rattle.gl_gov_rules.specs.Nodes.{recorded_node}
use Rattle.gl_gov_rules.proofs.nodes.push_founding_nodes.Given as goal

abbrev pub invariant-loop-node : goal.invariant-loop-node
invariant-loop-node l =
    l.nodes.items ++ map (recorded_node l.seqno true) (drop l.node-index l.more)
    ≡ l.fn.nodes.items ++ map (recorded_node l.seqno true) l.more
