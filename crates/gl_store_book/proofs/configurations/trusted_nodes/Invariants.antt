use Rattle.std.proofs.Common.{◌≡◌, take, map}
use Rattle.std.specs.List.{filter}
use Rattle.gl_gov_rules.specs.declared.change.RecordedNode as a_node
use Rattle.gl_gov_rules.specs.Nodes.{is_trusted_status, node_status}
use Rattle.gl_store_book.proofs.configurations.trusted_nodes.Given as goal

-- those of the nodes so far
abbrev pub invariant-loop-node : goal.invariant-loop-node
invariant-loop-node l =
    l.trusted.items ≡ map (λ (n : a_node.RecordedNode). n.id) (filter (λ (n : a_node.RecordedNode). is_trusted_status (node_status l.past n)) (take l.node-index l.nodes))
