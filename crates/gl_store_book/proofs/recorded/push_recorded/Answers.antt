use Rattle.std.proofs.Common.{rules}
use Rattle.gl_gov_rules.specs.declared.change.RecordedNode as a_node
use Rattle.gl_store_book.proofs.NodeLists.{filled}
use Rattle.gl_store_book.proofs.recorded.push_recorded.Goals as goal

pub returns-clause-pushed : goal.returns-clause-pushed
returns-clause-pushed c =
    filled (λ (n : a_node.RecordedNode). n.id) c.args.nodes.now c.args.recorded.now.items c.loop-node.recorded.items c.len.result c.loop-node.node-index
    (search (rules, c.requires, c.len.ensures)) c.loop-node.invariant c.loop-node-test.false
