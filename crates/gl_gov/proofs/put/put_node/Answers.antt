use Rattle.std.proofs.Common.{◌≤◌, length, sym, ◌∙◌, ap, subst}
use Rattle.gl_gov_rules.specs.declared.row.NodeRow.{NodeRow}
use Rattle.gl_gov_rules.specs.Rows.{node_row, node_write}
use Rattle.gl_gov.proofs.RowSizes.{node_row-small}
use Rattle.gl_gov.proofs.Selected.{selected_node, none_put, one_put}
use Rattle.gl_gov.proofs.put.put_node.Goals as goal

pub returns-then-not-has_node : goal.returns-then-not-has_node
returns-then-not-has_node c =
    none_put c.args.selection.now c.args.writes.now (node_write (node_row c.args.past.now c.args.order c.args.node.now))
    (selected_node c.args.selection.now c.args.past.now c.args.order c.args.node.now ∙ sym c.has_node.ensures ∙ c.if-not-has_node.true)

pub node_write-requires : goal.node_write-requires
node_write-requires c =
    subst (λ (row : NodeRow). length row.endorsement ≤ 2508) (sym c.in_ok-row.ensures) (node_row-small c.args.past.now c.args.order c.args.node.now c.requires)

pub returns : goal.returns
returns c =
    one_put c.args.selection.now c.args.writes.now _ _ (node_write (node_row c.args.past.now c.args.order c.args.node.now))
    c.in_ok-put.ensures.ok (c.in_ok-node_write.ensures ∙ ap (λ (row : NodeRow). node_write row) c.in_ok-row.ensures)
    (selected_node c.args.selection.now c.args.past.now c.args.order c.args.node.now ∙ sym c.has_node.ensures ∙ c.if-not-has_node.false)
