use Rattle.gl_gov.proofs.Selected.{rows_by}
use Rattle.gl_gov.proofs.put.selected_rows.Goals as goal

pub returns : goal.returns
returns c =
    rows_by c.args.selection.now c.args.past.now _ _ _ _ _ _ c.new-writes.ensures c.in_ok-put_rules_and_dealing.ensures c.in_ok-put_members.ensures
    c.in_ok-put_nodes.ensures c.in_ok-put_proposals.ensures c.in_ok-put_service_and_shares.ensures
