use Rattle.std.proofs.Common.{sym, ◌∙◌, ap}
use Rattle.gl_gov_rules.specs.declared.row.ProposalRow.{ProposalRow}
use Rattle.gl_gov_rules.specs.Rows.{proposal_row, proposal_write}
use Rattle.gl_gov.proofs.RowSizes.{row_fits, row_small}
use Rattle.gl_gov.proofs.Selected.{selected_proposal, none_put, one_put}
use Rattle.gl_gov.proofs.put.put_proposal.Goals as goal

pub returns-then-not-has_proposal : goal.returns-then-not-has_proposal
returns-then-not-has_proposal c =
    none_put c.args.selection.now c.args.writes.now (proposal_write c.args.proposal.now.id (proposal_row c.args.past.now c.args.proposal.now))
    (selected_proposal c.args.selection.now c.args.past.now c.args.proposal.now ∙ sym c.has_proposal.ensures ∙ c.if-not-has_proposal.true)

pub proposal_write-requires-clause-fit : goal.proposal_write-requires-clause-fit
proposal_write-requires-clause-fit c = row_fits c.args.past.now c.args.proposal.now c.in_ok-row.row c.in_ok-row.ensures.row c.requires

pub proposal_write-requires-clause-small : goal.proposal_write-requires-clause-small
proposal_write-requires-clause-small c = row_small c.args.past.now c.args.proposal.now c.in_ok-row.row c.in_ok-row.ensures.row c.requires

pub returns : goal.returns
returns c =
    one_put c.args.selection.now c.args.writes.now _ _ (proposal_write c.args.proposal.now.id (proposal_row c.args.past.now c.args.proposal.now))
    c.in_ok-put.ensures.ok (c.in_ok-proposal_write.ensures ∙ ap (λ (row : ProposalRow). proposal_write c.args.proposal.now.id row) c.in_ok-row.ensures.row)
    (selected_proposal c.args.selection.now c.args.past.now c.args.proposal.now ∙ sym c.has_proposal.ensures ∙ c.if-not-has_proposal.false)
