-- The bounds of a history as those of its rows.
use Rattle.std.proofs.Common.{◌≡◌, ℕ, ◌≤◌, true, length, ◌∙◌, ap}
use Rattle.std.specs.List.{flat_map, list_all}
use Rattle.std.proofs.lemmas.Bool.{and_parts}
use Rattle.gl_requests.specs.Encoding.{action_bytes}
use Rattle.gl_requests.specs.Ranges.{is_action_count, is_action}
use Rattle.gl_gov_rules.specs.declared.change.RecordedNode.{RecordedNode}
use Rattle.gl_gov_rules.specs.declared.change.Proposal.{Proposal}
use Rattle.gl_gov_rules.specs.declared.row.NodeRow.{NodeRow}
use Rattle.gl_gov_rules.specs.declared.row.ProposalRow.{ProposalRow}
use Rattle.gl_gov_rules.specs.History.{History}
use Rattle.gl_gov_rules.specs.Rows.{node_row, proposal_row}
use Rattle.gl_gov_rules.specs.Governed.{IsBoundedProposal}

-- ---- nodes

abbrev IsSmallNode : NodeRow → Type 0
IsSmallNode n = length n.endorsement ≤ 2508

pub node_row-small : (h : History) (order : ℕ) (n : RecordedNode) → length n.node.endorsement ≤ 2508 → IsSmallNode (node_row h order n)
unfolding node_row
node_row-small h order n small = small

-- ---- proposals

row_actions : (h : History) (p : Proposal) (row : ProposalRow) → row ≡ proposal_row h p → row.actions ≡ p.actions
unfolding proposal_row
row_actions h p row is = ap (λ (r : ProposalRow). r.actions) is

pub row_fits : (h : History) (p : Proposal) (row : ProposalRow) → row ≡ proposal_row h p → IsBoundedProposal p → list_all is_action row.actions ≡ true
row_fits h p row is bounded =
    ap (list_all is_action) (row_actions h p row is) ∙ (and_parts (is_action_count (length p.actions)) (list_all is_action p.actions) bounded.fits).1

pub row_small : (h : History) (p : Proposal) (row : ProposalRow) → row ≡ proposal_row h p → IsBoundedProposal p → length (flat_map action_bytes row.actions) ≤ 60000
row_small h p row is bounded = rw (row_actions h p row is) bounded.small
