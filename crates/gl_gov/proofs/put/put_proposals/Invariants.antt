use Rattle.std.proofs.Common.{◌≡◌, drop, filter, map}
use Rattle.std.specs.List.{AllByRecursion}
use Rattle.gl_vmaps.specs.Changes.{set_from}
use Rattle.gl_gov_rules.specs.Rows.{proposal_row, proposal_write}
use Rattle.gl_gov_rules.specs.Proposals.{proposals}
use Rattle.gl_gov_rules.specs.Governed.{IsBoundedProposal}
use Rattle.gl_gov.specs.Touched.{is_selected}
use Rattle.gl_gov.proofs.put.put_proposals.Given as goal

-- what is put and what is left to put make the whole
abbrev pub invariant-loop-proposal : goal.invariant-loop-proposal
invariant-loop-proposal l = record {
  put : set_from l.writes (filter (is_selected l.selection) (map (λ p. proposal_write p.id (proposal_row l.past p)) (drop l.proposal-index (proposals l.past))))
      ≡ set_from l.fn.writes (filter (is_selected l.selection) (map (λ p. proposal_write p.id (proposal_row l.past p)) (proposals l.past)));
  rest : AllByRecursion IsBoundedProposal (drop l.proposal-index (proposals l.past));
}
