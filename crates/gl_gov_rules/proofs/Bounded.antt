-- The rows of governance are always within their limits.
use Rattle.std.proofs.Common.{◌≡◌, List, [], ◌∷◌, true, arith}
use Rattle.std.specs.List.{AllByRecursion}
use Rattle.std.proofs.lemmas.Bool.{and_parts}
use Rattle.gl_requests.specs.Ranges.{are_actions}
use Rattle.gl_gov_rules.specs.declared.change.Proposal.{Proposal}
use Rattle.gl_gov_rules.specs.declared.change.Recorded.{Recorded}
use Rattle.gl_gov_rules.specs.Proposals.{proposals}
use Rattle.gl_gov_rules.specs.Changes.{history}
use Rattle.gl_gov_rules.specs.Governed.{IsGoverned, IsBoundedProposal, IsBounded}
use Rattle.gl_gov_rules.proofs.Ranges.{are_proposals, rules_in_range, dealing_in_range, are_in_range}
use Rattle.gl_gov_rules.proofs.FewNodes.{are_few_nodes}
use Rattle.gl_gov_rules.proofs.SmallProposals.{IsSmall, are_small}

-- proposals whose actions are in their ranges and have few bytes
pub bounded_proposals : (ps : List Proposal) → are_proposals ps ≡ true → AllByRecursion IsSmall ps → AllByRecursion IsBoundedProposal ps
bounded_proposals [] fit small = tt
bounded_proposals (p ∷ ps) fit small =
    let parts = and_parts (are_actions p.actions) (are_proposals ps) fit in
    (record { fits = parts.0; small = small.0 }, bounded_proposals ps parts.1 small.1)

pub is_bounded : (rs : List Recorded) → IsGoverned rs → IsBounded (history rs)
is_bounded rs all =
    let range = are_in_range rs all in
    let changes = range.1 in
    let nodes = are_few_nodes rs all in
    record {
      rules = rules_in_range (history rs) changes;
      dealt = dealing_in_range (history rs) changes;
      few_nodes = omega (arith, nodes.0);
      endorsements = nodes.1;
      proposed = bounded_proposals (proposals (history rs)) range.0 (are_small rs all);
    }
