-- Lists of requests that were accepted one after another, and the bounds that hold of what they
-- come to, so that each of its rows is within the limits of tables.
use Rattle.std.specs.Prelude.{◌≡◌, ℕ, ◌≤◌, ◌<◌, ◌^◌, List, [], ◌∷◌, None, Some, Bool, true, false, length, take, slice_get, filter, nat_le, IfSome}
use Rattle.std.specs.List.{flat_map, AllByRecursion}
use Rattle.gl_requests.specs.Encoding.{action_bytes}
use Rattle.gl_requests.specs.Ranges.{is_dealing, are_rules, are_actions, is_request}
use Rattle.gl_requests.specs.declared.request.GovernanceRequest.{GovernanceRequest}
use Rattle.gl_requests.specs.declared.request.GovernanceRequest.TheVariants as requests
use Rattle.gl_gov_rules.specs.declared.change.Recorded.{Recorded}
use Rattle.gl_gov_rules.specs.declared.change.RecordedNode.{RecordedNode}
use Rattle.gl_gov_rules.specs.declared.change.Proposal.{Proposal}
use Rattle.gl_gov_rules.specs.History.{History}
use Rattle.gl_gov_rules.specs.Nodes.{nodes}
use Rattle.gl_gov_rules.specs.Service.{constitution, dealing}
use Rattle.gl_gov_rules.specs.Proposals.{proposals}
use Rattle.gl_gov_rules.specs.Changes.{history}
use Rattle.gl_gov_rules.specs.Refusals.{refusal}

-- The request founds a service.
abbrev pub is_founding : GovernanceRequest → Bool
is_founding (requests.Genesis g) = true
is_founding other = false

-- The request recovers a service.
abbrev pub is_recovery : GovernanceRequest → Bool
is_recovery (requests.Recover r) = true
is_recovery other = false

abbrev pub is_nothing : List Recorded → Bool
is_nothing [] = true
is_nothing (r ∷ rs) = false

-- The seqno is above those of all these requests.
abbrev pub IsAbove : ℕ → List Recorded → Type 0
IsAbove seqno rs = AllByRecursion (λ (r : Recorded). r.seqno < seqno) rs

-- A request that follows others: its seqno is above theirs, its fields are in their ranges, it
-- founds the service where it is the first and not otherwise, and no rule refuses it.
pub record Follows (rs : List Recorded) (r : Recorded) : Type 0 where
  pub above : IsAbove r.seqno rs
  pub fits : is_request r.request ≡ true
  pub founding : is_founding r.request ≡ is_nothing rs
  pub accepted : refusal (history rs) r.seqno r.request ≡ None

-- Each request follows those before it.
abbrev pub IsGoverned : List Recorded → Type 0
IsGoverned rs = (i : ℕ) (r : Recorded) → slice_get rs i ≡ Some r → Follows (take i rs) r

-- The requests up to a seqno.
abbrev pub up_to : ℕ → List Recorded → List Recorded
up_to seqno rs = filter (λ (r : Recorded). nat_le r.seqno seqno) rs

-- The actions of a proposal are in their ranges, and have so few bytes that its row is within the
-- limit of values.
pub record IsBoundedProposal (p : Proposal) : Type 0 where
  pub fits : are_actions p.actions ≡ true
  pub small : length (flat_map action_bytes p.actions) ≤ 60000

-- The bounds of a history. An endorsement has at most as many bytes as an LMS signature has.
pub record IsBounded (h : History) : Type 0 where
  pub rules : IfSome (constitution h) (λ rules. are_rules rules ≡ true)
  pub dealt : IfSome (dealing h) (λ d. is_dealing d ≡ true)
  pub few_nodes : length (nodes h) < 2 ^ 16
  pub endorsements : AllByRecursion (λ (n : RecordedNode). length n.node.endorsement ≤ 2508)
      (nodes h)
  pub proposed : AllByRecursion IsBoundedProposal (proposals h)
