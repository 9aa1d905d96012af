-- What is told of a request of governance, and which proposals and requests lines may name.
use Rattle.std.specs.Prelude.{ℕ, suc, List, [], ◌∷◌, ◌++◌, Option, None, Some, Bool, find, position, nat_eq, codes, decimal, if◌then◌else◌}
use Rattle.std.specs.List.{list_any}
use Rattle.gl_base.specs.Bytes.{same_bytes}
use Rattle.gl_rules.specs.Outcome as outcome
use Rattle.gl_requests.specs.Encoding.{proposal_id}
use Rattle.gl_requests.specs.declared.request.MemberAct.{MemberAct}
use Rattle.gl_requests.specs.declared.request.MemberAct.TheVariants as acts
use Rattle.gl_requests.specs.declared.request.MemberRequest.{MemberRequest}
use Rattle.gl_requests.specs.declared.request.GovernanceRequest.{GovernanceRequest}
use Rattle.gl_requests.specs.declared.request.GovernanceRequest.TheVariants as requests
use Rattle.gl_gov_rules.specs.declared.change.ProposalState.{ProposalState}
use Rattle.gl_gov_rules.specs.declared.change.ProposalState.TheVariants as states
use Rattle.gl_gov_rules.specs.declared.change.ProposalStatus.{ProposalStatus}
use Rattle.gl_ledger.specs.declared.response.Response.{Response}
use Rattle.gl_ledger.specs.declared.response.Response.TheVariants.{Replied, Governed}
use Rattle.gl_world.specs.World.{ServiceOutcome}
use Rattle.gl_schedule.specs.declared.line_request.LineRequest.{LineRequest}
use Rattle.gl_schedule.specs.declared.proposals.NumberedProposal.{NumberedProposal}

-- Requests

abbrev pub has_line : ℕ → LineRequest → Bool
has_line number r = nat_eq r.line number

-- The request of governance of the line with a number, if it made one.
abbrev pub request_named : List LineRequest → ℕ → Option LineRequest
request_named requests number = find (has_line number) requests

-- Proposals

abbrev pub proposal_in_act : MemberRequest → MemberAct → Option (List ℕ)
proposal_in_act m (acts.Propose list) = Some (proposal_id m)
proposal_in_act m other = None

-- The identifier of the proposal that a request makes.
abbrev pub proposal_made : GovernanceRequest → Option (List ℕ)
proposal_made (requests.Member m) = proposal_in_act m m.act
proposal_made other = None

-- A proposal is listed once.
abbrev pub with_proposal : List (List ℕ) → Option (List ℕ) → List (List ℕ)
with_proposal ids None = ids
with_proposal ids (Some id) = if list_any (same_bytes id) ids then ids else ids ++ id ∷ []

-- The proposals after a request with this outcome.
abbrev pub proposals_after : List (List ℕ) → GovernanceRequest → ServiceOutcome → List (List ℕ)
proposals_after ids request (outcome.Accepted view seqno given) =
    with_proposal ids (proposal_made request)
proposals_after ids request other = ids

abbrev pub status_given : Response → Option ProposalStatus
status_given (Replied answers) = None
status_given (Governed status) = status

-- The proposal that an accepted request concerns, in the state that it then has.
abbrev pub status_after : ServiceOutcome → Option ProposalStatus
status_after (outcome.Accepted view seqno given) = status_given given
status_after other = None

abbrev pub number_at : Option ℕ → ℕ
number_at None = 0
number_at (Some place) = suc place

-- The number of a listed proposal, from 1, or 0.
abbrev pub number_of : List (List ℕ) → List ℕ → ℕ
number_of ids id = number_at (position (same_bytes id) ids)

abbrev pub numbered_proposal : List (List ℕ) → ProposalStatus → NumberedProposal
numbered_proposal ids status =
    record { number = number_of ids status.id; state = status.state }

-- Its text

abbrev pub state_text : ProposalState → List ℕ
state_text states.Open = codes "Open"
state_text states.Accepted = codes "Accepted"
state_text states.Rejected = codes "Rejected"
state_text states.Withdrawn = codes "Withdrawn"
state_text states.Failed = codes "Failed"
state_text states.Dropped = codes "Dropped"

abbrev pub proposal_text : Option NumberedProposal → List ℕ
proposal_text None = []
proposal_text (Some p) =
    codes " proposal " ++ decimal p.number ++ codes " " ++ state_text p.state

abbrev pub numbered_in : List (List ℕ) → Option ProposalStatus → Option NumberedProposal
numbered_in ids None = None
numbered_in ids (Some status) = Some (numbered_proposal ids status)

-- What is reported after the outcome of a request.
abbrev pub governed_text : List (List ℕ) → ServiceOutcome → List ℕ
governed_text ids o = proposal_text (numbered_in ids (status_after o))
