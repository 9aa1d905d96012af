-- Proposals, the ballots on them, and the state of each (CCF documentation, "Proposals").
use Rattle.std.specs.Prelude.{ℕ, List, [], ◌∷◌, ◌++◌, Option, None, Some, Bool, true, false, ◌&&◌, ◌||◌, not, find, map, filter_map, option_map, count_by, nat_lt, nat_le, nat_eq, if◌then◌else◌}
use Rattle.std.specs.List.{list_any}
use Rattle.std.specs.Option.{option_to_list}
use Rattle.gl_base.specs.Bytes.{same_bytes}
use Rattle.gl_requests.specs.Encoding.{proposal_id}
use Rattle.gl_requests.specs.declared.action.Action.TheVariants as actions
use Rattle.gl_requests.specs.declared.request.MemberAct.{MemberAct}
use Rattle.gl_requests.specs.declared.request.MemberAct.TheVariants as acts
use Rattle.gl_requests.specs.declared.request.MemberRequest.{MemberRequest}
use Rattle.gl_requests.specs.declared.request.GovernanceRequest.{GovernanceRequest}
use Rattle.gl_requests.specs.declared.request.GovernanceRequest.TheVariants as requests
use Rattle.gl_gov_rules.specs.declared.change.Recorded.{Recorded}
use Rattle.gl_gov_rules.specs.declared.change.Proposal.{Proposal}
use Rattle.gl_gov_rules.specs.declared.change.ProposalState.{ProposalState}
use Rattle.gl_gov_rules.specs.declared.change.ProposalState.TheVariants as states
use Rattle.gl_gov_rules.specs.declared.change.Change.{Change}
use Rattle.gl_gov_rules.specs.declared.change.Change.TheVariants as changes
use Rattle.gl_gov_rules.specs.declared.change.Changed.{Changed}
use Rattle.gl_gov_rules.specs.declared.change.Ballot.{Ballot}
use Rattle.gl_gov_rules.specs.declared.change.Settling.{Settling}
use Rattle.gl_gov_rules.specs.History.{History, Answered}

-- The proposal that a request makes.
abbrev pub proposal_in_act : ℕ → MemberRequest → MemberAct → Option Proposal
proposal_in_act seqno m (acts.Propose list) =
    Some (record { id = proposal_id m; seqno = seqno; proposer = m.member; actions = list })
proposal_in_act seqno m other = None

abbrev pub proposal_in : ℕ → GovernanceRequest → Option Proposal
proposal_in seqno (requests.Member m) = proposal_in_act seqno m m.act
proposal_in seqno other = None

-- All proposals, in order.
unfoldable pub proposals : History → List Proposal
proposals h =
    h.carried.proposals ++ filter_map (λ (r : Recorded). proposal_in r.seqno r.request) h.requests

-- The proposal with this identifier, if there is one.
abbrev pub has_proposal_id : List ℕ → Proposal → Bool
has_proposal_id id p = same_bytes p.id id

unfoldable pub proposal : History → List ℕ → Option Proposal
proposal h id = find (has_proposal_id id) (proposals h)

-- Dropped, where what drops proposals stands after the proposal.
abbrev pub dropped_if : Bool → Option ProposalState
dropped_if later = if later then Some states.Dropped else None

-- The state in which a change at a seqno settles a proposal: its own settling; and Dropped by a
-- recovery or a new constitution that comes later than it was made.
abbrev pub state_settled : Proposal → ℕ → Change → Option ProposalState
state_settled p seqno (changes.Recovered key) = dropped_if (nat_lt p.seqno seqno)
state_settled p seqno (changes.Applied (actions.SetConstitution rules)) =
    dropped_if (nat_lt p.seqno seqno)
state_settled p seqno (changes.Settled id state) = if same_bytes p.id id then Some state else None
state_settled p seqno other = None

-- The first of these states; with none a proposal is Open.
abbrev pub first_or_open : List ProposalState → ProposalState
first_or_open [] = states.Open
first_or_open (s ∷ ss) = s

-- A proposal has the state in which the first change settles it.
unfoldable pub proposal_state : History → Proposal → ProposalState
proposal_state h p =
    first_or_open (filter_map (λ (c : Changed). state_settled p c.seqno c.change) h.changes)

-- What settles a proposal: the first change that does, up to which it is open.
abbrev pub settling_by : Proposal → Changed → Option Settling
settling_by p c =
    option_map (λ state. record { seqno = c.seqno; state = state })
    (state_settled p c.seqno c.change)

abbrev pub first_settling : List Settling → Option Settling
first_settling [] = None
first_settling (s ∷ ss) = Some s

unfoldable pub settling_in : List Changed → Proposal → Option Settling
settling_in cs p = first_settling (filter_map (settling_by p) cs)

unfoldable pub settlings : History → List (Option Settling)
settlings h = map (settling_in h.changes) (proposals h)

-- The state of a proposal that is settled so; it is open where it isn't.
abbrev pub settled_state : Option Settling → ProposalState
settled_state None = states.Open
settled_state (Some s) = s.state

-- What settles a proposal up to a seqno.
abbrev pub settling_up_to : ℕ → Option Settling → Option Settling
settling_up_to to None = None
settling_up_to to (Some s) = if nat_le s.seqno to then Some s else None

abbrev pub is_open_state : ProposalState → Bool
is_open_state states.Open = true
is_open_state other = false

-- How many proposals are open.
unfoldable pub open_count : History → ℕ
open_count h = count_by (λ (p : Proposal). is_open_state (proposal_state h p)) (proposals h)

-- The two answers are the same.
abbrev pub same_answer : Bool → Bool → Bool
same_answer true b = b
same_answer false b = not b

-- The request is the member's ballot on this proposal, with this answer.
abbrev pub is_answer_on : List ℕ → Bool → MemberAct → Bool
is_answer_on id agrees (acts.Ballot on given) = same_bytes on id && same_answer given agrees
is_answer_on id agrees other = false

abbrev pub is_ballot : List ℕ → ℕ → Bool → GovernanceRequest → Bool
is_ballot id number agrees (requests.Member m) =
    nat_eq m.member number && is_answer_on id agrees m.act
is_ballot id number agrees other = false

-- The answer that a request gives.
abbrev pub answer_in_act : ℕ → MemberAct → Option Answered
answer_in_act member (acts.Ballot on agrees) =
    Some (record { id = on; member = member; agrees = agrees })
answer_in_act member other = None

abbrev pub answer_in : GovernanceRequest → Option Answered
answer_in (requests.Member m) = answer_in_act m.member m.act
answer_in other = None

-- All answers, and those with that of one more request.
unfoldable pub answers_of : History → List Answered
answers_of h = h.carried.ballots ++ filter_map (λ (r : Recorded). answer_in r.request) h.requests

abbrev pub answers_with : History → GovernanceRequest → List Answered
answers_with h g = answers_of h ++ option_to_list (answer_in g)

-- The answer is the member's on this proposal.
abbrev pub is_answer : List ℕ → Bool → ℕ → Answered → Bool
is_answer id agrees number a =
    nat_eq a.member number && (same_bytes a.id id && same_answer a.agrees agrees)

-- Among these is the member's ballot on this proposal, with this answer; or with any.
unfoldable pub has_answered : List Answered → List ℕ → Bool → ℕ → Bool
has_answered given id agrees number = list_any (is_answer id agrees number) given

unfoldable pub has_ballot : List Answered → List ℕ → ℕ → Bool
has_ballot given id number = has_answered given id true number || has_answered given id false number

-- The ballot on this proposal that a request gives, if it is one.
abbrev pub ballot_in_act : List ℕ → ℕ → ℕ → MemberAct → Option Ballot
ballot_in_act id seqno member (acts.Ballot on agrees) =
    if same_bytes on id then Some (record { seqno = seqno; member = member; agrees = agrees })
    else None
ballot_in_act id seqno member other = None

abbrev pub ballot_in : List ℕ → ℕ → GovernanceRequest → Option Ballot
ballot_in id seqno (requests.Member m) = ballot_in_act id seqno m.member m.act
ballot_in id seqno other = None

abbrev pub ballot_on : List ℕ → Recorded → Option Ballot
ballot_on id r = ballot_in id r.seqno r.request

-- The ballot on this proposal that is carried, if it is one, at seqno 0.
abbrev pub ballot_carried : List ℕ → Answered → Option Ballot
ballot_carried id a =
    if same_bytes a.id id then Some (record { seqno = 0; member = a.member; agrees = a.agrees })
    else None

-- All ballots on this proposal, in order.
unfoldable pub ballots_on : List ℕ → History → List Ballot
ballots_on id h =
    filter_map (ballot_carried id) h.carried.ballots ++ filter_map (ballot_on id) h.requests

-- The ballot is the member's, with this answer.
abbrev pub is_vote : ℕ → Bool → Ballot → Bool
is_vote number agrees b = nat_eq b.member number && same_answer b.agrees agrees
