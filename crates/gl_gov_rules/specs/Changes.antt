-- What a request brings about, and the history of a list of requests: the ballots are counted again
-- at each ballot, and what is accepted is applied then.
use Rattle.std.specs.Prelude.{ℕ, suc, List, [], ◌∷◌, ◌++◌, Option, None, Some, Bool, length, replicate, map, fold, nat_le, if◌then◌else◌}
use Rattle.gl_requests.specs.declared.genesis.NewMember.{NewMember}
use Rattle.gl_requests.specs.declared.genesis.Genesis as founding
use Rattle.gl_requests.specs.declared.action.Rule.{Rule}
use Rattle.gl_requests.specs.declared.action.Action.{Action}
use Rattle.gl_requests.specs.declared.action.Action.TheVariants as actions
use Rattle.gl_requests.specs.declared.request.MemberAct.{MemberAct}
use Rattle.gl_requests.specs.declared.request.MemberAct.TheVariants as acts
use Rattle.gl_requests.specs.declared.request.GovernanceRequest.{GovernanceRequest}
use Rattle.gl_requests.specs.declared.request.GovernanceRequest.TheVariants as requests
use Rattle.gl_gov_rules.specs.declared.change.Recorded.{Recorded}
use Rattle.gl_gov_rules.specs.declared.change.Proposal.{Proposal}
use Rattle.gl_gov_rules.specs.declared.change.ProposalState.TheVariants as states
use Rattle.gl_gov_rules.specs.declared.change.Change.{Change}
use Rattle.gl_gov_rules.specs.declared.change.Change.TheVariants as changes
use Rattle.gl_gov_rules.specs.declared.change.Changed.{Changed}
use Rattle.gl_gov_rules.specs.declared.change.Tally.{Tally}
use Rattle.gl_gov_rules.specs.declared.refusal.Cause.{Cause}
use Rattle.gl_gov_rules.specs.History.{History, Answered, no_history}
use Rattle.gl_gov_rules.specs.Service.{dealing, threshold_of, shares_given}
use Rattle.gl_gov_rules.specs.Proposals.{proposal, answers_with}
use Rattle.gl_gov_rules.specs.Actions.{first_bad_action}
use Rattle.gl_gov_rules.specs.Tally.{tally, is_accepted, is_rejected}

-- Until it is changed, more than half of the active members have to agree to each action.
abbrev pub first_rules : List Rule
first_rules = replicate 7 (record { num = 1; den = 2 })

abbrev pub set_member : NewMember → Change
set_member m = changes.Applied (actions.SetMember m)

-- A founding sets the first constitution and the dealing that it names, and its members.
abbrev pub founding_changes : founding.Genesis → List Change
founding_changes g =
    changes.Founded g.state g.identity ∷ changes.Applied (actions.SetConstitution first_rules)
    ∷ changes.Applied (actions.SetRecoveryThreshold g.dealing) ∷ map set_member g.members

-- A proposal that enough members agree to is accepted, and its actions are applied in order; unless
-- one of them is bad: then it failed, and none is applied.
abbrev pub acceptance_changes : List ℕ → List Action → Option (ℕ × Cause) → List Change
acceptance_changes id list None =
    changes.Settled id states.Accepted ∷ map (λ a. changes.Applied a) list
acceptance_changes id list (Some bad) = changes.Settled id states.Failed ∷ []

-- A ballot settles its proposal where enough agreed, or so many refused that enough never will.
unfoldable pub ballot_changes : History → ℕ → List ℕ → Tally → List Action → List Change
ballot_changes h seqno id t list =
    if is_accepted h t list then acceptance_changes id list (first_bad_action h seqno 1 list)
    else (if is_rejected h t list then changes.Settled id states.Rejected ∷ [] else [])

abbrev pub ballot_changes_on : History → List Answered → ℕ → List ℕ → Option Proposal → List Change
ballot_changes_on h given seqno id None = []
ballot_changes_on h given seqno id (Some p) = ballot_changes h seqno id (tally h given id) p.actions

-- One more share, with those that were given, is as many as the dealing asks for.
unfoldable pub is_complete : History → Bool
is_complete h = nat_le (threshold_of (dealing h)) (suc (length (shares_given h)))

abbrev pub act_changes : History → List Answered → ℕ → MemberAct → List Change
act_changes h given seqno (acts.Ballot id agrees) =
    ballot_changes_on h given seqno id (proposal h id)
act_changes h given seqno (acts.Withdraw id) = changes.Settled id states.Withdrawn ∷ []
act_changes h given seqno (acts.Share share) = if is_complete h then changes.Completed ∷ [] else []
act_changes h given seqno other = []

-- What a request brings about after a history; the ballots are those among these answers.
abbrev pub request_changes : History → List Answered → ℕ → GovernanceRequest → List Change
request_changes h given seqno (requests.Genesis g) = founding_changes g
request_changes h given seqno (requests.Recover r) = changes.Recovered r.identity ∷ []
request_changes h given seqno (requests.Member m) = act_changes h given seqno m.act
request_changes h given seqno other = []

-- The changes that a recorded request brings about: a ballot is counted with those before it.
unfoldable pub changes_of : History → Recorded → List Change
changes_of h r = request_changes h (answers_with h r.request) r.seqno r.request

abbrev pub changed_at : ℕ → Change → Changed
changed_at seqno c = record { seqno = seqno; change = c }

-- The history with one more request.
unfoldable pub with_request : History → Recorded → History
with_request h r = record {
  carried = h.carried;
  requests = h.requests ++ r ∷ [];
  changes = h.changes ++ map (changed_at r.seqno) (changes_of h r);
}

-- The history of a list of requests.
unfoldable pub history : List Recorded → History
history rs = fold with_request no_history rs
