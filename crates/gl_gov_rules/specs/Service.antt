-- What is in force: the constitution, the dealing of the recovery secret, the service's key and its
-- state, and the shares that members gave (CCF documentation, "Disaster Recovery").
use Rattle.std.specs.Prelude.{ℕ, List, ◌++◌, Option, None, Some, Bool, true, false, filter_map, option_map, nat_lt, if◌then◌else◌}
use Rattle.std.specs.List.{list_any}
use Rattle.gl_vmaps.specs.LastWrite.{last_such}
use Rattle.gl_shares.specs.declared.share.Share.{Share}
use Rattle.gl_requests.specs.declared.genesis.ServiceState.{ServiceState}
use Rattle.gl_requests.specs.declared.genesis.ServiceState.TheVariants as services
use Rattle.gl_requests.specs.declared.genesis.Dealing.{Dealing}
use Rattle.gl_requests.specs.declared.action.Rule.{Rule}
use Rattle.gl_requests.specs.declared.action.Action.TheVariants as actions
use Rattle.gl_requests.specs.declared.request.MemberAct.{MemberAct}
use Rattle.gl_requests.specs.declared.request.MemberAct.TheVariants as acts
use Rattle.gl_requests.specs.declared.request.GovernanceRequest.{GovernanceRequest}
use Rattle.gl_requests.specs.declared.request.GovernanceRequest.TheVariants as requests
use Rattle.gl_gov_rules.specs.declared.change.Recorded.{Recorded}
use Rattle.gl_gov_rules.specs.declared.change.Change.{Change}
use Rattle.gl_gov_rules.specs.declared.change.Change.TheVariants as changes
use Rattle.gl_gov_rules.specs.declared.change.Changed.{Changed}
use Rattle.gl_gov_rules.specs.declared.request_facts.GivenShare.{GivenShare}
use Rattle.gl_gov_rules.specs.History.{History, last_set, seqno_of}

-- The constitution, the rule of each action in order, is the last one applied.
abbrev pub sets_rules : Change → Option (List Rule)
sets_rules (changes.Applied (actions.SetConstitution rules)) = Some rules
sets_rules other = None

unfoldable pub constitution : History → Option (List Rule)
constitution h = last_set sets_rules h.changes

-- The dealing is the last one applied.
abbrev pub sets_dealing : Change → Option Dealing
sets_dealing (changes.Applied (actions.SetRecoveryThreshold d)) = Some d
sets_dealing other = None

unfoldable pub dealing : History → Option Dealing
dealing h = last_set sets_dealing h.changes

-- How many shares the dealing asks for.
abbrev pub threshold_of : Option Dealing → ℕ
threshold_of None = 0
threshold_of (Some d) = d.threshold

-- The service's key is the last that a founding or a recovery named.
abbrev pub sets_identity : Change → Option (List ℕ)
sets_identity (changes.Founded state key) = Some key
sets_identity (changes.Recovered key) = Some key
sets_identity other = None

unfoldable pub identity : History → Option (List ℕ)
identity h = last_set sets_identity h.changes

-- The service was recovered.
abbrev pub is_recovery : Change → Bool
is_recovery (changes.Recovered key) = true
is_recovery other = false

unfoldable pub is_recovered : History → Bool
is_recovered h = list_any (λ (c : Changed). is_recovery c.change) h.changes

-- Opening a recovered service begins the wait for shares.
abbrev pub state_once_open : Bool → ServiceState
state_once_open recovered =
    if recovered then services.WaitingForRecoveryShares else services.Open

-- The state that a change sets the service to.
abbrev pub sets_state : Bool → Change → Option ServiceState
sets_state recovered (changes.Founded state key) = Some state
sets_state recovered (changes.Recovered key) = Some services.Opening
sets_state recovered (changes.Applied actions.TransitionServiceToOpen) =
    Some (state_once_open recovered)
sets_state recovered changes.Completed = Some services.Open
sets_state recovered other = None

-- The service's state is the last one set. A recovery is never taken back.
unfoldable pub service_state : History → Option ServiceState
service_state h = last_set (sets_state (is_recovered h)) h.changes

-- An opening, and a new dealing, clear the shares that were given.
abbrev pub clears_shares : Change → Bool
clears_shares (changes.Applied (actions.SetRecoveryThreshold d)) = true
clears_shares (changes.Applied actions.TransitionServiceToOpen) = true
clears_shares other = false

-- The seqno of the last change that cleared them, or 0.
unfoldable pub last_clearing : History → ℕ
last_clearing h = seqno_of (last_such (λ (c : Changed). clears_shares c.change) h.changes)

-- The share that a request gives.
abbrev pub share_in_act : ℕ → MemberAct → Option Share
share_in_act member (acts.Share value) = Some (record { member = member; value = value })
share_in_act member other = None

abbrev pub share_in : GovernanceRequest → Option Share
share_in (requests.Member m) = share_in_act m.member m.act
share_in other = None

-- The share that is given, with its seqno.
abbrev pub given_share : ℕ → Share → GivenShare
given_share seqno share = record { seqno = seqno; share = share }

abbrev pub given_in : ℕ → GovernanceRequest → Option GivenShare
given_in seqno g = option_map (given_share seqno) (share_in g)

-- The shares that were given at any time, in order.
unfoldable pub given : History → List GivenShare
given h = h.carried.shares ++ filter_map (λ (r : Recorded). given_in r.seqno r.request) h.requests

-- A share, where it was given after a seqno; and where the request that gives it stands after it.
abbrev pub given_after : ℕ → GivenShare → Option Share
given_after seqno g = if nat_lt seqno g.seqno then Some g.share else None

abbrev pub share_after : ℕ → Recorded → Option Share
share_after seqno r = if nat_lt seqno r.seqno then share_in r.request else None

-- The shares given after the last change that cleared them, in the order in which they were given.
unfoldable pub shares_given : History → List Share
shares_given h = filter_map (given_after (last_clearing h)) (given h)
