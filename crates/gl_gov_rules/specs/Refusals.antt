-- When a request of governance is refused, and why: the first cause that stands.
use Rattle.std.specs.Prelude.{ℕ, ◌+◌, ◌-◌, List, [], ◌∷◌, ◌++◌, Option, None, Some, Bool, true, false, ◌&&◌, ◌||◌, not, length, is_some, nat_le, nat_lt, nat_eq, ◌==◌, if◌then◌else◌}
use Rattle.std.specs.List.{list_any, list_all}
use Rattle.sha2.specs.Sha256.{sha256}
use Rattle.gl_base.specs.Bytes.{same_bytes}
use Rattle.gl_shares.specs.Joining.{joined}
use Rattle.gl_shares.specs.declared.share.Share.{Share}
use Rattle.gl_requests.specs.Encoding.{node_id, proposal_id}
use Rattle.gl_requests.specs.declared.genesis.ServiceState.{ServiceState}
use Rattle.gl_requests.specs.declared.genesis.ServiceState.TheVariants as services
use Rattle.gl_requests.specs.declared.genesis.NewNode.{NewNode}
use Rattle.gl_requests.specs.declared.genesis.NewMember.{NewMember}
use Rattle.gl_requests.specs.declared.genesis.ShareDigest.{ShareDigest}
use Rattle.gl_requests.specs.declared.genesis.Dealing.{Dealing}
use Rattle.gl_requests.specs.declared.genesis.Genesis as founding
use Rattle.gl_requests.specs.declared.genesis.Recovery.{Recovery}
use Rattle.gl_requests.specs.declared.action.Action.{Action}
use Rattle.gl_requests.specs.declared.request.MemberAct.{MemberAct}
use Rattle.gl_requests.specs.declared.request.MemberAct.TheVariants as acts
use Rattle.gl_requests.specs.declared.request.MemberRequest.{MemberRequest}
use Rattle.gl_requests.specs.declared.request.GovernanceRequest.{GovernanceRequest}
use Rattle.gl_requests.specs.declared.request.GovernanceRequest.TheVariants as requests
use Rattle.gl_gov_rules.specs.declared.change.RecordedNode.{RecordedNode}
use Rattle.gl_gov_rules.specs.declared.change.Proposal.{Proposal}
use Rattle.gl_gov_rules.specs.declared.refusal.NodeStatus.{NodeStatus}
use Rattle.gl_gov_rules.specs.declared.refusal.NodeStatus.TheVariants as node_statuses
use Rattle.gl_gov_rules.specs.declared.refusal.Cause.{Cause}
use Rattle.gl_gov_rules.specs.declared.refusal.Cause.TheVariants as causes
use Rattle.gl_gov_rules.specs.declared.refusal.GovernanceRefusal.{GovernanceRefusal}
use Rattle.gl_gov_rules.specs.declared.refusal.GovernanceRefusal.TheVariants as refusals
use Rattle.gl_gov_rules.specs.History.{History}
use Rattle.gl_gov_rules.specs.Signatures.{is_signed, leaf_of, is_endorsed}
use Rattle.gl_gov_rules.specs.Members.{has_number, member, is_ack, is_present, is_active, next_leaf}
use Rattle.gl_gov_rules.specs.Nodes.{node, nodes, node_status, pending_count}
use Rattle.gl_gov_rules.specs.Service.{identity, dealing, service_state, shares_given}
use Rattle.gl_gov_rules.specs.Proposals.{proposal, proposal_state, is_open_state, open_count, answers_of, has_ballot}
use Rattle.gl_gov_rules.specs.Actions.{◌orelse◌, where_is, has_key, is_dealing_in_order, first_bad_action}
use Rattle.gl_gov_rules.specs.Changes.{is_complete}

-- Foundings

-- No number, no key, and no identifier stands there twice.
abbrev pub are_numbers_distinct : List NewMember → Bool
are_numbers_distinct [] = true
are_numbers_distinct (m ∷ ms) = not (list_any (has_number m.number) ms) && are_numbers_distinct ms

abbrev pub are_keys_distinct : List NewMember → Bool
are_keys_distinct [] = true
are_keys_distinct (m ∷ ms) = not (list_any (has_key m.key) ms) && are_keys_distinct ms

abbrev pub is_node_with : List ℕ → NewNode → Bool
is_node_with id n = same_bytes (node_id n) id

abbrev pub are_ids_distinct : List NewNode → Bool
are_ids_distinct [] = true
are_ids_distinct (n ∷ ns) = not (list_any (is_node_with (node_id n)) ns) && are_ids_distinct ns

unfoldable pub is_any_recorded : History → List NewNode → Bool
is_any_recorded h ns = list_any (λ (n : NewNode). is_some (node h (node_id n))) ns

-- The dealing of a founding is among the members that it names.
abbrev pub are_held_by : List NewMember → List ShareDigest → Bool
are_held_by ms shares = list_all (λ (s : ShareDigest). list_any (has_number s.member) ms) shares

abbrev pub is_dealing_to : List NewMember → Dealing → Bool
is_dealing_to ms d = is_dealing_in_order d && are_held_by ms d.shares

-- What is bad in a founding stands at the index 0.
abbrev pub founding_fault : Cause → GovernanceRefusal
founding_fault cause = refusals.BadAction 0 cause

-- What is wrong with the members and the dealing of a founding.
unfoldable pub members_refusal : founding.Genesis → Option GovernanceRefusal
members_refusal g =
    where_is (not (are_numbers_distinct g.members)) (founding_fault causes.NumberUsed)
    orelse where_is (not (are_keys_distinct g.members)) (founding_fault causes.KeyUsed)
    orelse where_is (nat_lt 64 (length g.members)) (founding_fault causes.Full)
    orelse where_is (not (is_dealing_to g.members g.dealing)) (founding_fault causes.Dealing)

-- What is wrong with the nodes of a founding: one is named twice or recorded already, they are too
-- many, or there is none.
unfoldable pub nodes_refusal : History → List NewNode → Option GovernanceRefusal
nodes_refusal h ns =
    where_is (not (are_ids_distinct ns) || is_any_recorded h ns) (founding_fault causes.NodeStatus)
    orelse where_is (nat_lt 32 (length ns) || nat_lt 65535 (length (nodes h) + length ns))
    (founding_fault causes.Full)
    orelse where_is (length ns == 0) (founding_fault causes.LastTrusted)

-- Each node has the endorsement of the service's key.
unfoldable pub are_endorsed : List ℕ → List NewNode → Bool
are_endorsed key ns = list_all (λ (n : NewNode). is_endorsed key n.key n.endorsement) ns

unfoldable pub genesis_refusal : History → founding.Genesis → Option GovernanceRefusal
genesis_refusal h g =
    members_refusal g
    orelse nodes_refusal h g.nodes
    orelse where_is (not (are_endorsed g.identity g.nodes)) refusals.Signature

unfoldable pub recovery_refusal : History → Recovery → Option GovernanceRefusal
recovery_refusal h r =
    nodes_refusal h r.nodes
    orelse where_is (not (are_endorsed r.identity r.nodes)) refusals.Signature

-- Nodes

-- The service's key, no bytes before a founding.
abbrev pub key_in_force : Option (List ℕ) → List ℕ
key_in_force None = []
key_in_force (Some key) = key

-- The status of a node, none where it isn't recorded.
abbrev pub status_found : History → Option RecordedNode → Option NodeStatus
status_found h None = None
status_found h (Some n) = Some (node_status h n)

abbrev pub is_retired : Option NodeStatus → Bool
is_retired (Some node_statuses.Retired) = true
is_retired other = false

abbrev pub recorded_refusal : Option NodeStatus → Option GovernanceRefusal
recorded_refusal None = None
recorded_refusal (Some status) = Some (refusals.NodeState (Some status))

-- A node joins that the service endorses and that isn't recorded, up to 64 pending and 65,535 in
-- all.
abbrev pub room_refusal : History → List ℕ → Option GovernanceRefusal
room_refusal h id =
    recorded_refusal (status_found h (node h id))
    orelse where_is (nat_le 64 (pending_count h)) (refusals.TooMany 64)
    orelse where_is (nat_le 65535 (length (nodes h))) (refusals.TooMany 65535)

unfoldable pub join_refusal : History → NewNode → Option GovernanceRefusal
join_refusal h n =
    where_is (not (is_endorsed (key_in_force (identity h)) n.key n.endorsement)) refusals.Signature
    orelse room_refusal h (node_id n)

-- A node is marked that is retired.
unfoldable pub mark_refusal : History → List ℕ → Option GovernanceRefusal
mark_refusal h id =
    where_is (not (is_retired (status_found h (node h id))))
    (refusals.NodeState (status_found h (node h id)))

-- Who signed, and how

abbrev pub signature_refusal : History → MemberRequest → Option NewMember → Option GovernanceRefusal
signature_refusal h m None = Some refusals.NotMember
signature_refusal h m (Some of) =
    where_is (not (is_signed of.key (key_in_force (identity h)) m)) refusals.Signature

-- The leaf is above the last that the member used.
abbrev pub leaf_refusal : History → MemberRequest → Option GovernanceRefusal
leaf_refusal h m =
    where_is (nat_lt (leaf_of m.signature) (next_leaf h m.member))
    (refusals.LeafNotGreater (next_leaf h m.member - 1) (leaf_of m.signature))

-- A present member signs, which is active but for its Ack, with a leaf above the last.
unfoldable pub signed_refusal : History → MemberRequest → Option GovernanceRefusal
signed_refusal h m =
    where_is (not (is_present h m.member)) refusals.NotMember
    orelse where_is (not (is_ack m.act) && not (is_active h m.member)) refusals.NotActive
    orelse signature_refusal h m (member h m.member)
    orelse leaf_refusal h m

-- Proposals

abbrev pub bad_action_refusal : Option (ℕ × Cause) → Option GovernanceRefusal
bad_action_refusal None = None
bad_action_refusal (Some bad) = Some (refusals.BadAction bad.0 bad.1)

-- Up to 256 proposals are open. The actions of a new one can be applied in order to what is in
-- force, and it wasn't made before.
unfoldable pub propose_refusal :
    History → ℕ → MemberRequest → List Action → Option GovernanceRefusal
propose_refusal h seqno m list =
    where_is (nat_le 256 (open_count h)) (refusals.TooMany 256)
    orelse bad_action_refusal (first_bad_action h seqno 1 list)
    orelse where_is (is_some (proposal h (proposal_id m))) (refusals.KnownProposal (proposal_id m))

unfoldable pub open_refusal : History → Option Proposal → Option GovernanceRefusal
open_refusal h None = Some refusals.NoProposal
open_refusal h (Some p) =
    where_is (not (is_open_state (proposal_state h p))) (refusals.NotOpen (proposal_state h p))

-- A member answers an open proposal once.
unfoldable pub ballot_refusal : History → ℕ → List ℕ → Option GovernanceRefusal
ballot_refusal h member id =
    open_refusal h (proposal h id)
    orelse where_is (has_ballot (answers_of h) id member) refusals.HasBallot

abbrev pub proposer_refusal : ℕ → Option Proposal → Option GovernanceRefusal
proposer_refusal member None = None
proposer_refusal member (Some p) = where_is (not (nat_eq p.proposer member)) refusals.NotProposer

-- An open proposal is taken back by its proposer.
unfoldable pub withdraw_refusal : History → ℕ → List ℕ → Option GovernanceRefusal
withdraw_refusal h member id =
    open_refusal h (proposal h id) orelse proposer_refusal member (proposal h id)

-- Shares

abbrev pub is_waiting : Option ServiceState → Bool
is_waiting (Some services.WaitingForRecoveryShares) = true
is_waiting other = false

abbrev pub waiting_refusal : Option ServiceState → Option GovernanceRefusal
waiting_refusal None = None
waiting_refusal (Some state) =
    where_is (not (is_waiting (Some state))) (refusals.ServiceState state)

-- The digest is the one that the dealing has for the member.
abbrev pub is_dealt : ℕ → List ℕ → Option Dealing → Bool
is_dealt member digest None = false
is_dealt member digest (Some d) =
    list_any (λ (s : ShareDigest). nat_eq s.member member && same_bytes s.digest digest) d.shares

-- The digest of what the shares join to is the one that the dealing has of its secret.
abbrev pub secret_refusal : List ℕ → Option Dealing → Option GovernanceRefusal
secret_refusal got None = None
secret_refusal got (Some d) =
    where_is (not (same_bytes d.secret_digest got)) (refusals.Secret d.secret_digest got)

abbrev pub has_given : ℕ → Share → Bool
has_given member s = nat_eq s.member member

-- While the service waits for shares a member gives its own once; those that complete the threshold
-- join to the secret that was dealt.
unfoldable pub share_refusal : History → ℕ → List ℕ → Option GovernanceRefusal
share_refusal h member value =
    waiting_refusal (service_state h)
    orelse where_is (list_any (has_given member) (shares_given h)) (refusals.KnownShare member)
    orelse where_is (not (is_dealt member (sha256 value) (dealing h)))
    (refusals.WrongShare (sha256 value))
    orelse (if is_complete h
    then secret_refusal
    (sha256 (joined (shares_given h ++ record { member = member; value = value } ∷ []))) (dealing h)
    else None)

-- All requests

unfoldable pub act_refusal : History → ℕ → MemberRequest → MemberAct → Option GovernanceRefusal
act_refusal h seqno m acts.Ack = None
act_refusal h seqno m (acts.Propose list) = propose_refusal h seqno m list
act_refusal h seqno m (acts.Ballot id agrees) = ballot_refusal h m.member id
act_refusal h seqno m (acts.Withdraw id) = withdraw_refusal h m.member id
act_refusal h seqno m (acts.Share share) = share_refusal h m.member share

-- Why a request at a seqno is refused after a history, if it is.
unfoldable pub refusal : History → ℕ → GovernanceRequest → Option GovernanceRefusal
refusal h seqno (requests.Genesis g) = genesis_refusal h g
refusal h seqno (requests.Recover r) = recovery_refusal h r
refusal h seqno (requests.Join n) = join_refusal h n
refusal h seqno (requests.Mark id) = mark_refusal h id
refusal h seqno (requests.Member m) = signed_refusal h m orelse act_refusal h seqno m m.act
