-- The bytes of requests of governance. Numbers have their least significant byte first.
use Rattle.std.specs.Prelude.{ℕ, List, [], ◌∷◌, ◌++◌, codes, length}
use Rattle.std.specs.List.{flat_map}
use Rattle.sha2.specs.Sha256.{sha256}
use Rattle.gl_base.specs.LittleEndian.{little_endian}
use Rattle.gl_base.specs.Code.{flag_byte}
use Rattle.gl_base.specs.Field.{with_u32_length}
use Rattle.gl_requests.specs.declared.genesis.ServiceState.{ServiceState}
use Rattle.gl_requests.specs.declared.genesis.ServiceState.TheVariants as services
use Rattle.gl_requests.specs.declared.genesis.NewNode.{NewNode}
use Rattle.gl_requests.specs.declared.genesis.NewMember.{NewMember}
use Rattle.gl_requests.specs.declared.genesis.ShareDigest.{ShareDigest}
use Rattle.gl_requests.specs.declared.genesis.Dealing.{Dealing}
use Rattle.gl_requests.specs.declared.action.Rule.{Rule}
use Rattle.gl_requests.specs.declared.action.Action.{Action}
use Rattle.gl_requests.specs.declared.action.Action.TheVariants as actions
use Rattle.gl_requests.specs.declared.request.MemberAct.{MemberAct}
use Rattle.gl_requests.specs.declared.request.MemberAct.TheVariants as acts
use Rattle.gl_requests.specs.declared.request.MemberRequest.{MemberRequest}
use Rattle.gl_requests.specs.declared.request.GovernanceRequest.{GovernanceRequest}
use Rattle.gl_requests.specs.declared.request.GovernanceRequest.TheVariants as requests

-- The byte that encodes a service's state.
abbrev pub state_byte : ServiceState → ℕ
state_byte services.Opening = 1
state_byte services.Open = 2
state_byte services.WaitingForRecoveryShares = 3

-- A node's identifier is the SHA-256 digest of its key.
abbrev pub node_id : NewNode → List ℕ
node_id n = sha256 n.key

-- Parts

-- Parts of one kind, one after the other, after their count of one byte.
abbrev pub counted_bytes : {X : Type 0} → (X → List ℕ) → List X → List ℕ
counted_bytes bytes xs = little_endian 1 (length xs) ++ flat_map bytes xs

-- A node: its key, and its endorsement after its length.
abbrev pub node_bytes : NewNode → List ℕ
node_bytes n = n.key ++ with_u32_length n.endorsement

-- A member: its number and its key.
abbrev pub member_bytes : NewMember → List ℕ
member_bytes m = m.number ∷ m.key

-- A share's digest: the member who holds it, and the digest.
abbrev pub share_bytes : ShareDigest → List ℕ
share_bytes s = s.member ∷ s.digest

-- A dealing: its threshold, the secret's digest, and the digests of its shares.
abbrev pub dealing_bytes : Dealing → List ℕ
dealing_bytes d = (d.threshold ∷ d.secret_digest) ++ counted_bytes share_bytes d.shares

-- A fraction: its two numbers.
abbrev pub rule_bytes : Rule → List ℕ
rule_bytes r = little_endian 2 r.num ++ little_endian 2 r.den

-- Actions

-- The number of an action, under which its rule stands in the constitution.
abbrev pub action_number : Action → ℕ
action_number (actions.SetMember m) = 1
action_number (actions.RemoveMember number) = 2
action_number (actions.SetRecoveryThreshold d) = 3
action_number (actions.TransitionNodeToTrusted id) = 4
action_number (actions.RemoveNode id) = 5
action_number actions.TransitionServiceToOpen = 6
action_number (actions.SetConstitution rules) = 7

-- The fields of an action.
abbrev pub action_fields : Action → List ℕ
action_fields (actions.SetMember m) = member_bytes m
action_fields (actions.RemoveMember number) = number ∷ []
action_fields (actions.SetRecoveryThreshold d) = dealing_bytes d
action_fields (actions.TransitionNodeToTrusted id) = id
action_fields (actions.RemoveNode id) = id
action_fields actions.TransitionServiceToOpen = []
action_fields (actions.SetConstitution rules) = flat_map rule_bytes rules

-- An action: its number, then its fields.
abbrev pub action_bytes : Action → List ℕ
action_bytes a = action_number a ∷ action_fields a

-- Requests

-- The tag of what a member asks for.
abbrev pub act_tag : MemberAct → ℕ
act_tag acts.Ack = 5
act_tag (acts.Propose list) = 6
act_tag (acts.Ballot id agrees) = 7
act_tag (acts.Withdraw id) = 8
act_tag (acts.Share share) = 9

-- The fields of what a member asks for.
abbrev pub act_fields : MemberAct → List ℕ
act_fields acts.Ack = []
act_fields (acts.Propose list) = counted_bytes action_bytes list
act_fields (acts.Ballot id agrees) = id ++ flag_byte agrees ∷ []
act_fields (acts.Withdraw id) = id
act_fields (acts.Share share) = share

-- A member's request without its signature: its tag, the member's number, and its fields.
abbrev pub act_bytes : ℕ → MemberAct → List ℕ
act_bytes member act = (act_tag act ∷ member ∷ []) ++ act_fields act

-- A request: its tag, then its fields. That of a member ends with the signature after its length.
abbrev pub request_bytes : GovernanceRequest → List ℕ
request_bytes (requests.Genesis g) =
    (1 ∷ state_byte g.state ∷ g.identity) ++ counted_bytes node_bytes g.nodes
    ++ counted_bytes member_bytes g.members ++ dealing_bytes g.dealing
request_bytes (requests.Recover r) = (2 ∷ r.identity) ++ counted_bytes node_bytes r.nodes
request_bytes (requests.Join n) = 3 ∷ node_bytes n
request_bytes (requests.Mark id) = 4 ∷ id
request_bytes (requests.Member m) = act_bytes m.member m.act ++ with_u32_length m.signature

-- What a member signs: a word, the service's key, and the request's bytes before the signature.
abbrev pub signed_bytes : List ℕ → MemberRequest → List ℕ
signed_bytes identity m = codes "gl-gov1" ++ identity ++ act_bytes m.member m.act

-- A proposal's identifier is the digest of the whole request that made it.
abbrev pub proposal_id : MemberRequest → List ℕ
proposal_id m = sha256 (request_bytes (requests.Member m))
