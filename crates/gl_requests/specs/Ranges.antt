-- Which values are requests: the ranges of their fields, within which bytes encode one of them
-- alone.
use Rattle.std.specs.Prelude.{ℕ, ◌^◌, List, Bool, true, false, ◌&&◌, ◌==◌, length, nat_le, nat_lt}
use Rattle.std.specs.List.{list_all}
use Rattle.gl_base.specs.Bytes.{is_byte, are_bytes, are_sized, is_digest, mebibyte}
use Rattle.gl_requests.specs.declared.genesis.ServiceState.{ServiceState}
use Rattle.gl_requests.specs.declared.genesis.ServiceState.TheVariants as services
use Rattle.gl_requests.specs.declared.genesis.NewNode.{NewNode}
use Rattle.gl_requests.specs.declared.genesis.NewMember.{NewMember}
use Rattle.gl_requests.specs.declared.genesis.ShareDigest.{ShareDigest}
use Rattle.gl_requests.specs.declared.genesis.Dealing.{Dealing}
use Rattle.gl_requests.specs.declared.genesis.Genesis as founding
use Rattle.gl_requests.specs.declared.genesis.Recovery.{Recovery}
use Rattle.gl_requests.specs.declared.action.Rule.{Rule}
use Rattle.gl_requests.specs.declared.action.Action.{Action}
use Rattle.gl_requests.specs.declared.action.Action.TheVariants as actions
use Rattle.gl_requests.specs.declared.request.MemberAct.{MemberAct}
use Rattle.gl_requests.specs.declared.request.MemberAct.TheVariants as acts
use Rattle.gl_requests.specs.declared.request.MemberRequest.{MemberRequest}
use Rattle.gl_requests.specs.declared.request.GovernanceRequest.{GovernanceRequest}
use Rattle.gl_requests.specs.declared.request.GovernanceRequest.TheVariants as requests

-- An endorsement or a signature: at most 1 MiB.
abbrev pub is_signature_field : List ℕ → Bool
is_signature_field bytes = are_bytes bytes && nat_le (length bytes) mebibyte

-- So many that a byte counts them.
abbrev pub are_counted : {X : Type 0} → (X → Bool) → List X → Bool
are_counted is xs = nat_lt (length xs) 256 && list_all is xs

abbrev pub is_node : NewNode → Bool
is_node n = are_sized 56 n.key && is_signature_field n.endorsement

-- The number of a member, from 1 to 255.
abbrev pub is_member_number : ℕ → Bool
is_member_number number = nat_le 1 number && is_byte number

abbrev pub is_member : NewMember → Bool
is_member m = is_member_number m.number && are_sized 60 m.key

abbrev pub is_share : ShareDigest → Bool
is_share s = is_member_number s.member && is_digest s.digest

abbrev pub is_dealing : Dealing → Bool
is_dealing d = is_byte d.threshold && is_digest d.secret_digest && are_counted is_share d.shares

abbrev pub is_rule : Rule → Bool
is_rule r = nat_lt r.num (2 ^ 16) && nat_lt r.den (2 ^ 16)

-- A constitution has a rule for each of the seven actions.
abbrev pub are_rules : List Rule → Bool
are_rules rules = (length rules == 7) && list_all is_rule rules

abbrev pub is_action : Action → Bool
is_action (actions.SetMember m) = is_member m
is_action (actions.RemoveMember number) = is_member_number number
is_action (actions.SetRecoveryThreshold d) = is_dealing d
is_action (actions.TransitionNodeToTrusted id) = is_digest id
is_action (actions.RemoveNode id) = is_digest id
is_action actions.TransitionServiceToOpen = true
is_action (actions.SetConstitution rules) = are_rules rules

-- A proposal has 1 to 16 actions.
abbrev pub is_action_count : ℕ → Bool
is_action_count count = nat_le 1 count && nat_le count 16

abbrev pub are_actions : List Action → Bool
are_actions list = is_action_count (length list) && list_all is_action list

abbrev pub is_act : MemberAct → Bool
is_act acts.Ack = true
is_act (acts.Propose list) = are_actions list
is_act (acts.Ballot id agrees) = is_digest id
is_act (acts.Withdraw id) = is_digest id
is_act (acts.Share share) = is_digest share

abbrev pub is_member_request : MemberRequest → Bool
is_member_request m =
    is_member_number m.member && is_act m.act && is_signature_field m.signature

-- A service is founded opening or open.
abbrev pub is_first_state : ServiceState → Bool
is_first_state services.Opening = true
is_first_state services.Open = true
is_first_state services.WaitingForRecoveryShares = false

abbrev pub is_genesis : founding.Genesis → Bool
is_genesis g =
    is_first_state g.state && are_sized 60 g.identity && are_counted is_node g.nodes
    && are_counted is_member g.members && is_dealing g.dealing

abbrev pub is_recovery : Recovery → Bool
is_recovery r = are_sized 60 r.identity && are_counted is_node r.nodes

-- The fields of a request are in their ranges.
abbrev pub is_request : GovernanceRequest → Bool
is_request (requests.Genesis g) = is_genesis g
is_request (requests.Recover r) = is_recovery r
is_request (requests.Join n) = is_node n
is_request (requests.Mark id) = is_digest id
is_request (requests.Member m) = is_member_request m
