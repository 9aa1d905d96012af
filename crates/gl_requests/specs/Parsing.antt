-- A request of governance read from its bytes, and the first fault.
use Rattle.std.specs.Prelude.{ℕ, zero, suc, List, [], ◌∷◌, Bool, ◌||◌, Option, Result, Ok, Err, ◌==◌, if◌then◌else◌}
use Rattle.std.specs.Result.{result_ok}
use Rattle.gl_base.specs.Bytes.{mebibyte}
use Rattle.gl_base.specs.Steps.{◌>>=◌}
use Rattle.gl_base.specs.Cut.{Unread, bytes_at, number_at, string_at}
use Rattle.gl_base.specs.Code.{field, flag_at, whole}
use Rattle.gl_base.specs.declared.fault.CodeFault.{CodeFault}
use Rattle.gl_base.specs.declared.fault.CodeFault.TheVariants as faults
use Rattle.gl_requests.specs.Ranges.{is_action_count}
use Rattle.gl_requests.specs.declared.genesis.ServiceState.{ServiceState}
use Rattle.gl_requests.specs.declared.genesis.ServiceState.TheVariants.{Opening, Open}
use Rattle.gl_requests.specs.declared.genesis.NewNode.{NewNode}
use Rattle.gl_requests.specs.declared.genesis.NewMember.{NewMember}
use Rattle.gl_requests.specs.declared.genesis.ShareDigest.{ShareDigest}
use Rattle.gl_requests.specs.declared.genesis.Dealing.{Dealing}
use Rattle.gl_requests.specs.declared.genesis.Genesis as founding
use Rattle.gl_requests.specs.declared.genesis.Recovery.{Recovery}
use Rattle.gl_requests.specs.declared.action.Rule.{Rule}
use Rattle.gl_requests.specs.declared.action.Action.{Action}
use Rattle.gl_requests.specs.declared.action.Action.TheVariants as actions
use Rattle.gl_requests.specs.declared.request.MemberAct.{MemberAct}
use Rattle.gl_requests.specs.declared.request.MemberAct.TheVariants as acts
use Rattle.gl_requests.specs.declared.request.MemberRequest.{MemberRequest}
use Rattle.gl_requests.specs.declared.request.GovernanceRequest.{GovernanceRequest}
use Rattle.gl_requests.specs.declared.request.GovernanceRequest.TheVariants as requests

-- What a reading reads, made into another value.
abbrev pub as_value : {X Y : Type 0} → (X → Y) → Result (X × Unread) CodeFault
    → Result (Y × Unread) CodeFault
as_value make read = read >>= λ x. Ok (make x.0, x.1)

-- Parts

-- So many of one kind, one after the other.
unfoldable pub repeated_at : {X : Type 0} → (Unread → Result (X × Unread) CodeFault) → ℕ → Unread
    → Result (List X × Unread) CodeFault
repeated_at one zero unread = Ok ([], unread)
repeated_at one (suc count) unread = do
  first ← one unread
  rest ← repeated_at one count first.1
  Ok (first.0 ∷ rest.0, rest.1)

-- A count of one byte, and so many.
unfoldable pub counted_at : {X : Type 0} → (Unread → Result (X × Unread) CodeFault) → Unread
    → Result (List X × Unread) CodeFault
counted_at one unread = do
  count ← field (number_at 1 unread)
  repeated_at one count.0 count.1

-- A state's byte; its place is told where it encodes none in which a service is founded.
abbrev pub state_in : ℕ → ℕ × Unread → Result (ServiceState × Unread) CodeFault
state_in place byte =
    if byte.0 == 1 then Ok (Opening, byte.1)
    else (if byte.0 == 2 then Ok (Open, byte.1) else Err (faults.Value place))

-- The state in which the service begins.
unfoldable pub state_at : Unread → Result (ServiceState × Unread) CodeFault
state_at unread = field (number_at 1 unread) >>= state_in unread.at

-- An endorsement or a signature after its length, which is 1 MiB at most.
unfoldable pub signature_at : Unread → Result (List ℕ × Unread) CodeFault
signature_at unread = field (string_at 4 mebibyte unread)

-- A digest, or an identifier that is one.
unfoldable pub digest_at : Unread → Result (List ℕ × Unread) CodeFault
digest_at unread = field (bytes_at 32 unread)

-- A node's key, and its endorsement.
unfoldable pub node_at : Unread → Result (NewNode × Unread) CodeFault
node_at unread = do
  key ← field (bytes_at 56 unread)
  endorsement ← signature_at key.1
  Ok (record { key = key.0; endorsement = endorsement.0 }, endorsement.1)

-- The number of a member; its place is told where it is 0.
abbrev pub member_number_in : ℕ → ℕ × Unread → Result (ℕ × Unread) CodeFault
member_number_in place number = if number.0 == 0 then Err (faults.Value place) else Ok number

unfoldable pub member_number_at : Unread → Result (ℕ × Unread) CodeFault
member_number_at unread = field (number_at 1 unread) >>= member_number_in unread.at

-- A member: its number and its key.
unfoldable pub member_at : Unread → Result (NewMember × Unread) CodeFault
member_at unread = do
  number ← member_number_at unread
  key ← field (bytes_at 60 number.1)
  Ok (record { number = number.0; key = key.0 }, key.1)

-- A share's digest: the member who holds it, and the digest.
unfoldable pub share_at : Unread → Result (ShareDigest × Unread) CodeFault
share_at unread = do
  member ← member_number_at unread
  digest ← digest_at member.1
  Ok (record { member = member.0; digest = digest.0 }, digest.1)

-- A dealing: its threshold, the secret's digest, and the shares' digests after their count.
unfoldable pub dealing_at : Unread → Result (Dealing × Unread) CodeFault
dealing_at unread = do
  threshold ← field (number_at 1 unread)
  secret ← digest_at threshold.1
  shares ← counted_at share_at secret.1
  Ok (
    record { threshold = threshold.0; secret_digest = secret.0; shares = shares.0 },
    shares.1,
  )

-- A fraction: its two numbers.
unfoldable pub rule_at : Unread → Result (Rule × Unread) CodeFault
rule_at unread = do
  num ← field (number_at 2 unread)
  den ← field (number_at 2 num.1)
  Ok (record { num = num.0; den = den.0 }, den.1)

-- Actions

-- The fields of the action with a number; the number's place is told where there is none with it.
unfoldable pub action_fields_at : ℕ → ℕ × Unread → Result (Action × Unread) CodeFault
action_fields_at place number =
    if number.0 == 1 then as_value actions.SetMember (member_at number.1)
    else (if number.0 == 2 then as_value actions.RemoveMember (member_number_at number.1)
    else (if number.0 == 3 then as_value actions.SetRecoveryThreshold (dealing_at number.1)
    else (if number.0 == 4 then as_value actions.TransitionNodeToTrusted (digest_at number.1)
    else (if number.0 == 5 then as_value actions.RemoveNode (digest_at number.1)
    else (if number.0 == 6 then Ok (actions.TransitionServiceToOpen, number.1)
    else (if number.0 == 7 then as_value actions.SetConstitution (repeated_at rule_at 7 number.1)
    else Err (faults.Value place)))))))

-- An action: its number, then its fields.
unfoldable pub action_at : Unread → Result (Action × Unread) CodeFault
action_at unread = field (number_at 1 unread) >>= action_fields_at unread.at

-- So many actions; the count's place is told where it is not from 1 to 16.
abbrev pub actions_in : ℕ → ℕ × Unread → Result (List Action × Unread) CodeFault
actions_in place count =
    if is_action_count count.0 then repeated_at action_at count.0 count.1
    else Err (faults.Value place)

-- The actions of a proposal, after their count.
unfoldable pub actions_at : Unread → Result (List Action × Unread) CodeFault
actions_at unread = field (number_at 1 unread) >>= actions_in unread.at

-- Requests

-- A ballot: the proposal's identifier, and whether the member agrees.
unfoldable pub ballot_at : Unread → Result (MemberAct × Unread) CodeFault
ballot_at unread = do
  id ← digest_at unread
  agrees ← flag_at id.1
  Ok (acts.Ballot id.0 agrees.0, agrees.1)

-- What a member asks for after its number, by its tag, which is from 5 to 9.
unfoldable pub act_at : ℕ → Unread → Result (MemberAct × Unread) CodeFault
act_at tag unread =
    if tag == 5 then Ok (acts.Ack, unread)
    else (if tag == 6 then as_value acts.Propose (actions_at unread)
    else (if tag == 7 then ballot_at unread
    else (if tag == 8 then as_value acts.Withdraw (digest_at unread)
    else as_value acts.Share (digest_at unread))))

-- A member's number, what it asks for, and its signature.
unfoldable pub member_request_at : ℕ → Unread → Result (MemberRequest × Unread) CodeFault
member_request_at tag unread = do
  member ← member_number_at unread
  act ← act_at tag member.1
  signature ← signature_at act.1
  Ok (record { member = member.0; act = act.0; signature = signature.0 }, signature.1)

-- The fields of a genesis, which stand after its tag.
unfoldable pub genesis_at : Unread → Result (founding.Genesis × Unread) CodeFault
genesis_at unread = do
  state ← state_at unread
  identity ← field (bytes_at 60 state.1)
  nodes ← counted_at node_at identity.1
  members ← counted_at member_at nodes.1
  dealing ← dealing_at members.1
  Ok (
    record {
      state = state.0;
      identity = identity.0;
      nodes = nodes.0;
      members = members.0;
      dealing = dealing.0;
    },
    dealing.1,
  )

-- The fields of a recovery.
unfoldable pub recovery_at : Unread → Result (Recovery × Unread) CodeFault
recovery_at unread = do
  identity ← field (bytes_at 60 unread)
  nodes ← counted_at node_at identity.1
  Ok (record { identity = identity.0; nodes = nodes.0 }, nodes.1)

-- The tag is one of a member's request.
abbrev pub is_act_tag : ℕ → Bool
is_act_tag tag =
    tag == 5 || tag == 6 || tag == 7 || tag == 8 || tag == 9

-- What stands after a tag; the tag's place is told where it is none.
unfoldable pub request_after : ℕ → ℕ × Unread → Result (GovernanceRequest × Unread) CodeFault
request_after place tag =
    if tag.0 == 1 then as_value requests.Genesis (genesis_at tag.1)
    else (if tag.0 == 2 then as_value requests.Recover (recovery_at tag.1)
    else (if tag.0 == 3 then as_value requests.Join (node_at tag.1)
    else (if tag.0 == 4 then as_value requests.Mark (digest_at tag.1)
    else (if is_act_tag tag.0 then as_value requests.Member (member_request_at tag.0 tag.1)
    else Err (faults.Value place)))))

-- A tag, and the request after it.
unfoldable pub request_at : Unread → Result (GovernanceRequest × Unread) CodeFault
request_at unread = field (number_at 1 unread) >>= request_after unread.at

-- The request of governance that bytes encode, all of them, or the first fault.
abbrev pub request_result : List ℕ → Result GovernanceRequest CodeFault
request_result bytes = whole request_at bytes

-- The request of governance that bytes encode, all of them, if they encode one.
abbrev pub request_in : List ℕ → Option GovernanceRequest
request_in bytes = result_ok (request_result bytes)
