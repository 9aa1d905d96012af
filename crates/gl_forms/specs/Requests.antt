-- What a member asks for, and a proposal, in a JSON tree.
use Rattle.std.specs.Prelude.{ℕ, List, [], ◌∷◌, codes, Result, Ok, Err, if◌then◌else◌}
use Rattle.serde_json.specs.Data.{Data}
use Rattle.gl_base.specs.Bytes.{same_bytes}
use Rattle.gl_base.specs.Json.{member_of}
use Rattle.gl_base.specs.Steps.{◌>>=◌}
use Rattle.gl_base.specs.declared.json.FormsFault.{FormsFault}
use Rattle.gl_base.specs.declared.json.FormsFault.TheVariants as faults
use Rattle.gl_forms.specs.Form.{flag_in, object_at, member_at, word_at}
use Rattle.gl_forms.specs.Parts.{digest_in}
use Rattle.gl_forms.specs.Actions.{actions_in}
use Rattle.gl_requests.specs.declared.action.Action.{Action}
use Rattle.gl_requests.specs.declared.request.MemberAct.{MemberAct}
use Rattle.gl_requests.specs.declared.request.MemberAct.TheVariants as acts

-- A proposal: its actions alone.
unfoldable pub proposal_in : Data → Result (List Action) FormsFault
proposal_in value = object_at [] (codes "actions" ∷ []) value >>= λ only. actions_in value

unfoldable pub ack_in : Data → Result MemberAct FormsFault
ack_in value = object_at [] (codes "op" ∷ []) value >>= λ only. Ok acts.Ack

unfoldable pub propose_in : Data → Result MemberAct FormsFault
propose_in value = do
  only ← object_at [] (codes "actions" ∷ codes "op" ∷ []) value
  list ← actions_in value
  Ok (acts.Propose list)

unfoldable pub ballot_in : Data → Result MemberAct FormsFault
ballot_in value = do
  only ← object_at [] (codes "op" ∷ codes "proposal_id" ∷ codes "vote" ∷ []) value
  id ← member_at digest_in [] (codes "proposal_id") value
  vote ← member_at flag_in [] (codes "vote") value
  Ok (acts.Ballot id vote)

unfoldable pub withdraw_in : Data → Result MemberAct FormsFault
withdraw_in value = do
  only ← object_at [] (codes "op" ∷ codes "proposal_id" ∷ []) value
  id ← member_at digest_in [] (codes "proposal_id") value
  Ok (acts.Withdraw id)

unfoldable pub share_act_in : Data → Result MemberAct FormsFault
share_act_in value = do
  only ← object_at [] (codes "op" ∷ codes "share" ∷ []) value
  share ← member_at digest_in [] (codes "share") value
  Ok (acts.Share share)

-- The request with this word in its member `op`.
unfoldable pub act_named : List ℕ → Data → Result MemberAct FormsFault
act_named op value =
    if same_bytes op (codes "ack") then ack_in value
    else (if same_bytes op (codes "propose") then propose_in value
    else (if same_bytes op (codes "ballot") then ballot_in value
    else (if same_bytes op (codes "withdraw") then withdraw_in value
    else (if same_bytes op (codes "share") then share_act_in value
    else Err (faults.Shape (member_of [] (codes "op")))))))

-- What a member asks for. The member `op`, which decides about the others, comes before them.
unfoldable pub act_in : Data → Result MemberAct FormsFault
act_in value = word_at [] (codes "op") value >>= λ op. act_named op value
