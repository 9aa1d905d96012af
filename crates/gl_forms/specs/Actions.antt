-- Actions in a JSON tree, and the first value that has another form.
use Rattle.std.specs.Prelude.{ℕ, List, [], ◌∷◌, codes, Result, Ok, Err, if◌then◌else◌}
use Rattle.serde_json.specs.Data.{Data}
use Rattle.gl_base.specs.Bytes.{same_bytes}
use Rattle.gl_base.specs.Json.{member_of}
use Rattle.gl_base.specs.Steps.{◌>>=◌}
use Rattle.gl_base.specs.declared.json.FormsFault.{FormsFault}
use Rattle.gl_base.specs.declared.json.FormsFault.TheVariants as faults
use Rattle.gl_json.specs.Form.{value_in, text_in}
use Rattle.gl_forms.specs.Form.{pair_in, some_object_in, object_at, member_at, half_at, list_at}
use Rattle.gl_forms.specs.Parts.{digest_in, member_number_in, member_in, dealing_in}
use Rattle.gl_requests.specs.declared.action.Rule.{Rule}
use Rattle.gl_requests.specs.declared.action.Action.{Action}
use Rattle.gl_requests.specs.declared.action.Action.TheVariants as actions

-- Arguments, by the place of the object that they are

unfoldable pub set_member_in : List ℕ → Data → Result Action FormsFault
set_member_in place args = member_in place args >>= λ new. Ok (actions.SetMember new)

unfoldable pub remove_member_in : List ℕ → Data → Result Action FormsFault
remove_member_in place args = do
  only ← object_at place (codes "number" ∷ []) args
  number ← member_at member_number_in place (codes "number") args
  Ok (actions.RemoveMember number)

unfoldable pub set_threshold_in : List ℕ → Data → Result Action FormsFault
set_threshold_in place args =
    dealing_in place args >>= λ dealing. Ok (actions.SetRecoveryThreshold dealing)

-- The identifier of a node that is the one argument.
unfoldable pub node_id_in : List ℕ → Data → Result (List ℕ) FormsFault
node_id_in place args = do
  only ← object_at place (codes "node" ∷ []) args
  member_at digest_in place (codes "node") args

unfoldable pub trust_node_in : List ℕ → Data → Result Action FormsFault
trust_node_in place args =
    node_id_in place args >>= λ id. Ok (actions.TransitionNodeToTrusted id)

unfoldable pub remove_node_in : List ℕ → Data → Result Action FormsFault
remove_node_in place args = node_id_in place args >>= λ id. Ok (actions.RemoveNode id)

unfoldable pub open_service_in : List ℕ → Data → Result Action FormsFault
open_service_in place args =
    object_at place [] args >>= λ only. Ok actions.TransitionServiceToOpen

-- The names of the actions, in the order of their rules.
abbrev pub action_names : List (List ℕ)
action_names =
    codes "set_member" ∷ codes "remove_member" ∷ codes "set_recovery_threshold"
    ∷ codes "transition_node_to_trusted" ∷ codes "remove_node"
    ∷ codes "transition_service_to_open" ∷ codes "set_constitution" ∷ []

-- A rule: its two numbers in a list.
unfoldable pub rule_at : List ℕ → List ℕ → Data → Result Rule FormsFault
rule_at place name value = do
  pair ← member_at pair_in place name value
  num ← half_at (member_of place name) 0 pair
  den ← half_at (member_of place name) 1 pair
  Ok (record { num = num; den = den })

-- The rules of these actions, in this order.
unfoldable pub rules_of : List ℕ → List (List ℕ) → Data → Result (List Rule) FormsFault
rules_of place [] value = Ok []
rules_of place (name ∷ names) value = do
  rule ← rule_at place name value
  rules ← rules_of place names value
  Ok (rule ∷ rules)

-- A rule for each of the seven actions.
unfoldable pub rules_in : List ℕ → Data → Result (List Rule) FormsFault
rules_in place value = do
  only ← object_at place action_names value
  rules_of place action_names value

unfoldable pub set_constitution_in : List ℕ → Data → Result Action FormsFault
set_constitution_in place args = do
  only ← object_at place (codes "rules" ∷ []) args
  object ← member_at value_in place (codes "rules") args
  rules ← rules_in (member_of place (codes "rules")) object
  Ok (actions.SetConstitution rules)

-- Actions

-- The action with this name, of the arguments at a place; `named` is the place of the name.
unfoldable pub action_named : List ℕ → List ℕ → List ℕ → Data → Result Action FormsFault
action_named named name place args =
    if same_bytes name (codes "set_member") then set_member_in place args
    else (if same_bytes name (codes "remove_member") then remove_member_in place args
    else (if same_bytes name (codes "set_recovery_threshold") then set_threshold_in place args
    else (if same_bytes name (codes "transition_node_to_trusted") then trust_node_in place args
    else (if same_bytes name (codes "remove_node") then remove_node_in place args
    else (if same_bytes name (codes "transition_service_to_open") then open_service_in place args
    else (if same_bytes name (codes "set_constitution") then set_constitution_in place args
    else Err (faults.Shape named)))))))

-- An action: that its arguments are an object comes before its name, and they come after it.
unfoldable pub action_in : List ℕ → Data → Result Action FormsFault
action_in place value = do
  only ← object_at place (codes "args" ∷ codes "name" ∷ []) value
  args ← member_at some_object_in place (codes "args") value
  name ← member_at text_in place (codes "name") value
  action_named (member_of place (codes "name")) name (member_of place (codes "args")) args

-- The actions of a proposal: from 1 to 16, in the member `actions` of the whole.
unfoldable pub actions_in : Data → Result (List Action) FormsFault
actions_in value = list_at action_in 1 16 [] (codes "actions") value
