-- What founds a service, and recovers it, in a JSON tree.
use Rattle.std.specs.Prelude.{ℕ, List, [], ◌∷◌, codes, Option, Result, Ok, Err, if◌then◌else◌}
use Rattle.serde_json.specs.Data.{Data}
use Rattle.gl_base.specs.Bytes.{same_bytes}
use Rattle.gl_base.specs.Steps.{◌>>=◌}
use Rattle.gl_base.specs.declared.json.FormsFault.{FormsFault}
use Rattle.gl_json.specs.declared.form_error.FormError.{FormError}
use Rattle.gl_json.specs.declared.form_error.FormError.TheVariants.{Shape}
use Rattle.gl_json.specs.Form.{text_in}
use Rattle.gl_forms.specs.Form.{object_at, member_at, list_at}
use Rattle.gl_forms.specs.Parts.{hss_key_in, member_in, node_in, dealing_at}
use Rattle.gl_requests.specs.declared.genesis.ServiceState.{ServiceState}
use Rattle.gl_requests.specs.declared.genesis.ServiceState.TheVariants.{Opening, Open}
use Rattle.gl_requests.specs.declared.genesis.Genesis as founding
use Rattle.gl_requests.specs.declared.genesis.Recovery.{Recovery}

-- The state with this name. A service is founded in no other.
abbrev pub state_named : List ℕ → Result ServiceState FormError
state_named name =
    if same_bytes name (codes "open") then Ok Open
    else (if same_bytes name (codes "opening") then Ok Opening else Err Shape)

abbrev pub state_in : Option Data → Result ServiceState FormError
state_in value = text_in value >>= state_named

abbrev pub settings_names : List (List ℕ)
settings_names =
    codes "dealing" ∷ codes "identity" ∷ codes "members" ∷ codes "nodes" ∷ codes "state" ∷ []

-- The settings of a service: at most 255 members and as many nodes, since a byte counts them.
unfoldable pub settings_in : Data → Result founding.Genesis FormsFault
settings_in value = do
  only ← object_at [] settings_names value
  dealing ← dealing_at [] (codes "dealing") value
  identity ← member_at hss_key_in [] (codes "identity") value
  members ← list_at member_in 0 255 [] (codes "members") value
  nodes ← list_at node_in 0 255 [] (codes "nodes") value
  state ← member_at state_in [] (codes "state") value
  Ok (
      record {
        state = state;
        identity = identity;
        nodes = nodes;
        members = members;
        dealing = dealing;
      }
      )

-- The settings of a service that is recovered.
unfoldable pub recovery_in : Data → Result Recovery FormsFault
recovery_in value = do
  only ← object_at [] (codes "identity" ∷ codes "nodes" ∷ []) value
  identity ← member_at hss_key_in [] (codes "identity") value
  nodes ← list_at node_in 0 255 [] (codes "nodes") value
  Ok (record { identity = identity; nodes = nodes })
