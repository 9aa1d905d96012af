-- What the text of what is to be signed is read as.
use Rattle.std.specs.Prelude.{ℕ, List, [], codes, Bool, true, Result, Ok, Err}
use Rattle.gl_base.specs.Json.{member_of}
use Rattle.gl_base.specs.Steps.{◌>>=◌}
use Rattle.gl_base.specs.declared.json.FormsFault.{FormsFault}
use Rattle.gl_base.specs.declared.json.FormsFault.TheVariants as forms_faults
use Rattle.gl_requests.specs.Ranges.{is_act, is_genesis}
use Rattle.gl_forms.specs.Key.{key_in}
use Rattle.gl_forms.specs.Requests.{act_in}
use Rattle.gl_forms.specs.Settings.{settings_in}
use Rattle.gl_forms.specs.Text.{from_text}
use Rattle.gl_forms.specs.declared.key.KeyForm.{KeyForm}
use Rattle.gl_forms.specs.declared.key.KeyForm.TheVariants as forms
use Rattle.gl_keyfile.specs.declared.signature.Signing.{Signing}
use Rattle.gl_keyfile.specs.declared.signature.Signing.TheVariants.{Endorsement, Opening, Request}
use Rattle.gl_consortium.specs.declared.document.Document.{Document}
use Rattle.gl_consortium.specs.declared.document.Document.TheVariants.{NodeKey, Settings, Act}

-- Only the key of a node is endorsed. What endorsement it has doesn't count.
abbrev pub node_key_of : KeyForm → Result Document FormsFault
node_key_of (forms.Service key) = Err (forms_faults.Shape (member_of [] (codes "kind")))
node_key_of (forms.Member key) = Err (forms_faults.Shape (member_of [] (codes "kind")))
node_key_of (forms.Node key id endorsement) = Ok (NodeKey key id)

-- What a text is read as, where it has the form that is asked for.
unfoldable pub read : Signing → List ℕ → Result Document FormsFault
read Endorsement text = from_text key_in text >>= node_key_of
read Opening text = from_text settings_in text >>= λ g. Ok (Settings g)
read (Request identity number) text =
    from_text act_in text >>= λ act. Ok (Act identity number act)

-- The fields of what is read are in their ranges.
abbrev pub fits : Document → Bool
fits (NodeKey key id) = true
fits (Settings g) = is_genesis g
fits (Act identity number act) = is_act act
