-- What a text is read as, by what is to be signed.
use Rattle.std.proofs.Common.{◌≡◌, ℕ, List, true, Result, Ok, Err, IfOk, refl, sym, subst}
use Rattle.serde_json.specs.Data.{Data}
use Rattle.gl_base.specs.Steps.{◌>>=◌}
use Rattle.gl_base.specs.declared.json.FormsFault.{FormsFault}
use Rattle.gl_base.proofs.Steps.{bind_ok, ok_injective}
use Rattle.gl_requests.specs.Ranges.{is_genesis}
use Rattle.gl_requests.specs.declared.genesis.Genesis as founding
use Rattle.gl_requests.specs.declared.request.MemberAct.{MemberAct}
use Rattle.gl_forms.specs.Key.{key_in}
use Rattle.gl_forms.specs.Requests.{act_in}
use Rattle.gl_forms.specs.Settings.{settings_in}
use Rattle.gl_forms.specs.Text.{from_text, tree_from}
use Rattle.gl_forms.specs.declared.key.KeyForm.{KeyForm}
use Rattle.gl_forms.specs.declared.key.KeyForm.TheVariants as forms
use Rattle.gl_forms.proofs.FitForms.{settings_fit}
use Rattle.gl_keyfile.specs.declared.signature.Signing.TheVariants.{Endorsement, Opening, Request}
use Rattle.gl_consortium.specs.Texts.{node_key_of, read}
use Rattle.gl_consortium.specs.declared.document.Document.{Document}
use Rattle.gl_consortium.specs.declared.document.Document.TheVariants.{NodeKey, Settings, Act}

pub node_key_read : (text : List ℕ) (document : Document) → read Endorsement text ≡ Ok document → (key : List ℕ) × (id : List ℕ) × (document ≡ NodeKey key id)
unfolding read
node_key_read text document is = let form = bind_ok (from_text key_in text) node_key_of document is in go form.0 form.2
  where
    go : (form : KeyForm) → node_key_of form ≡ Ok document → (key : List ℕ) × (id : List ℕ) × (document ≡ NodeKey key id)
    go (forms.Service key) same = absurd cc
    go (forms.Member key) same = absurd cc
    go (forms.Node key id endorsement) same = (key, id, sym (ok_injective (NodeKey key id) document same))

pub settings_read : (text : List ℕ) (document : Document) → read Opening text ≡ Ok document → (g : founding.Genesis) × (document ≡ Settings g) × (is_genesis g ≡ true)
unfolding read
settings_read text document is =
    let found = bind_ok (from_text settings_in text) _ document is in
    let tree = bind_ok (tree_from text) settings_in found.0 found.1 in
    (found.0, sym (ok_injective (Settings found.0) document found.2), subst (λ (r : Result founding.Genesis FormsFault). IfOk r (λ g. is_genesis g ≡ true)) tree.2 (settings_fit tree.0).holds)

pub act_read : (identity : List ℕ) (number : ℕ) (text : List ℕ) (document : Document) → read (Request identity number) text ≡ Ok document → (act : MemberAct) × (document ≡ Act identity number act)
unfolding read
act_read identity number text document is =
    let found = bind_ok (from_text act_in text) _ document is in
    (found.0, sym (ok_injective (Act identity number found.0) document found.2))
