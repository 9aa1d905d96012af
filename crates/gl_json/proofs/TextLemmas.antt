-- Texts and the trees that they are.
use Rattle.std.proofs.Common.{◌≡◌, ℕ, true, List, Some, None, Ok, Err, inl, inr, refl}
use Rattle.std.specs.Str.{IsUtf8, is_utf8}
use Rattle.std.proofs.lemmas.Str.{IsUtf8-from_is_utf8, is_utf8-from_IsUtf8}
use Rattle.std.proofs.lemmas.Bool.{cases_Bool}
use Rattle.serde_json.specs.Data.{Data}
use Rattle.serde_json.specs.Read.{read}
use Rattle.gl_base.specs.declared.json.FormsFault.TheVariants.{NotJson}
use Rattle.gl_json.specs.Text.{tree_from}

pub tree_is : (text : List ℕ) (tree : Data) → IsUtf8 text → read text ≡ Some tree → tree_from text ≡ Ok tree
unfolding tree_from
tree_is text tree utf8 found =
    let test : is_utf8 text ≡ true = is_utf8-from_IsUtf8 text utf8 in
    rw (test, found) refl

pub no_tree : (text : List ℕ) → (IsUtf8 text → read text ≡ None) → tree_from text ≡ Err NotJson
unfolding tree_from
no_tree text none = elim (cases_Bool (is_utf8 text)) [
  | inl utf8 ↦ let found = none (IsUtf8-from_is_utf8 text utf8) in rw (utf8, found) refl
  | inr other ↦ rw other refl
]
