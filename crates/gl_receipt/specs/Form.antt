-- The form of a receipt in a JSON tree, and the first value that has another.
use Rattle.std.specs.Prelude.{ℕ, suc, ◌^◌, List, [], ◌∷◌, nat_lt, fold, codes, Option, is_some, option_and_then, Result, Ok, Err, if◌then◌else◌}
use Rattle.std.specs.Option.{ok_or}
use Rattle.hex.specs.Hex.{decode_of}
use Rattle.serde_json.specs.Data.{Data, Items, no_items, item}
use Rattle.serde_json.specs.Find.{get, as_number, as_u64, as_array}
use Rattle.gl_base.specs.Json.{member_of, item_of}
use Rattle.gl_base.specs.Steps.{◌>>=◌}
use Rattle.gl_base.specs.declared.json.FormsFault.{FormsFault}
use Rattle.gl_json.specs.Form.{value_in, text_in, lower_digits, decoded, sized_in, only_members_in, at}
use Rattle.gl_json.specs.Text.{tree_from}
use Rattle.gl_json.specs.declared.form_error.FormError.{FormError}
use Rattle.gl_json.specs.declared.form_error.FormError.TheVariants.{Shape}
use Rattle.gl_merkle.specs.declared.tree.Step.{Step}
use Rattle.gl_merkle.specs.declared.tree.Step.TheVariants.{Left, Right}
use Rattle.gl_receipt.specs.declared.components.LeafComponents.{LeafComponents}
use Rattle.gl_receipt.specs.declared.components.Signed.{Signed}
use Rattle.gl_receipt.specs.declared.components.Receipt.{Receipt}

-- Values. One that is missing has the wrong shape.

abbrev pub array_in : Option Data → Result Items FormError
array_in value = ok_or (option_and_then as_array value) Shape

-- An integer below 2^64; any other number is no integer in the tree.
abbrev pub u64_in : Option Data → Result ℕ FormError
u64_in value = ok_or (option_and_then as_u64 (option_and_then as_number value)) Shape

abbrev pub below : ℕ → ℕ → Result ℕ FormError
below limit n = if nat_lt n limit then Ok n else Err Shape

abbrev pub u32_in : Option Data → Result ℕ FormError
u32_in value = u64_in value >>= below (2 ^ 32)

-- The bytes of a text in lower-case hexadecimal, two digits each.
abbrev pub bytes_in : Option Data → Result (List ℕ) FormError
bytes_in value = text_in value >>= lower_digits >>= λ digits. decoded (decode_of digits)

-- 32 of them.
abbrev pub digest_in : Option Data → Result (List ℕ) FormError
digest_in value = sized_in 32 value

-- Places

-- The path of a member inside members.
abbrev pub path_of : List (List ℕ) → List ℕ
path_of names = fold member_of [] names

-- The path of a member of an element of the proof.
abbrev pub step_path : ℕ → List (List ℕ) → List ℕ
step_path index names = fold member_of (item_of (path_of (codes "proof" ∷ [])) index) names

-- A member of the whole, in its form.
abbrev pub outer_member_in : {X : Type 0} → (Option Data → Result X FormError) → List ℕ → Data
    → Result X FormsFault
outer_member_in form name value = at (path_of (name ∷ [])) (form (get name value))

-- A member of a member, in its form.
abbrev pub member_in : {X : Type 0} → (Option Data → Result X FormError) → List ℕ → List ℕ → Data
    → Result X FormsFault
member_in form object name value = at (path_of (object ∷ name ∷ [])) (form (get name value))

-- The object that a member is.
abbrev pub inner_object_in : List (List ℕ) → List ℕ → Data → Result (Unit {0}) FormsFault
inner_object_in names object value = at (path_of (object ∷ [])) (only_members_in names value)

-- Parts

abbrev pub leaf_components : List ℕ
leaf_components = codes "leaf_components"

abbrev pub leaf_components_names : List (List ℕ)
leaf_components_names =
    codes "claims_digest" ∷ codes "commit_evidence" ∷ codes "write_set_digest" ∷ []

unfoldable pub leaf_components_in : Data → Result LeafComponents FormsFault
leaf_components_in value = do
  only ← inner_object_in leaf_components_names leaf_components value
  claims ← member_in digest_in leaf_components (codes "claims_digest") value
  evidence ← member_in text_in leaf_components (codes "commit_evidence") value
  write_set ← member_in digest_in leaf_components (codes "write_set_digest") value
  Ok (record { claims_digest = claims; commit_evidence = evidence; write_set_digest = write_set })

-- The sibling in an element of the proof that has the one member with this name.
unfoldable pub sibling_in : ℕ → List ℕ → Data → Result (List ℕ) FormsFault
sibling_in index side value = do
  only ← at (step_path index []) (only_members_in (side ∷ []) value)
  at (step_path index (side ∷ [])) (digest_in (get side value))

-- An element of the proof: an object with one member, `left` or `right`.
unfoldable pub step_in : ℕ → Data → Result Step FormsFault
step_in index value =
    if is_some (get (codes "left") value)
    then (sibling_in index (codes "left") value >>= λ sibling. Ok (Left sibling))
    else (sibling_in index (codes "right") value >>= λ sibling. Ok (Right sibling))

unfoldable pub steps_from : ℕ → Items → Result (List Step) FormsFault
steps_from index no_items = Ok []
steps_from index (item value values) = do
  step ← step_in index value
  steps ← steps_from (suc index) values
  Ok (step ∷ steps)

unfoldable pub proof_in : Option Data → Result (List Step) FormsFault
proof_in value = at (path_of (codes "proof" ∷ [])) (array_in value) >>= steps_from 0

abbrev pub signed : List ℕ
signed = codes "signed"

abbrev pub signed_names : List (List ℕ)
signed_names = codes "commit" ∷ codes "seqno" ∷ codes "view" ∷ []

unfoldable pub signed_in : Data → Result Signed FormsFault
signed_in value = do
  only ← inner_object_in signed_names signed value
  commit ← member_in u64_in signed (codes "commit") value
  seqno ← member_in u64_in signed (codes "seqno") value
  view ← member_in u32_in signed (codes "view") value
  Ok (record { commit = commit; seqno = seqno; view = view })

abbrev pub receipt_names : List (List ℕ)
receipt_names = codes "leaf_components" ∷ codes "proof" ∷ codes "signature" ∷ codes "signed" ∷ []

-- The receipt that a tree is, or the first value that differs: an object's members, missing or
-- more, come before its values, and these in the order in which they are printed.
unfoldable pub receipt_in : Data → Result Receipt FormsFault
receipt_in value = do
  only ← at [] (only_members_in receipt_names value)
  components ← outer_member_in value_in leaf_components value
  leaf ← leaf_components_in components
  proof ← proof_in (get (codes "proof") value)
  signature ← outer_member_in bytes_in (codes "signature") value
  statement ← outer_member_in value_in signed value
  claim ← signed_in statement
  Ok (record { leaf_components = leaf; proof = proof; signature = signature; signed = claim })

-- The receipt that a text is.
unfoldable pub receipt_from : List ℕ → Result Receipt FormsFault
receipt_from text = tree_from text >>= receipt_in
