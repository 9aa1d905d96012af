-- The tree that is written for a key is read as the key.
use Rattle.std.proofs.Common.{◌≡◌, ℕ, ◌*◌, ◌≤◌, true, List, length, nat_le, None, Some, Result, Ok, Err, IfOk, refl, ap, ◌∙◌, arith}
use Rattle.std.proofs.lemmas.Bool.Decides.{nat_tests}
use Rattle.std.specs.Str.{IsUtf8}
use Rattle.hex.specs.Hex.{encode_lower, lower_digits, IsBytes}
use Rattle.hex.proofs.HexLemmas.{length-encode_with, decode_of-encode_lower, decode_sized-encode_lower}
use Rattle.serde_json.specs.Data.{Data, depth}
use Rattle.serde_json.specs.Read.{read, max_depth}
use Rattle.gl_base.specs.Bytes.{mebibyte}
use Rattle.gl_json.specs.Form.{sized_in}
use Rattle.gl_forms.specs.Form.{endorsement_in, word_at}
use Rattle.gl_forms.specs.Key.{one_key_in, optional_endorsement_in, node_key_in, key_of_kind, key_in, hex_tree, key_tree}
use Rattle.gl_forms.specs.Ranges.{IsSized, IsKey, has_short_endorsement}
use Rattle.gl_forms.specs.Text.{from_text}
use Rattle.gl_forms.specs.declared.key.KeyForm.{KeyForm}
use Rattle.gl_forms.specs.declared.key.KeyForm.TheVariants.{Service, Member, Node}
use Rattle.gl_json.proofs.HexLemmas.{all_lower}
use Rattle.gl_json.proofs.TextLemmas.{tree_is}

sized_in-tree : (size : ℕ) (bytes : List ℕ) → IsSized size bytes → sized_in size (Some (hex_tree bytes)) ≡ Ok bytes
sized_in-tree size bytes is =
    let lower = all_lower bytes is.each in
    let back = decode_sized-encode_lower bytes size is.count is.each in
    rw (lower, back) refl

endorsement_in-tree : (bytes : List ℕ) → IsBytes bytes → nat_le (length bytes) mebibyte ≡ true → endorsement_in (Some (hex_tree bytes)) ≡ Ok bytes
endorsement_in-tree bytes is short =
    let size = length-encode_with lower_digits bytes in
    let few : nat_le (length (encode_lower bytes)) (2 * mebibyte) ≡ true = rw size (grind (arith, nat_tests, short)) in
    let lower = all_lower bytes is in
    let back = decode_of-encode_lower bytes is in
    rw (few, lower, back) refl

pub key_in-tree : (k : KeyForm) → IsKey k → has_short_endorsement k ≡ true → key_in (key_tree k) ≡ Ok k
unfolding key_in word_at key_of_kind one_key_in node_key_in optional_endorsement_in
key_in-tree (Service key) is short = rw (sized_in-tree 60 key is) refl
key_in-tree (Member key) is short = rw (sized_in-tree 60 key is) refl
key_in-tree (Node key id None) is short = rw (sized_in-tree 56 key is.key_is, sized_in-tree 32 id is.id_is) refl
key_in-tree (Node key id (Some endorsement)) is short =
    rw (endorsement_in-tree endorsement is.endorsement_is short, sized_in-tree 56 key is.key_is, sized_in-tree 32 id is.id_is) refl

depth-tree : (k : KeyForm) → depth (key_tree k) ≤ max_depth
depth-tree (Service key) = omega arith
depth-tree (Member key) = omega arith
depth-tree (Node key id None) = omega arith
depth-tree (Node key id (Some endorsement)) = omega arith

pub back : {X E : Type 0} (result : Result X E) (items : X → List ℕ) (tree : Data) (k : KeyForm) → IsKey k → has_short_endorsement k ≡ true → tree ≡ key_tree k
    → IfOk result (λ t. IsUtf8 (items t)) → IfOk result (λ t. depth tree ≤ max_depth → read (items t) ≡ Some tree)
    → IfOk result (λ t. from_text key_in (items t) ≡ Ok k)
back (Ok t) items tree k is short same utf8 reads =
    let small : depth tree ≤ max_depth = rw same (depth-tree k) in
    rw (tree_is (items t) (key_tree k) utf8 (reads small ∙ ap Some same)) (key_in-tree k is short)
back (Err e) items tree k is short same utf8 reads = tt
