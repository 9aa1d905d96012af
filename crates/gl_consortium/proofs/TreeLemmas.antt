-- The tree of the action that sets a dealing has no float, nests little, and is read as the action.
use Rattle.std.proofs.Common.{◌≡◌, ℕ, suc, ◌≤◌, ◌&&◌, ◌==◌, true, false, List, [], ◌∷◌, ◌++◌, length, map, codes, nat_le, nat_lt, Result, Ok, Err, Some, IfOk, refl, ap, ◌∙◌, arith}
use Rattle.std.specs.List.{list_all}
use Rattle.std.specs.Str.{IsUtf8}
use Rattle.std.proofs.lemmas.Bool.{and_parts}
use Rattle.std.proofs.lemmas.Bool.Decides.{nat_tests}
use Rattle.std.proofs.lemmas.List.{map-append}
use Rattle.hex.specs.Hex.{IsBytes}
use Rattle.hex.proofs.HexLemmas.{decode_sized-encode_lower}
use Rattle.serde_json.specs.Data.{depth, items_depth, number, unsigned}
use Rattle.serde_json.specs.Events.{items_len}
use Rattle.serde_json.specs.Read.{read, max_depth}
use Rattle.serde_json.specs.View.{items_of, view}
use Rattle.serde_json.specs.Written.{compact_text, has_float, items_have_float}
use Rattle.serde_json.specs.declared.value.Value.{Value}
use Rattle.gl_base.specs.Bytes.{are_bytes, is_byte, is_digest}
use Rattle.gl_base.specs.Json.{member_of}
use Rattle.gl_base.proofs.ByteLists.{are_bytes-each}
use Rattle.gl_forms.specs.Actions.{action_in, action_named, set_threshold_in}
use Rattle.gl_forms.specs.Form.{elements_from, list_at, sized_in}
use Rattle.gl_forms.specs.Key.{hex_tree}
use Rattle.gl_forms.specs.Parts.{byte_in, dealing_in, member_number_in, share_in}
use Rattle.gl_forms.specs.Text.{from_text}
use Rattle.gl_forms.proofs.HexLemmas.{all_lower}
use Rattle.gl_forms.proofs.TextLemmas.{tree_is}
use Rattle.gl_requests.specs.Ranges.{are_counted, is_dealing, is_member_number, is_share}
use Rattle.gl_requests.specs.declared.action.Action.TheVariants.{SetRecoveryThreshold}
use Rattle.gl_requests.specs.declared.genesis.Dealing.{Dealing}
use Rattle.gl_requests.specs.declared.genesis.ShareDigest.{ShareDigest}
use Rattle.gl_consortium.specs.Tree.{action_tree, dealing_tree, share_tree}

-- one tree more, of one share more
pub trees_more : (trees : List Value) (tree : Value) (shares : List ShareDigest) (share : ShareDigest) → map view trees ≡ map share_tree shares
    → view tree ≡ share_tree share → map view (trees ++ tree ∷ []) ≡ map share_tree (shares ++ share ∷ [])
trees_more trees tree shares share all one = simp map-append (rw (all, one) refl)

-- ---- the text

shares_have_no_float : (shares : List ShareDigest) → items_have_float (items_of (map share_tree shares)) ≡ false
shares_have_no_float [] = refl
shares_have_no_float (share ∷ shares) = shares_have_no_float shares

has_float-tree : (d : Dealing) → has_float (action_tree d) ≡ false
unfolding action_tree
has_float-tree d = rw (shares_have_no_float d.shares) refl

shares_depth : (shares : List ShareDigest) → items_depth (items_of (map share_tree shares)) ≤ 1
shares_depth [] = omega arith
shares_depth (share ∷ shares) = let rest = shares_depth shares in omega arith

depth-tree : (d : Dealing) → depth (action_tree d) ≤ max_depth
unfolding action_tree
depth-tree d = let shares = shares_depth d.shares in omega arith

pub written : {X E : Type 0} (result : Result X E) (items : X → List ℕ) (value : Value) (d : Dealing) → view value ≡ action_tree d
    → IfOk result (λ t. has_float (view value) ≡ false → items t ≡ compact_text (view value)) → IfOk result (λ t. items t ≡ compact_text (action_tree d))
written (Ok t) items value d tree text = text (ap has_float tree ∙ has_float-tree d) ∙ ap compact_text tree
written (Err e) items value d tree text = tt

-- ---- reading

digest_in-tree : (bytes : List ℕ) → is_digest bytes ≡ true → sized_in 32 (Some (hex_tree bytes)) ≡ Ok bytes
digest_in-tree bytes h =
    let parts = and_parts (length bytes == 32) (are_bytes bytes) h in
    let size : length bytes ≡ 32 = grind (arith, nat_tests, parts.0) in
    let bytes_are : IsBytes bytes = are_bytes-each bytes parts.1 in
    let lower = all_lower bytes bytes_are in
    let back = decode_sized-encode_lower bytes 32 size bytes_are in
    rw (lower, back) refl

byte_in-tree : (n : ℕ) → is_byte n ≡ true → byte_in (Some (number (unsigned n))) ≡ Ok n
byte_in-tree n h =
    let low : nat_le 0 n ≡ true = grind (arith, nat_tests) in
    let high : nat_le n 255 ≡ true = grind (arith, nat_tests, h) in
    rw (low, high) refl

member_number_in-tree : (n : ℕ) → is_member_number n ≡ true → member_number_in (Some (number (unsigned n))) ≡ Ok n
member_number_in-tree n h =
    let parts = and_parts (nat_le 1 n) (is_byte n) h in
    let high : nat_le n 255 ≡ true = grind (arith, nat_tests, parts.1) in
    rw (parts.0, high) refl

share_in-tree : (place : List ℕ) (s : ShareDigest) → is_share s ≡ true → share_in place (share_tree s) ≡ Ok s
unfolding share_in
share_in-tree place s h =
    let parts = and_parts (is_member_number s.member) (is_digest s.digest) h in
    rw (digest_in-tree s.digest parts.1, member_number_in-tree s.member parts.0) refl

shares_from-tree : (place : List ℕ) (index : ℕ) (shares : List ShareDigest) → list_all is_share shares ≡ true
    → elements_from share_in place index (items_of (map share_tree shares)) ≡ Ok shares
unfolding elements_from
shares_from-tree place index [] all = refl
shares_from-tree place index (s ∷ shares) all =
    let parts = and_parts (is_share s) (list_all is_share shares) all in
    rw (share_in-tree _ s parts.0, shares_from-tree place (suc index) shares parts.1) refl

items_len-tree : (shares : List ShareDigest) → items_len (items_of (map share_tree shares)) ≡ length shares
items_len-tree [] = refl
items_len-tree (s ∷ shares) = ap suc (items_len-tree shares)

shares_at-tree : (place : List ℕ) (d : Dealing) → are_counted is_share d.shares ≡ true → list_at share_in 0 255 place (codes "shares") (dealing_tree d) ≡ Ok d.shares
unfolding list_at
shares_at-tree place d h =
    let parts = and_parts (nat_lt (length d.shares) 256) (list_all is_share d.shares) h in
    let low : nat_le 0 (length d.shares) ≡ true = grind (arith, nat_tests) in
    let high : nat_le (length d.shares) 255 ≡ true = grind (arith, nat_tests, parts.0) in
    rw (items_len-tree d.shares, low, high) (shares_from-tree (member_of place (codes "shares")) 0 d.shares parts.1)

dealing_in-tree : (place : List ℕ) (d : Dealing) → is_dealing d ≡ true → dealing_in place (dealing_tree d) ≡ Ok d
unfolding dealing_in
dealing_in-tree place d h =
    let outer = and_parts (is_byte d.threshold && is_digest d.secret_digest) (are_counted is_share d.shares) h in
    let inner = and_parts (is_byte d.threshold) (is_digest d.secret_digest) outer.0 in
    rw (digest_in-tree d.secret_digest inner.1, shares_at-tree place d outer.1, byte_in-tree d.threshold inner.0) refl

action_in-tree : (d : Dealing) → is_dealing d ≡ true → action_in [] (action_tree d) ≡ Ok (SetRecoveryThreshold d)
unfolding action_in action_named set_threshold_in action_tree
action_in-tree d h = rw (dealing_in-tree _ d h) refl

pub back : {X E : Type 0} (result : Result X E) (items : X → List ℕ) (value : Value) (d : Dealing) → is_dealing d ≡ true → view value ≡ action_tree d
    → IfOk result (λ t. IsUtf8 (items t)) → IfOk result (λ t. depth (view value) ≤ max_depth → read (items t) ≡ Some (view value))
    → IfOk result (λ t. from_text (action_in []) (items t) ≡ Ok (SetRecoveryThreshold d))
back (Ok t) items value d is tree utf8 reads =
    let small : depth (view value) ≤ max_depth = rw tree (depth-tree d) in
    rw (tree_is (items t) (action_tree d) utf8 (reads small ∙ ap Some tree)) (action_in-tree d is)
back (Err e) items value d is tree utf8 reads = tt
