-- How long keys' signatures are, how high their leaves, and whose key made the last level.
use Rattle.std.proofs.Common.{◌≡◌, ℕ, suc, ◌+◌, ◌^◌, ◌<◌, ◌≤◌, List, [], ◌∷◌, length, Result, Ok, Err, refl, ap, arith, inl, inr}
use Rattle.std.specs.Prelude.{IfOk}
use Rattle.std.proofs.lemmas.List.{length-append}
use Rattle.gl_hss.specs.Bytes.{u32str}
use Rattle.gl_hss.specs.declared.types.Types.{Types}
use Rattle.gl_hss.specs.declared.types.Types.TheVariants.{H5W4, H5W8, H10W4, H10W8}
use Rattle.gl_hss.specs.declared.fault.HssFault.{HssFault}
use Rattle.gl_hss.specs.Types.{height, signature_len}
use Rattle.gl_hss.specs.Tree.{Signature, PublicKey, key_bytes, signature_bytes}
use Rattle.gl_hss.specs.Hss.{Upper, levels_bytes, hss_bytes, AreLevels, SignsDown, IsHssKey, IsValid, HasLeaf, IsEndorsed, last_key}
use Rattle.gl_hss.specs.Order.{last_key_verdict}
use Rattle.gl_hss.proofs.Spans.{bytes_at-Spans, length-u32str}
use Rattle.gl_hss.proofs.EncodedFields.{length-key_bytes, length-signature_bytes}
use Rattle.gl_hss.proofs.ParsedFields.{reaches_room, top_key_there}
use Rattle.gl_hss.proofs.Verdicts.{length-last, levels_span, two_stand, levels_of_key_there, hss_key_stands}

signature_len-most : (t : Types) → signature_len t ≤ 2508
signature_len-most H5W4 = omega arith
signature_len-most H5W8 = omega arith
signature_len-most H10W4 = omega arith
signature_len-most H10W8 = omega arith

leaves-most : (t : Types) → 2 ^ height t ≤ 1024
leaves-most H5W4 = omega arith
leaves-most H5W8 = omega arith
leaves-most H10W4 = omega arith
leaves-most H10W8 = omega arith

-- ---- lengths

pub length-endorsement : (identity key e : List ℕ) → IsEndorsed identity key e → length e ≤ 2508
length-endorsement identity key e h =
    omega (arith, ap length h.signs.encoded, length-signature_bytes h.top.types h.signs.fields h.signs.signed.form, signature_len-most h.top.types)

length-levels : (s : List ℕ) (k : PublicKey) (us : List Upper) (last : Signature) (message : List ℕ) → 4 ≤ length s → length us + 1 ≤ 2 → s ≡ hss_bytes k.types us last → SignsDown k us last message → length s ≤ 5076
length-levels s k [] last message room few encoded signs =
    omega (arith, length-last s 4 (signature_bytes k.types last) (levels_span s k.types [] last encoded) room, length-signature_bytes k.types last signs.form, signature_len-most k.types)
length-levels s k (u ∷ []) last message room few encoded signs =
    let h = two_stand k.types u last s (levels_span s k.types (u ∷ []) last encoded) signs.0.form signs.1 signs.2.form in
    omega (arith, h.end, signature_len-most k.types, signature_len-most u.key.types)
length-levels s k (u ∷ v ∷ us) last message room few encoded signs =
    let most : suc (suc (length us)) + 1 ≤ 2 = few in
    absurd (omega arith)

pub length-valid : (key message s : List ℕ) → IsValid key message s → length s ≤ 5076
length-valid key message s v =
    let n = length v.upper in
    let room : 4 ≤ length s = omega (arith, ap length v.encoded, length-append (u32str n) (levels_bytes v.top.types v.upper v.last), length-u32str n) in
    length-levels s v.top v.upper v.last message room v.of_key.few v.encoded v.signs

-- ---- leaves

last-small : (t : Types) (us : List Upper) (last : Signature) → AreLevels t us last → last.leaf < 1024
last-small t [] last form = omega (arith, form.leaf, leaves-most t)
last-small t (u ∷ us) last form = last-small u.key.types us last form.2

pub leaf-small : (s : List ℕ) (q : ℕ) → HasLeaf s q → q < 1024
leaf-small s q h = omega (arith, last-small h.types h.upper h.last h.form, h.leaf)

-- ---- the key that made the last level

abbrev pub bytes : List ℕ → Result (List ℕ) HssFault
bytes x = Ok x

pub bytes_are : (x y : List ℕ) → bytes x ≡ bytes y → x ≡ y
bytes_are x y e = cc

last_key_levels : (key message s : List ℕ) (k : PublicKey) (us : List Upper) (last : Signature) → IsHssKey key (length us + 1) k → s ≡ hss_bytes k.types us last → SignsDown k us last message → last_key_verdict key s ≡ Ok (key_bytes (last_key k us))
unfolding last_key_verdict
last_key_levels key message s k [] last of_key encoded signs =
    let h = hss_key_stands key k 1 of_key in
    rw (levels_of_key_there key 1 h.named (inl refl), top_key_there k key h.top)
    (ap bytes (bytes_at-Spans key 4 (length key) 56 (key_bytes k) h.span (length-key_bytes k of_key.form)))
last_key_levels key message s k (u ∷ []) last of_key encoded signs =
    let h = hss_key_stands key k 2 of_key in
    let at = 4 + signature_len k.types in
    let two = two_stand k.types u last s (levels_span s k.types (u ∷ []) last encoded) signs.0.form signs.1 signs.2.form in
    rw (levels_of_key_there key 2 h.named (inr refl), top_key_there k key h.top, reaches_room s (at + 56) (at + 56 + signature_len H5W8) two.key.room)
    (ap bytes two.middle)
last_key_levels key message s k (u ∷ v ∷ us) last of_key encoded signs =
    let few : suc (suc (length us)) + 1 ≤ 2 = of_key.few in
    absurd (omega arith)

pub last_key_valid : (key message s : List ℕ) (v : IsValid key message s) → last_key_verdict key s ≡ Ok (key_bytes (last_key v.top v.upper))
last_key_valid key message s v = last_key_levels key message s v.top v.upper v.last v.of_key v.encoded v.signs

pub if_ok : (r : Result ℕ HssFault) (P : ℕ → Type 0) → ((q : ℕ) → r ≡ Ok q → P q) → IfOk r P
if_ok (Ok q) P h = h q refl
if_ok (Err f) P h = tt
