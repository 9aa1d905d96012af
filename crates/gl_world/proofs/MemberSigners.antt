-- How the signers of members are kept, and that what they sign fits its format.
use Rattle.std.proofs.Common.{◌≡◌, ◌≢◌, ℕ, ◌+◌, ◌<◌, ◌≤◌, List, [], ◌∷◌, ◌++◌, Option, None, length, set, replicate, Bool, true, ◌&&◌, nat_eq, nat_le, refl, sym, ◌∙◌, ap, subst, arith, inl, inr, length-append}
use Rattle.std.specs.Prelude.{slice_index_or}
use Rattle.std.proofs.lemmas.Bool.{eq-eqb, ne_eqb, and_from}
use Rattle.std.proofs.lemmas.Bool.Decides.{nat_tests, eqb_tells}
use Rattle.std.proofs.lemmas.List.{get_or-set_other, get_or-set_same, get_or-replicate, get_or_read_under, length-set, length-replicate}
use Rattle.gl_hss.specs.Bytes.{u32str}
use Rattle.gl_hss.specs.Tree.{signature_bytes}
use Rattle.gl_hss.specs.Profile.{signature_by}
use Rattle.gl_hss.proofs.Spans.{length-u32str}
use Rattle.gl_hss.proofs.Octets as octets
use Rattle.gl_base.specs.Bytes.{are_bytes, mebibyte}
use Rattle.gl_hss.specs.Signer.{Signer, hss_signature, levels_above}
use Rattle.gl_requests.specs.Ranges.{is_act, is_member_number, is_signature_field, is_member_request}
use Rattle.gl_requests.specs.declared.request.MemberAct.{MemberAct}
use Rattle.gl_gov_rules.proofs.Counting.{one_if, count-cons, count-append}
use Rattle.gl_world.specs.declared.settings.Settings.{Settings}
use Rattle.gl_world.specs.Keys.{private_key}
use Rattle.gl_world.specs.Founding.{genesis_of}
use Rattle.gl_world.specs.Members.{next_leaf, leaf_limit, IsSignerOf, leaves_used, IsKept, AreKept}

-- ---- the leaf that signs next

next_leaf-push : (signed : List ℕ) (number other : ℕ) → next_leaf (signed ++ number ∷ []) other ≡ next_leaf signed other + (one_if (nat_eq other number) + 0)
next_leaf-push signed number other =
    count-append (nat_eq other) signed (number ∷ [])
    ∙ ap (λ (n : ℕ). next_leaf signed other + n) (count-cons (nat_eq other) number [])

next_leaf-same : (signed : List ℕ) (number : ℕ) → next_leaf (signed ++ number ∷ []) number ≡ next_leaf signed number + 1
next_leaf-same signed number =
    next_leaf-push signed number number ∙ ap (λ (b : Bool). next_leaf signed number + (one_if b + 0)) (eq-eqb number number refl)

next_leaf-other : (signed : List ℕ) (number other : ℕ) → other ≢ number → next_leaf (signed ++ number ∷ []) other ≡ next_leaf signed other
next_leaf-other signed number other differ =
    let pushed = next_leaf-push signed number other ∙ ap (λ (b : Bool). next_leaf signed other + (one_if b + 0)) (ne_eqb other number differ) in
    omega (arith, pushed)

-- ---- how the signers are kept

abbrev no_signer : Option Signer
no_signer = None

pub kept_none : (s : Settings) (key : List ℕ) → key ≡ (genesis_of s).identity → AreKept s key (replicate 256 None) []
kept_none s key is = record {
  identity = is;
  count = length-replicate 256 no_signer;
  each = λ i low. subst (IsKept s i 0) (sym (get_or-replicate 256 i no_signer no_signer low)) (record { signer = tt; used = refl });
}

-- one place, as it is now and with its number of signatures
record IsSetAt (s : Settings) (after : List ℕ) (number : ℕ) (place : Option Signer) : Type 0 where
  low : number < 256
  signer : IsSignerOf s number place
  used : leaves_used place ≡ next_leaf after number

-- another signer at a place, where the other members have signed as often as before
kept-set : (s : Settings) (key : List ℕ) (signers : List (Option Signer)) (signed after : List ℕ) (number : ℕ) (place : Option Signer) →
    AreKept s key signers signed → IsSetAt s after number place →
    ((other : ℕ) → other ≢ number → next_leaf after other ≡ next_leaf signed other) → AreKept s key (set signers number place) after
kept-set s key signers signed after number place kept here others = record {
  identity = kept.identity;
  count = length-set signers number place ∙ kept.count;
  each = at;
}
  where
    at : (i : ℕ) → i < 256 → IsKept s i (next_leaf after i) (slice_index_or (set signers number place) i None)
    at i low =
        elim (eqb_tells i number) [
          | inl same ↦
              subst (λ (j : ℕ). IsKept s j (next_leaf after j) (slice_index_or (set signers number place) j None)) (sym same.1)
              (subst (IsKept s number (next_leaf after number)) (sym (get_or-set_same signers number place None (omega (arith, kept.count, here.low))))
              (record { signer = here.signer; used = here.used }))
          | inr other ↦
              subst (λ (n : ℕ). IsKept s i n (slice_index_or (set signers number place) i None)) (sym (others i other.1))
              (subst (IsKept s i (next_leaf signed i)) (sym (get_or-set_other signers number i place None other.1)) (kept.each i low))
        ]

-- the signer that is read at a member's place, and the one that stands there afterwards
module _
    (s : Settings)
    (key : List ℕ)
    (signers : List (Option Signer))
    (signed : List ℕ)
    (number at : ℕ)
    (read : Option Signer)
    (kept : AreKept s key signers signed)
    (low : number < 256)
    (same : at ≡ number)
    (is : read ≡ slice_index_or signers at read)
  where
    pub used_at : leaves_used read ≡ next_leaf signed number
    used_at =
        ap leaves_used (get_or_read_under signers number 256 read no_signer (is ∙ ap (λ (n : ℕ). slice_index_or signers n read) same) low (sym kept.count))
        ∙ (kept.each number low).used

    -- it has used no leaf more
    pub kept_unused : (place : Option Signer) → IsSignerOf s number place → leaves_used place ≡ leaves_used read → AreKept s key (set signers at place) signed
    kept_unused place signer used =
        rw same (kept-set s key signers signed signed number place kept (record { low = low; signer = signer; used = used ∙ used_at }) (λ other differ. refl))

    -- it has used one leaf more, for its member
    pub kept_spent : (place : Option Signer) → IsSignerOf s number place → leaves_used place ≡ leaves_used read + 1 → AreKept s key (set signers at place) (signed ++ number ∷ [])
    kept_spent place signer used =
        rw same (kept-set s key signers signed (signed ++ number ∷ []) number place kept
        (record { low = low; signer = signer; used = used ∙ ap (λ (n : ℕ). n + 1) used_at ∙ sym (next_leaf-same signed number) })
        (next_leaf-other signed number))

-- ---- what is signed

module _ (seed message : List ℕ) (leaf : ℕ) where
  lms : List ℕ
  lms = signature_bytes (private_key seed).types (signature_by (private_key seed) leaf message)

  signed_bytes : are_bytes (hss_signature (private_key seed) None leaf message) ≡ true
  unfolding levels_above lms
  signed_bytes = octets.bytes-append (u32str 0) lms (octets.u32str_bytes 0) (octets.signed_bytes (private_key seed) leaf message)

  length-signed : leaf < leaf_limit → length (hss_signature (private_key seed) None leaf message) ≡ 2352
  unfolding levels_above lms
  length-signed left = omega (arith, length-append (u32str 0) lms, length-u32str 0, octets.length-signed (private_key seed) leaf message left)

  signature_fits : leaf < leaf_limit → is_signature_field (hss_signature (private_key seed) None leaf message) ≡ true
  signature_fits left =
      and_from (are_bytes (hss_signature (private_key seed) None leaf message)) (nat_le (length (hss_signature (private_key seed) None leaf message)) mebibyte)
      signed_bytes (ap (λ (n : ℕ). nat_le n mebibyte) (length-signed left))

number_fits : (number : ℕ) → 1 ≤ number → number < 256 → is_member_number number ≡ true
number_fits number low high = grind (arith, nat_tests)

-- what a member signs is a request, where a leaf is left
pub request_fits : (seed message : List ℕ) (number leaf : ℕ) (act : MemberAct) (bytes : List ℕ) → bytes ≡ hss_signature (private_key seed) None leaf message →
    1 ≤ number → number < 256 → is_act act ≡ true → leaf < leaf_limit → is_member_request (record { member = number; act = act; signature = bytes }) ≡ true
request_fits seed message number leaf act bytes is low high fits left =
    and_from (is_member_number number && is_act act) (is_signature_field bytes)
    (and_from (is_member_number number) (is_act act) (number_fits number low high) fits)
    (ap is_signature_field is ∙ signature_fits seed message leaf left)
