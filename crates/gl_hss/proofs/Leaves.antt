-- A leaf is found exactly where the bytes encode a signature with that leaf.
use Rattle.std.proofs.Common.{◌≡◌, ℕ, suc, ◌+◌, ◌*◌, ◌^◌, ◌<◌, ◌≤◌, Bool, true, false, List, [], ◌∷◌, ◌++◌, length, Option, Some, Result, Ok, refl, sym, ap, subst, ◌∙◌, arith, inl, inr}
use Rattle.std.specs.Prelude.{ok_or, ◌==◌, ◌||◌, if◌then◌else◌}
use Rattle.std.proofs.lemmas.Bool.{cases_eq}
use Rattle.std.proofs.lemmas.Bool.Decides.{nat_tests}
use Rattle.std.proofs.lemmas.List.{length-append}
use Rattle.gl_hss.specs.declared.types.Types.{Types}
use Rattle.gl_hss.specs.declared.types.Types.TheVariants.{H5W4, H5W8, H10W4, H10W8}
use Rattle.gl_hss.specs.declared.fault.HssFault.{HssFault}
use Rattle.gl_hss.specs.declared.fault.HssFault.TheVariants as fault
use Rattle.gl_hss.specs.Bytes.{u32str, number_at}
use Rattle.gl_hss.specs.Types.{height, chain_count, lms_code, ots_code, signature_len, types_of}
use Rattle.gl_hss.specs.Tree.{Signature, PublicKey, signature_bytes, IsSignature}
use Rattle.gl_hss.specs.Hss.{Upper, levels_bytes, hss_bytes, AreLevels, HasLeaf}
use Rattle.gl_hss.specs.Lent.{signature_fields}
use Rattle.gl_hss.specs.Order.{◌>>=◌, ◌>>◌, check, reaches, ends, has_leaf, least_types, embedded_key, signature_at, first_signature, leaf_of_one, leaf_below, leaf_of_two, leaf_verdict}
use Rattle.gl_hss.proofs.Spans.{IsBytes, Spans, Spans-append, spans_number, spans_all, all_spans, spans_left, length-u32str, number_at-Spans}
use Rattle.gl_hss.proofs.EncodedFields.{SignatureStands, signature_stands, length-signature_bytes}
use Rattle.gl_hss.proofs.ParsedFields.{then_ok, bind_ok, check_ok, ok_or_ok, reaches_ok, reaches_room, ends_ok, ends_there, has_leaf_ok, has_leaf_there, types_of_ok, types_of_codes, embedded_key_ok, embedded_key_there, IsReadSignature, signature_at_ok, signature_at_there}
use Rattle.gl_hss.proofs.Verdicts.{key_is, signature_is, length-last, two_stand, levels_span}

-- ---- the first signature

-- the smallest parameter set with a one-time typecode has its chains
least_chains : (t least : Types) → least_types (ots_code t) ≡ Some least → chain_count least ≡ chain_count t
least_chains H5W4 least e = let same : least ≡ H5W4 = cc in ap chain_count same
least_chains H5W8 least e = let same : least ≡ H5W8 = cc in ap chain_count same
least_chains H10W4 least e = let same : least ≡ H5W4 = cc in ap chain_count same
least_chains H10W8 least e = let same : least ≡ H5W8 = cc in ap chain_count same

least_there : (t : Types) → (least : Types) × (least_types (ots_code t) ≡ Some least)
least_there H5W4 = (H5W4, refl)
least_there H5W8 = (H5W8, refl)
least_there H10W4 = (H5W4, refl)
least_there H10W8 = (H5W8, refl)

abbrev number : ℕ → Result ℕ HssFault
number n = Ok n

abbrev found : Types → ℕ → Result (Types × ℕ) HssFault
found t q = Ok (t, q)

pub record IsFirst (t : Types) (q : ℕ) (s : List ℕ) : Type 0 where
  pub read : IsReadSignature t (signature_fields t s 4) s 4
  pub leaf : number_at s 4 ≡ q

first_signature_ok : (s : List ℕ) (after : ℕ) (x : Types × ℕ) → first_signature s after ≡ Ok x → IsFirst x.0 x.1 s
unfolding first_signature
first_signature_ok s after x e =
    let tail = λ (least : Types). λ (t : Types). has_leaf t (number_at s 4) >> reaches s (4 + signature_len t) (4 + signature_len t + after) >> found t (number_at s 4) in
    let rest = λ (least : Types). reaches s (48 + 32 * chain_count least) (4 + signature_len least + after) >> ok_or (types_of (number_at s (44 + 32 * chain_count least)) (number_at s 8)) (fault.Types (44 + 32 * chain_count least)) >>= tail least in
    let first = bind_ok (reaches s 12 (4 + signature_len H5W8 + after) >> ok_or (least_types (number_at s 8)) (fault.Types 8)) rest x e in
    let least = first.0 in
    let least-is = ok_or_ok (least_types (number_at s 8)) (fault.Types 8) least (then_ok (reaches s 12 (4 + signature_len H5W8 + after)) (ok_or (least_types (number_at s 8)) (fault.Types 8)) least first.1).1 in
    let second = bind_ok (reaches s (48 + 32 * chain_count least) (4 + signature_len least + after) >> ok_or (types_of (number_at s (44 + 32 * chain_count least)) (number_at s 8)) (fault.Types (44 + 32 * chain_count least))) (tail least) x first.2 in
    let t = second.0 in
    let codes = types_of_ok (number_at s (44 + 32 * chain_count least)) (number_at s 8) t (ok_or_ok (types_of (number_at s (44 + 32 * chain_count least)) (number_at s 8)) (fault.Types (44 + 32 * chain_count least)) t (then_ok (reaches s (48 + 32 * chain_count least) (4 + signature_len least + after)) (ok_or (types_of (number_at s (44 + 32 * chain_count least)) (number_at s 8)) (fault.Types (44 + 32 * chain_count least))) t second.1).1) in
    let last = then_ok (has_leaf t (number_at s 4) >> reaches s (4 + signature_len t) (4 + signature_len t + after)) (found t (number_at s 4)) x second.2 in
    let prefix = then_ok (has_leaf t (number_at s 4)) (reaches s (4 + signature_len t) (4 + signature_len t + after)) last.0.0 last.0.1 in
    let chains : chain_count least ≡ chain_count t = least_chains t least (ap least_types (sym codes.1) ∙ least-is) in
    let lms : number_at s (44 + 32 * chain_count t) ≡ lms_code t = rw (← chains) codes.0 in
    let pair : (t, number_at s 4) ≡ x = cc (last.1) in
    let answer : IsFirst t (number_at s 4) s = record {
      read = record {
        room = reaches_ok s (4 + signature_len t) (4 + signature_len t + after) last.0.0 prefix.1;
        leaf = has_leaf_ok t (number_at s 4) prefix.0.0 prefix.0.1;
        codes = record { ots = codes.1; lms = lms };
        fields = refl;
      };
      leaf = refl;
    } in
    let P : Types × ℕ → Type 0 = λ y. IsFirst y.0 y.1 s in
    subst P pair answer

first_signature_there : (t : Types) (g : Signature) (s : List ℕ) (after : ℕ) → SignatureStands t g s 4 → g.leaf < 2 ^ height t → first_signature s after ≡ Ok (t, g.leaf)
unfolding first_signature
first_signature_there t g s after h leaf =
    let least = least_there t in
    let chains : chain_count least.0 ≡ chain_count t = least_chains t least.0 least.1 in
    let ots : number_at s 8 ≡ ots_code t = h.codes.ots in
    let lms : number_at s (44 + 32 * chain_count least.0) ≡ lms_code t = rw chains h.codes.lms in
    let leaf-is : number_at s 4 ≡ g.leaf = ap (λ (x : Signature). x.leaf) h.fields in
    let least-read : ok_or (least_types (number_at s 8)) (fault.Types 8) ≡ Ok least.0 = ap (λ (o : Option Types). ok_or o (fault.Types 8)) (ap least_types ots ∙ least.1) in
    let types-read : ok_or (types_of (number_at s (44 + 32 * chain_count least.0)) (number_at s 8)) (fault.Types (44 + 32 * chain_count least.0)) ≡ Ok t =
    ap (λ (o : Option Types). ok_or o (fault.Types (44 + 32 * chain_count least.0))) (ap (λ (n : ℕ). types_of n (number_at s 8)) lms ∙ ap (types_of (lms_code t)) ots ∙ types_of_codes t) in
    rw (
      reaches_room s 12 (4 + signature_len H5W8 + after) (omega (arith, h.room)),
      least-read,
      reaches_room s (48 + 32 * chain_count least.0) (4 + signature_len least.0 + after) (omega (arith, chains, h.room)),
      types-read,
      leaf-is,
      has_leaf_there t g.leaf leaf,
      reaches_room s (4 + signature_len t) (4 + signature_len t + after) h.room,
    ) refl

-- ---- a leaf that is found is encoded

pub leaf_of_one_ok : (s : List ℕ) (q : ℕ) → IsBytes s → number_at s 0 ≡ 0 → 4 ≤ length s → leaf_of_one s ≡ Ok q → HasLeaf s q
unfolding leaf_of_one
leaf_of_one_ok s q fits zero room e =
    let first = bind_ok (first_signature s 0) (λ (x : Types × ℕ). ends s (4 + signature_len x.0) >> Ok x.1) q e in
    let t = first.0.0 in
    let rest = then_ok (ends s (4 + signature_len t)) (Ok first.0.1) q first.2 in
    let end : length s ≡ 4 + signature_len t = ends_ok s (4 + signature_len t) rest.0.0 rest.0.1 in
    let h = first_signature_ok s 0 first.0 first.1 in
    let is = signature_is t (signature_fields t s 4) s 4 fits h.read in
    let head : Spans s 0 (u32str 0) 4 = subst (λ (n : ℕ). Spans s 0 (u32str n) 4) zero (spans_number s 0 4 fits room refl) in
    let leaf : first.0.1 ≡ q = cc (rest.1) in
    record {
      types = t;
      upper = [];
      last = signature_fields t s 4;
      few = omega arith;
      form = is.form;
      encoded = spans_all s _ (rw end (Spans-append s 0 4 (4 + signature_len t) _ _ head is.span));
      leaf = h.leaf ∙ leaf;
    }

pub leaf_of_two_ok : (s : List ℕ) (q : ℕ) → IsBytes s → number_at s 0 ≡ 1 → 4 ≤ length s → leaf_of_two s ≡ Ok q → HasLeaf s q
unfolding leaf_of_two leaf_below
leaf_of_two_ok s q fits one room e =
    let first = bind_ok (first_signature s (56 + signature_len H5W8)) (λ (x : Types × ℕ). leaf_below x.0 s) q e in
    let t = first.0.0 in
    let at = 4 + signature_len t in
    let second = bind_ok (embedded_key s at) (λ (next : PublicKey). signature_at next.types s (at + 56) (at + 56 + signature_len next.types) >>= λ (l : Signature). ends s (at + 56 + signature_len next.types) >> Ok l.leaf) q first.2 in
    let next = second.0 in
    let len = at + 56 + signature_len next.types in
    let third = bind_ok (signature_at next.types s (at + 56) len) (λ (l : Signature). ends s len >> Ok l.leaf) q second.2 in
    let l = third.0 in
    let rest = then_ok (ends s len) (Ok l.leaf) q third.2 in
    let end : length s ≡ len = ends_ok s len rest.0.0 rest.0.1 in
    let h = first_signature_ok s (56 + signature_len H5W8) first.0 first.1 in
    let g = signature_fields t s 4 in
    let upper-is = signature_is t g s 4 fits h.read in
    let key-is = key_is next s at fits (embedded_key_ok s at next second.1) in
    let last-is = signature_is next.types l s (at + 56) fits (signature_at_ok next.types s (at + 56) len l third.1) in
    let head : Spans s 0 (u32str 1) 4 = subst (λ (n : ℕ). Spans s 0 (u32str n) 4) one (spans_number s 0 4 fits room refl) in
    let levels = Spans-append s 4 (at + 56) len _ _ (Spans-append s 4 at (at + 56) _ _ upper-is.span key-is.span) last-is.span in
    record {
      types = t;
      upper = record { signature = g; key = next } ∷ [];
      last = l;
      few = omega arith;
      form = (upper-is.form, key-is.form, last-is.form);
      encoded = spans_all s _ (rw end (Spans-append s 0 4 len _ _ head levels));
      leaf = cc (rest.1);
    }

pub leaf_verdict_ok : (s : List ℕ) (q : ℕ) → IsBytes s → leaf_verdict s ≡ Ok q → HasLeaf s q
unfolding leaf_verdict
leaf_verdict_ok s q fits e =
    let last = then_ok (reaches s 4 (4 + signature_len H5W8) >> check (number_at s 0 == 0 || number_at s 0 == 1) (fault.Levels 1 (number_at s 0))) (if number_at s 0 == 0 then leaf_of_one s else leaf_of_two s) q e in
    let prefix = then_ok (reaches s 4 (4 + signature_len H5W8)) (check (number_at s 0 == 0 || number_at s 0 == 1) (fault.Levels 1 (number_at s 0))) last.0.0 last.0.1 in
    let room = reaches_ok s 4 _ prefix.0.0 prefix.0.1 in
    let test = check_ok (number_at s 0 == 0 || number_at s 0 == 1) _ last.0.0 prefix.1 in
    elim (cases_eq (number_at s 0) 0) [
      | inl zero ↦
          let b : (number_at s 0 == 0) ≡ true = grind (arith, nat_tests) in
          let read : leaf_of_one s ≡ Ok q = sym (ap (λ (x : Bool). if x then leaf_of_one s else leaf_of_two s) b) ∙ last.1 in
          leaf_of_one_ok s q fits zero room read
      | inr other ↦
          let one : number_at s 0 ≡ 1 = grind (arith, nat_tests) in
          let b : (number_at s 0 == 0) ≡ false = grind (arith, nat_tests) in
          let read : leaf_of_two s ≡ Ok q = sym (ap (λ (x : Bool). if x then leaf_of_one s else leaf_of_two s) b) ∙ last.1 in
          leaf_of_two_ok s q fits one room read
    ]

-- ---- a leaf that is encoded is found

leaf_of_one_there : (t : Types) (g : Signature) (s : List ℕ) → Spans s 4 (signature_bytes t g) (length s) → 4 ≤ length s → IsSignature t g → leaf_of_one s ≡ Ok g.leaf
unfolding leaf_of_one
leaf_of_one_there t g s span room form =
    let end : length s ≡ 4 + signature_len t = length-last s 4 (signature_bytes t g) span room ∙ ap (λ (n : ℕ). 4 + n) (length-signature_bytes t g form) in
    rw (first_signature_there t g s 0 (signature_stands t g s 4 (length s) span form) form.leaf, ends_there s (4 + signature_len t) end) refl

leaf_of_two_there : (t : Types) (u : Upper) (g : Signature) (s : List ℕ) → Spans s 4 (levels_bytes t (u ∷ []) g) (length s) → AreLevels t (u ∷ []) g → leaf_of_two s ≡ Ok g.leaf
unfolding leaf_of_two leaf_below
leaf_of_two_there t u g s span form =
    let at = 4 + signature_len t in
    let h = two_stand t u g s span form.0 form.1 form.2 in
    rw (
      first_signature_there t u.signature s (56 + signature_len H5W8) h.upper form.0.leaf,
      embedded_key_there u.key s at h.key,
      signature_at_there u.key.types g s (at + 56) (at + 56 + signature_len u.key.types) h.below form.2.leaf,
      ends_there s (at + 56 + signature_len u.key.types) h.end,
    ) refl

levels_number : (s : List ℕ) (t : Types) (us : List Upper) (g : Signature) → s ≡ hss_bytes t us g → length us ≤ 1 → number_at s 0 ≡ length us
levels_number s t us g encoded few =
    number_at-Spans s 0 4 (length us) (spans_left s 0 (length s) 4 (u32str (length us)) (levels_bytes t us g) (all_spans s (u32str (length us) ++ levels_bytes t us g) encoded) (length-u32str (length us))) (omega arith)

levels_room : (s : List ℕ) (t : Types) (us : List Upper) (g : Signature) → s ≡ hss_bytes t us g → 4 ≤ length s
levels_room s t us g encoded = omega (arith, ap length encoded, length-append (u32str (length us)) (levels_bytes t us g), length-u32str (length us))

leaf_levels : (s : List ℕ) (t : Types) (us : List Upper) (g : Signature) → length us ≤ 1 → AreLevels t us g → s ≡ hss_bytes t us g → leaf_verdict s ≡ Ok g.leaf
unfolding leaf_verdict
leaf_levels s t [] g few form encoded =
    let room = levels_room s t [] g encoded in
    rw (reaches_room s 4 (4 + signature_len H5W8) room, levels_number s t [] g encoded few) (leaf_of_one_there t g s (levels_span s t [] g encoded) room form)
leaf_levels s t (u ∷ []) g few form encoded =
    let room = levels_room s t (u ∷ []) g encoded in
    rw (reaches_room s 4 (4 + signature_len H5W8) room, levels_number s t (u ∷ []) g encoded few) (leaf_of_two_there t u g s (levels_span s t (u ∷ []) g encoded) form)
leaf_levels s t (u ∷ v ∷ us) g few form encoded =
    let small : suc (suc (length us)) ≤ 1 = few in
    absurd (omega arith)

pub leaf_there : (s : List ℕ) (q : ℕ) → HasLeaf s q → leaf_verdict s ≡ Ok q
leaf_there s q h = leaf_levels s h.types h.upper h.last h.few h.form h.encoded ∙ ap number h.leaf
