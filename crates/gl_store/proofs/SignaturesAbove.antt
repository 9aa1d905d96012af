-- The first signature above a seqno of entries behind a base, by the seqnos of their signatures.
use Rattle.std.proofs.Common.{◌≡◌, ℕ, zero, suc, ◌+◌, ◌-◌, ◌≤◌, nat_le, nat_lt, List, [], ◌∷◌, length, map, drop, get_or, slice_get, Option, None, Some, option_map, Bool, true, false, refl, sym, ◌∙◌, ap, subst, arith}
use Rattle.std.proofs.lemmas.List.{length-map}
use Rattle.std.specs.List.{find}
use Rattle.std.specs.List.Sorted.{IsPartitionPoint}
use Rattle.std.proofs.lemmas.Bool.Decides.{nat_tests}
use Rattle.std.proofs.lemmas.Option.{slice_get-map}
use Rattle.gl_rules.specs.Log.{entry_at}
use Rattle.gl_entry.specs.Entry.{is_signature}
use Rattle.gl_entry.specs.declared.entry.Entry.{Entry}
use Rattle.gl_snapshot_body.specs.declared.body.Body.{Body}
use Rattle.gl_audit.specs.Kept.{seqno_if, signed_from, signature_seqnos, seqnos_over}
use Rattle.gl_audit.proofs.SignatureSeqnos.{above-is, entry_if}

-- the entry with a seqno behind a base
abbrev pub entry_behind : Body → List Entry → Option ℕ → Option Entry
entry_behind body es None = None
entry_behind body es (Some seqno) = entry_at es (seqno - body.base)

-- this is where the seqnos above one begin
abbrev pub AreAboveFrom : ℕ → List ℕ → ℕ → Type 0
AreAboveFrom seqno xs n = IsPartitionPoint (λ s. nat_le s seqno ≡ true) (λ s. nat_le s seqno ≡ false) xs n

-- seqnos behind a base are those from 1 on, each above the base
shifted : (b n : ℕ) (es : List Entry) → signed_from (n + b) es ≡ map (λ (s : ℕ). s + b) (signed_from n es)
shifted b n [] = refl
shifted b n (e ∷ es) = go (is_signature e.content) (shifted b (suc n) es)
  where
    next : suc (n + b) ≡ suc n + b
    next = omega arith

    go : (signs : Bool) → signed_from (suc n + b) es ≡ map (λ (s : ℕ). s + b) (signed_from (suc n) es) →
        seqno_if signs (n + b) (signed_from (suc (n + b)) es) ≡ map (λ (s : ℕ). s + b) (seqno_if signs n (signed_from (suc n) es))
    go true is = ap (λ (xs : List ℕ). (n + b) ∷ xs) (ap (λ (k : ℕ). signed_from k es) next ∙ is)
    go false is = ap (λ (k : ℕ). signed_from k es) next ∙ is

got : (b : ℕ) (xs : List ℕ) (j d : ℕ) → get_or (map (λ (s : ℕ). s + b) xs) j (d + b) ≡ get_or xs j d + b
got b [] zero d = refl
got b [] (suc j) d = refl
got b (x ∷ xs) zero d = refl
got b (x ∷ xs) (suc j) d = got b xs j d

point_below : (b seqno m : ℕ) (xs : List ℕ) → b ≤ seqno → AreAboveFrom seqno (b ∷ map (λ (s : ℕ). s + b) xs) (suc m) → AreAboveFrom (seqno - b) xs m
point_below b seqno m xs from point = (
  λ j d start low. let at : nat_le (get_or (map (λ (s : ℕ). s + b) xs) j (d + b)) seqno ≡ true = point.0 (suc j) (d + b) (omega arith) (omega (arith, low)) in
      let there = got b xs j d in grind (arith, nat_tests, at, there, from),
  λ j d high low. let long : length (map (λ (s : ℕ). s + b) xs) ≡ length xs = length-map xs (λ (s : ℕ). s + b) in
      let at : nat_le (get_or (map (λ (s : ℕ). s + b) xs) j (d + b)) seqno ≡ false = point.1 (suc j) (d + b) (omega (arith, high)) (omega (arith, low, long)) in
      let there = got b xs j d in grind (arith, nat_tests, at, there, from),
)

placed : (body : Body) (es : List Entry) (o : Option ℕ) → entry_if es o ≡ entry_behind body es (option_map (λ (s : ℕ). s + body.base) o)
placed body es None = refl
placed body es (Some s) = ap (entry_at es) (let same : s ≡ s + body.base - body.base = omega arith in same)

above_whole : (body : Body) (es : List Entry) (seqno k : ℕ) → body.base ≡ 0 → AreAboveFrom seqno (signature_seqnos es) k →
    find (λ (e : Entry). is_signature e.content) (drop (seqno - body.base) es) ≡ entry_behind body es (slice_get (signature_seqnos es) k)
above_whole body es seqno k is point =
    ap (λ (m : ℕ). find (λ (e : Entry). is_signature e.content) (drop m es)) (let whole : seqno - body.base ≡ seqno = omega (arith, is) in whole)
    ∙ above-is es seqno k point (slice_get (signature_seqnos es) k) refl ∙ go (slice_get (signature_seqnos es) k)
  where
    go : (o : Option ℕ) → entry_if es o ≡ entry_behind body es o
    go None = refl
    go (Some s) = ap (entry_at es) (let whole : s ≡ s - body.base = omega (arith, is) in whole)

above_base : (body : Body) (es : List Entry) (seqno k : ℕ) → body.base ≤ seqno → AreAboveFrom seqno (body.base ∷ map (λ (s : ℕ). s + body.base) (signature_seqnos es)) k →
    find (λ (e : Entry). is_signature e.content) (drop (seqno - body.base) es) ≡ entry_behind body es (slice_get (body.base ∷ map (λ (s : ℕ). s + body.base) (signature_seqnos es)) k)
above_base body es seqno zero from point =
    absurd (let off : nat_le body.base seqno ≡ false = point.1 0 0 (omega arith) (omega arith) in let on : nat_le body.base seqno ≡ true = grind (arith, nat_tests, from) in let both = sym off ∙ on in cc)
above_base body es seqno (suc m) from point =
    above-is es (seqno - body.base) m (point_below body.base seqno m (signature_seqnos es) from point) (slice_get (signature_seqnos es) m) refl
    ∙ placed body es (slice_get (signature_seqnos es) m) ∙ ap (entry_behind body es) (sym (slice_get-map (λ (s : ℕ). s + body.base) (signature_seqnos es) m))

-- it is the entry at the first of the seqnos above it
pub above_over : (body : Body) (es : List Entry) (seqno k : ℕ) → body.base ≤ seqno → AreAboveFrom seqno (seqnos_over body es) k →
    find (λ (e : Entry). is_signature e.content) (drop (seqno - body.base) es) ≡ entry_behind body es (slice_get (seqnos_over body es) k)
above_over body es seqno k from point = go body.base refl
  where
    go : (n : ℕ) → body.base ≡ n → find (λ (e : Entry). is_signature e.content) (drop (seqno - body.base) es) ≡ entry_behind body es (slice_get (seqnos_over body es) k)
    go zero is =
        let are : seqnos_over body es ≡ signature_seqnos es = ap (λ (m : ℕ). seqno_if (nat_lt 0 m) m (signed_from (suc m) es)) is in
        subst (λ (xs : List ℕ). AreAboveFrom seqno xs k → find (λ (e : Entry). is_signature e.content) (drop (seqno - body.base) es) ≡ entry_behind body es (slice_get xs k)) (sym are)
        (above_whole body es seqno k is) point
    go (suc n) is =
        let some : nat_lt 0 body.base ≡ true = grind (arith, nat_tests, is) in
        let are : seqnos_over body es ≡ body.base ∷ map (λ (s : ℕ). s + body.base) (signature_seqnos es) =
        ap (λ (b : Bool). seqno_if b body.base (signed_from (suc body.base) es)) some
        ∙ ap (λ (xs : List ℕ). body.base ∷ xs) (ap (λ (m : ℕ). signed_from m es) (let one : suc body.base ≡ 1 + body.base = omega arith in one) ∙ shifted body.base 1 es) in
        subst (λ (xs : List ℕ). AreAboveFrom seqno xs k → find (λ (e : Entry). is_signature e.content) (drop (seqno - body.base) es) ≡ entry_behind body es (slice_get xs k)) (sym are)
        (above_base body es seqno k from) point
