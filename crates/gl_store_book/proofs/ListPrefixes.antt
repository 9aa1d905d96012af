-- The configurations behind a base: those up to a seqno stand in front, as many as are counted, and
-- their seqnos ascend.
use Rattle.std.proofs.Common.{◌≡◌, ⊎_elim, ℕ, zero, suc, ◌≤◌, ◌<◌, ◌+◌, ◌-◌, nat_le, Bool, List, [], ◌++◌, length, take, get_or, min, Option, None, Some, refl, sym, ap, ap₂, subst, ◌∙◌, arith, append_assoc, get_or-take}
use Rattle.std.specs.List.{All, AllPairs, filter, count_by}
use Rattle.std.proofs.Math.Seq.{take-append_seam}
use Rattle.std.proofs.lemmas.Bool.{cases_lt, le-leb, lt-leb}
use Rattle.std.proofs.lemmas.List.{append-nil, length-take}
use Rattle.std.proofs.lemmas.List.Elements.{All-nil, All-cons, All-append, filter-append}
use Rattle.std.proofs.lemmas.List.Quantifiers.{all_pairs_push}
use Rattle.std.proofs.lemmas.List.Sums.{length-filter}
use Rattle.gl_rules.specs.Identity.{NodeId}
use Rattle.gl_config.specs.declared.configuration.Configuration.{Configuration}
use Rattle.gl_config.specs.Active.{upto, at_seqno}
use Rattle.gl_audit.specs.GovState.{Governed}
use Rattle.gl_store_book.specs.Lists.{begun_at, configuration_at_base, configurations_behind, trusted_up_to}

-- what passes a test, where all of it stands first
pub prefix : {X : Type 0} (p : X → Bool) (xs rest : List X) → xs ≡ filter p xs ++ rest → take (count_by p xs) xs ≡ filter p xs
prefix p xs rest whole =
    ap (λ n. take n xs) (sym (length-filter p xs)) ∙ ap (λ ys. take (length (filter p xs)) ys) whole ∙ take-append_seam (filter p xs) rest

pub one_kept : (k n : ℕ) (o : Option (List NodeId)) → k ≤ n → upto n (at_seqno k o) ≡ at_seqno k o
one_kept k n None low = refl
one_kept k n (Some nodes) low = rw (le-leb k n low) refl

pub one_gone : (k n : ℕ) (o : Option (List NodeId)) → n < k → upto n (at_seqno k o) ≡ []
one_gone k n None high = refl
one_gone k n (Some nodes) high = rw (lt-leb k n high) refl

first_kept : (base seqno : ℕ) (set : List NodeId) → base ≤ seqno → upto seqno (configuration_at_base base set) ≡ configuration_at_base base set
first_kept zero seqno set low = refl
first_kept (suc n) seqno set low = rw (le-leb (suc n) seqno low) refl

-- ---- ascending seqnos

abbrev IsEarlier : Configuration → Configuration → Type 0
IsEarlier c d = c.seqno < d.seqno

one_within : (k n : ℕ) (o : Option (List NodeId)) → k ≤ n → All (λ (c : Configuration). c.seqno ≤ n) (at_seqno k o)
one_within k n None low = All-nil (λ (c : Configuration). c.seqno ≤ n)
one_within k n (Some nodes) low =
    All-cons (λ (c : Configuration). c.seqno ≤ n) (record { seqno = k; nodes = nodes }) [] low (All-nil (λ (c : Configuration). c.seqno ≤ n))

first_within : (base n : ℕ) (set : List NodeId) → base ≤ n → All (λ (c : Configuration). c.seqno ≤ n) (configuration_at_base base set)
first_within zero n set low = All-nil (λ (c : Configuration). c.seqno ≤ n)
first_within (suc b) n set low =
    All-cons (λ (c : Configuration). c.seqno ≤ n) (record { seqno = suc b; nodes = set }) [] low (All-nil (λ (c : Configuration). c.seqno ≤ n))

first_ascends : (base : ℕ) (set : List NodeId) → AllPairs IsEarlier (configuration_at_base base set)
first_ascends zero set = λ i j d low high. absurd (omega arith)
first_ascends (suc b) set = λ i j d low high. absurd (omega arith)

-- the first ones ascend where all do
pub ascend_take : (n : ℕ) (cs : List Configuration) → AllPairs IsEarlier cs → AllPairs IsEarlier (take n cs)
ascend_take n cs up i j d low high =
    let len : length (take n cs) ≡ min n (length cs) = length-take n cs in
    let first : get_or (take n cs) i d ≡ get_or cs i d = get_or-take n cs i d (omega (arith, len, low, high)) in
    let second : get_or (take n cs) j d ≡ get_or cs j d = get_or-take n cs j d (omega (arith, len, high)) in
    let both : (get_or cs i d).seqno < (get_or cs j d).seqno = up i j d low (omega (arith, len, high)) in
    subst (λ (c : Configuration). c.seqno < (get_or (take n cs) j d).seqno) (sym first)
    (subst (λ (c : Configuration). (get_or cs i d).seqno < c.seqno) (sym second) both)

module _ (base : ℕ) (g : Governed) where
  -- the configurations of more entries have those of these in front
  suffix : (n more : ℕ) → (rest : List Configuration) × (configurations_behind base g (n + more) ≡ configurations_behind base g n ++ rest)
  unfolding configurations_behind
  suffix n zero = let same : n + 0 ≡ n = omega arith in ([], ap (configurations_behind base g) same ∙ sym (append-nil (configurations_behind base g n)))
  suffix n (suc more) =
      let o : Option (List NodeId) = begun_at base g (base + suc (n + more)) in
      let before = suffix n more in
      let next : n + suc more ≡ suc (n + more) = omega arith in (
        before.0 ++ at_seqno (base + suc (n + more)) o,
        ap (configurations_behind base g) next ∙ ap (λ (cs : List Configuration). cs ++ at_seqno (base + suc (n + more)) o) before.1
            ∙ append_assoc (configurations_behind base g n) before.0 (at_seqno (base + suc (n + more)) o),
      )

  -- all of them are at or below a seqno after theirs
  all_kept : (n seqno : ℕ) → base + n ≤ seqno → upto seqno (configurations_behind base g n) ≡ configurations_behind base g n
  unfolding configurations_behind
  all_kept zero seqno low = first_kept base seqno (trusted_up_to g base) (omega (arith, low))
  all_kept (suc n) seqno low =
      let o : Option (List NodeId) = begun_at base g (base + suc n) in
      filter-append (λ (c : Configuration). nat_le c.seqno seqno) (configurations_behind base g n) (at_seqno (base + suc n) o)
      ∙ ap₂ (λ (us vs : List Configuration). us ++ vs) (all_kept n seqno (omega (arith, low))) (one_kept (base + suc n) seqno o low)

  -- and of those of more entries those of the first ones
  pub first_ones : (n more : ℕ) → upto (base + n) (configurations_behind base g (n + more)) ≡ configurations_behind base g n
  unfolding configurations_behind
  first_ones n zero =
      let same : n + 0 ≡ n = omega arith in
      ap (λ (k : ℕ). upto (base + n) (configurations_behind base g k)) same ∙ all_kept n (base + n) (omega arith)
  first_ones n (suc more) =
      let o : Option (List NodeId) = begun_at base g (base + suc (n + more)) in
      let next : n + suc more ≡ suc (n + more) = omega arith in
      ap (λ (k : ℕ). upto (base + n) (configurations_behind base g k)) next
      ∙ filter-append (λ (c : Configuration). nat_le c.seqno (base + n)) (configurations_behind base g (n + more)) (at_seqno (base + suc (n + more)) o)
      ∙ ap₂ (λ (us vs : List Configuration). us ++ vs) (first_ones n more) (one_gone (base + suc (n + more)) (base + n) o (omega arith))
      ∙ append-nil (configurations_behind base g n)

  -- so they are as many as were counted
  pub counted_prefix : (count seqno : ℕ) → base ≤ seqno →
      take (count_by (λ (c : Configuration). nat_le c.seqno seqno) (configurations_behind base g count)) (configurations_behind base g count)
      ≡ upto seqno (configurations_behind base g count)
  counted_prefix count seqno low = ⊎_elim
      (λ (inside : seqno < base + count).
      let split = suffix (seqno - base) (count - (seqno - base)) in
      let long : (seqno - base) + (count - (seqno - base)) ≡ count = omega (arith, low, inside) in
      let at : base + (seqno - base) ≡ seqno = omega (arith, low) in
      let kept : upto seqno (configurations_behind base g count) ≡ configurations_behind base g (seqno - base) =
      ap₂ (λ (s n : ℕ). upto s (configurations_behind base g n)) (sym at) (sym long) ∙ first_ones (seqno - base) (count - (seqno - base)) in
      prefix (λ (c : Configuration). nat_le c.seqno seqno) (configurations_behind base g count) split.0
      (ap (configurations_behind base g) (sym long) ∙ split.1 ∙ ap (λ (cs : List Configuration). cs ++ split.0) (sym kept)))
      (λ (past : base + count ≤ seqno).
      let all = all_kept count seqno past in
      prefix (λ (c : Configuration). nat_le c.seqno seqno) (configurations_behind base g count) [] (sym all ∙ sym (append-nil _)))
      (cases_lt seqno (base + count))

  -- ---- ascending seqnos

  behind_within : (n m : ℕ) → base + n ≤ m → All (λ (c : Configuration). c.seqno ≤ m) (configurations_behind base g n)
  unfolding configurations_behind
  behind_within zero m low = first_within base m (trusted_up_to g base) (omega (arith, low))
  behind_within (suc n) m low =
      let o : Option (List NodeId) = begun_at base g (base + suc n) in
      All-append (λ (c : Configuration). c.seqno ≤ m) (configurations_behind base g n) (at_seqno (base + suc n) o)
      (behind_within n m (omega (arith, low))) (one_within (base + suc n) m o low)

  -- each begins behind those before it
  pub behind_ascend : (n : ℕ) → AllPairs IsEarlier (configurations_behind base g n)
  unfolding configurations_behind
  behind_ascend zero = first_ascends base (trusted_up_to g base)
  behind_ascend (suc n) = go (begun_at base g (base + suc n)) (behind_ascend n)
    where
      go : (o : Option (List NodeId)) → AllPairs IsEarlier (configurations_behind base g n) → AllPairs IsEarlier (configurations_behind base g n ++ at_seqno (base + suc n) o)
      go None again = subst (AllPairs IsEarlier) (sym (append-nil (configurations_behind base g n))) again
      go (Some nodes) again = all_pairs_push IsEarlier (configurations_behind base g n) (record { seqno = base + suc n; nodes = nodes }) again
          (λ i d lt. let below : (get_or (configurations_behind base g n) i d).seqno ≤ base + n = behind_within n (base + n) (omega arith) i d lt in omega (arith, below))
