-- The numbers from one on, and what is made of them.
use Rattle.std.proofs.Common.{◌≡◌, ℕ, zero, suc, ◌+◌, ◌-◌, ◌<◌, ◌≤◌, List, [], ◌∷◌, ◌++◌, length, map, Bool, true, false, not, ◌||◌, refl, sym, ◌∙◌, ap, arith, add-one, append_assoc, inl, inr}
use Rattle.std.specs.List.{list_all, list_any}
use Rattle.std.proofs.lemmas.Bool.{cases_eq, and_from}
use Rattle.gl_rules.specs.Identity.{NodeId, same, member}
use Rattle.gl_rules.proofs.Ids.{same_is}
use Rattle.gl_world.specs.Founding.{numbers_from}

-- of the numbers after i up to n the first is the next
pub numbers-next : (i n : ℕ) → i < n → numbers_from (suc i) (n - i) ≡ suc i ∷ numbers_from (suc (suc i)) (n - suc i)
numbers-next i n below = let count : n - i ≡ suc (n - suc i) = omega arith in ap (numbers_from (suc i)) count

-- with what is made of the next, what was made so far and what is made of those left is still the
-- whole
pub push-next : {A : Type 0} (f : ℕ → A) (out new whole : List A) (x : A) (i n : ℕ) → i < n → x ≡ f (i + 1) → new ≡ out ++ x ∷ [] →
    out ++ map f (numbers_from (suc i) (n - i)) ≡ whole → new ++ map f (numbers_from (suc (i + 1)) (n - (i + 1))) ≡ whole
push-next {A} f out new whole x i n below made pushed before =
    let rest : List A = map f (numbers_from (suc (i + 1)) (n - (i + 1))) in
    ap (λ (l : List A). l ++ rest) pushed ∙ append_assoc out (x ∷ []) rest ∙ ap (λ (y : A). out ++ y ∷ rest) made
    ∙ rw (add-one i) (ap (λ (ns : List ℕ). out ++ map f ns) (sym (numbers-next i n below))) ∙ before

-- a test of all that is made of them
pub all_made : {A : Type 0} (test : A → Bool) (f : ℕ → A) (first count : ℕ) →
    ((k : ℕ) → first ≤ k → k < first + count → test (f k) ≡ true) → list_all test (map f (numbers_from first count)) ≡ true
all_made test f first zero each = refl
all_made test f first (suc count) each =
    and_from (test (f first)) (list_all test (map f (numbers_from (suc first) count)))
    (each first (omega arith) (omega arith))
    (all_made test f (suc first) count (λ k low high. each k (omega arith) (omega arith)))

-- what none of what is made from a number on passes
pub none_made : {A : Type 0} (test : A → Bool) (f : ℕ → A) (first count : ℕ) → ((k : ℕ) → first ≤ k → test (f k) ≡ false) → list_any test (map f (numbers_from first count)) ≡ false
none_made test f first zero each = refl
none_made test f first (suc count) each = rw (each first (omega arith), none_made test f (suc first) count (λ k low. each k (omega arith))) refl

or_right : (a b : Bool) → b ≡ true → (a || b) ≡ true
or_right true b h = refl
or_right false b h = h

-- what is made of a number between stands there
pub among : {A : Type 0} (test : A → Bool) (f : ℕ → A) (k first count : ℕ) → first ≤ k → k < first + count → test (f k) ≡ true → list_any test (map f (numbers_from first count)) ≡ true
among test f k first zero low high passes = absurd (omega arith)
among test f k first (suc count) low high passes =
    elim (cases_eq k first) [
      | inl same ↦ ap (λ (b : Bool). b || list_any test (map f (numbers_from (suc first) count))) (sym (ap (λ (n : ℕ). test (f n)) same) ∙ passes)
      | inr other ↦ or_right (test (f first)) (list_any test (map f (numbers_from (suc first) count))) (among test f k (suc first) count (omega arith) (omega arith) passes)
    ]

-- what none of the first so many passes, none of fewer does
pub any_fewer : {A : Type 0} (test : A → Bool) (f : ℕ → A) (first n m : ℕ) → n ≤ m → list_any test (map f (numbers_from first m)) ≡ false → list_any test (map f (numbers_from first n)) ≡ false
any_fewer test f first zero m le none = refl
any_fewer test f first (suc n) zero le none = absurd (omega arith)
any_fewer test f first (suc n) (suc m) le none = go (test (f first)) none (any_fewer test f (suc first) n m (omega arith))
  where
    go : (b : Bool) → (b || list_any test (map f (numbers_from (suc first) m))) ≡ false →
        (list_any test (map f (numbers_from (suc first) m)) ≡ false → list_any test (map f (numbers_from (suc first) n)) ≡ false) →
        (b || list_any test (map f (numbers_from (suc first) n))) ≡ false
    go true w after = absurd (cc)
    go false w after = after w

pub not_true : (b : Bool) → not b ≡ true → b ≡ false
not_true true w = absurd (cc)
not_true false w = refl

pub length-made : {A : Type 0} (f : ℕ → A) (first count : ℕ) → length (map f (numbers_from first count)) ≡ count
length-made f first zero = refl
length-made f first (suc count) = ap suc (length-made f (suc first) count)

-- what is among those made of numbers is made of one
pub member_made : (f : ℕ → NodeId) (y : NodeId) (first count : ℕ) → member y (map f (numbers_from first count)) ≡ true → (number : ℕ) × (first ≤ number) × (number < first + count) × (f number ≡ y)
member_made f y first zero h = absurd (cc)
member_made f y first (suc count) h = go (same y (f first)) refl h (member_made f y (suc first) count)
  where
    go : (b : Bool) → same y (f first) ≡ b → (b || member y (map f (numbers_from (suc first) count))) ≡ true →
        (member y (map f (numbers_from (suc first) count)) ≡ true → (number : ℕ) × (suc first ≤ number) × (number < suc first + count) × (f number ≡ y)) →
        (number : ℕ) × (first ≤ number) × (number < first + suc count) × (f number ≡ y)
    go true is w after = (first, omega arith, omega arith, sym (same_is y (f first) is))
    go false is w after = let r = after w in (r.0, omega (arith, r.1), omega (arith, r.2), r.3)
