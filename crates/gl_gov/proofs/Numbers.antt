-- The numbers of members, from one on: what the first of them give, and the next.
use Rattle.std.proofs.Common.{◌≡◌, ℕ, zero, suc, ◌+◌, Option, None, Some, List, [], ◌∷◌, ◌++◌, filter_map, refl, sym, ◌∙◌, ap, arith, add-one}
use Rattle.std.specs.List.{range_with_len, cons_option}

range-last : (a n : ℕ) → range_with_len a (suc n) ≡ range_with_len a n ++ (a + n) ∷ []
range-last a zero = ap (λ (x : ℕ). x ∷ []) (omega arith)
range-last a (suc n) = ap (λ xs. a ∷ xs) (range-last (a + 1) n ∙ ap (λ (x : ℕ). range_with_len (a + 1) n ++ x ∷ []) (omega arith))

range-more : (i : ℕ) → range_with_len 1 (i + 1) ≡ range_with_len 1 i ++ (i + 1) ∷ []
range-more i = ap (range_with_len 1) (add-one i) ∙ range-last 1 i ∙ ap (λ (x : ℕ). range_with_len 1 i ++ x ∷ []) (omega arith)

module _ {A B : Type 0} (f : A → Option B) where
  filter_map-last : (xs : List A) (x : A) → filter_map f (xs ++ x ∷ []) ≡ filter_map f xs ++ cons_option (f x) []
  filter_map-last [] x = refl
  filter_map-last (y ∷ xs) x = go (f y) (filter_map-last xs x)
    where
      go : (o : Option B) → filter_map f (xs ++ x ∷ []) ≡ filter_map f xs ++ cons_option (f x) [] →
          cons_option o (filter_map f (xs ++ x ∷ [])) ≡ cons_option o (filter_map f xs) ++ cons_option (f x) []
      go None same = same
      go (Some z) same = ap (λ (zs : List B). z ∷ zs) same

-- what is found among the first numbers, and what the next gives, is what is found among one more
pub found_more : {B : Type 0} (f : ℕ → Option B) (i : ℕ) (old new : List B) (next : Option B) → old ≡ filter_map f (range_with_len 1 i) → next ≡ f (i + 1) →
    new ≡ old ++ cons_option next [] → new ≡ filter_map f (range_with_len 1 (i + 1))
found_more {B} f i old new next so gives put =
    put ∙ ap (λ (xs : List B). xs ++ cons_option next []) so ∙ ap (λ (o : Option B). filter_map f (range_with_len 1 i) ++ cons_option o []) gives
    ∙ sym (ap (filter_map f) (range-more i) ∙ filter_map-last f (range_with_len 1 i) (i + 1))

pub found_all : {B : Type 0} (f : ℕ → Option B) (i : ℕ) (found : List B) → i ≡ 255 → found ≡ filter_map f (range_with_len 1 i) → found ≡ filter_map f (range_with_len 1 255)
found_all f i found all so = so ∙ ap (λ (n : ℕ). filter_map f (range_with_len 1 n)) all
