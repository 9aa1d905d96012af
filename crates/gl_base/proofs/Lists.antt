-- Lists: what stands at an index of a list that is cut, joined or pushed to, and its first
-- elements.
use Rattle.std.proofs.Common.{◌≡◌, ◌⊎◌, inl, inr, ⊎_elim, ℕ, zero, suc, ◌+◌, ◌≤◌, ◌<◌, List, [], ◌∷◌, ◌++◌, length, take, drop, map, get_or, Some, None, slice_get, refl, ap, arith, add-one, drop-cons}

module _ {A : Type 0} where
  -- ---- an index

  pub slice_get-within : (xs : List A) (i : ℕ) (x : A) → slice_get xs i ≡ Some x → i < length xs
  slice_get-within [] i x e = absurd (cc)
  slice_get-within (y ∷ xs) zero x e = omega arith
  slice_get-within (y ∷ xs) (suc i) x e = let h : i < length xs = slice_get-within xs i x e in omega arith

  pub slice_get-below : (xs : List A) (i : ℕ) → i < length xs → (x : A) × (slice_get xs i ≡ Some x)
  slice_get-below [] i h = absurd (omega arith)
  slice_get-below (x ∷ xs) zero h = (x, refl)
  slice_get-below (x ∷ xs) (suc i) h = slice_get-below xs i (omega arith)

  pub slice_get-past : (xs : List A) (i : ℕ) → length xs ≤ i → slice_get xs i ≡ None
  slice_get-past [] i h = refl
  slice_get-past (x ∷ xs) zero h = absurd (omega arith)
  slice_get-past (x ∷ xs) (suc i) h = slice_get-past xs i (omega arith)

  -- ---- an index of the first elements, and of the others

  pub slice_get-of_take : (n : ℕ) (xs : List A) (i : ℕ) (x : A) → slice_get (take n xs) i ≡ Some x → (i < n) × (slice_get xs i ≡ Some x)
  slice_get-of_take zero xs i x e = absurd (cc)
  slice_get-of_take (suc n) [] i x e = absurd (cc)
  slice_get-of_take (suc n) (y ∷ xs) zero x e = (omega arith, e)
  slice_get-of_take (suc n) (y ∷ xs) (suc i) x e = let r = slice_get-of_take n xs i x e in (omega arith, r.1)

  pub slice_get-take : (n : ℕ) (xs : List A) (i : ℕ) (x : A) → i < n → slice_get xs i ≡ Some x → slice_get (take n xs) i ≡ Some x
  slice_get-take zero xs i x h e = absurd (omega arith)
  slice_get-take (suc n) [] i x h e = absurd (cc)
  slice_get-take (suc n) (y ∷ xs) zero x h e = e
  slice_get-take (suc n) (y ∷ xs) (suc i) x h e = slice_get-take n xs i x (omega arith) e

  pub slice_get-drop : (n : ℕ) (xs : List A) (i k : ℕ) → k ≡ n + i → slice_get (drop n xs) i ≡ slice_get xs k
  slice_get-drop zero xs i k e = ap (slice_get xs) (omega arith)
  slice_get-drop (suc n) [] i k e = refl
  slice_get-drop (suc n) (y ∷ xs) i zero e = absurd (omega arith)
  slice_get-drop (suc n) (y ∷ xs) i (suc k) e = slice_get-drop n xs i k (omega arith)

  -- ---- an index of two lists that are joined

  pub slice_get-append : (xs ys : List A) (i : ℕ) (x : A) → slice_get xs i ≡ Some x → slice_get (xs ++ ys) i ≡ Some x
  slice_get-append [] ys i x e = absurd (cc)
  slice_get-append (y ∷ xs) ys zero x e = e
  slice_get-append (y ∷ xs) ys (suc i) x e = slice_get-append xs ys i x e

  pub slice_get-of_append : (xs ys : List A) (i : ℕ) (x : A) → slice_get (xs ++ ys) i ≡ Some x
      → (slice_get xs i ≡ Some x) ⊎ ((j : ℕ) × (i ≡ length xs + j) × (slice_get ys j ≡ Some x))
  slice_get-of_append [] ys i x e = inr (i, omega arith, e)
  slice_get-of_append (y ∷ xs) ys zero x e = inl e
  slice_get-of_append (y ∷ xs) ys (suc i) x e = go (slice_get-of_append xs ys i x e)
    where
      go : (slice_get xs i ≡ Some x) ⊎ ((j : ℕ) × (i ≡ length xs + j) × (slice_get ys j ≡ Some x))
          → (slice_get xs i ≡ Some x) ⊎ ((j : ℕ) × (suc i ≡ suc (length xs) + j) × (slice_get ys j ≡ Some x))
      go (inl r) = inl r
      go (inr r) = inr (r.0, omega (arith, r.1), r.2)

  -- ---- one element more at the end

  -- an element of the longer list is one of the list, or the new one
  pub slice_get-push : (xs : List A) (y : A) (i : ℕ) (x : A) → slice_get (xs ++ y ∷ []) i ≡ Some x
      → (slice_get xs i ≡ Some x) ⊎ ((i ≡ length xs) × (x ≡ y))
  slice_get-push [] y zero x e = inr (refl, cc)
  slice_get-push [] y (suc i) x e = absurd (cc)
  slice_get-push (z ∷ xs) y zero x e = inl e
  slice_get-push (z ∷ xs) y (suc i) x e =
      ⊎_elim (λ (s : slice_get xs i ≡ Some x). inl s) (λ (s : (i ≡ length xs) × (x ≡ y)). inr (ap suc s.0, s.1)) (slice_get-push xs y i x e)

  -- the last element stands after all others
  pub slice_get-last : (xs : List A) (x : A) → slice_get (xs ++ x ∷ []) (length xs) ≡ Some x
  slice_get-last [] x = refl
  slice_get-last (y ∷ xs) x = slice_get-last xs x

  pub push-append : (xs : List A) (y : A) (ys : List A) → (xs ++ y ∷ []) ++ ys ≡ xs ++ y ∷ ys
  push-append [] y ys = refl
  push-append (x ∷ xs) y ys = ap {B = List A} (λ r. x ∷ r) (push-append xs y ys)

  -- up to the list's length the longer list is the list
  pub take-push : (xs : List A) (y : A) (i : ℕ) → i ≤ length xs → take i (xs ++ y ∷ []) ≡ take i xs
  take-push xs y zero h = refl
  take-push [] y (suc i) h = absurd (omega arith)
  take-push (z ∷ xs) y (suc i) h = ap {B = List A} (λ t. z ∷ t) (take-push xs y i (omega arith))

  -- ---- first elements

  pub take-nil : (k : ℕ) → take {A = A} k [] ≡ []
  take-nil zero = refl
  take-nil (suc k) = refl

  pub take-next : (xs : List A) (i : ℕ) (x : A) → slice_get xs i ≡ Some x → take (suc i) xs ≡ take i xs ++ x ∷ []
  take-next [] i x e = absurd (cc)
  take-next (y ∷ xs) zero x e = let q : y ≡ x = cc in ap {B = List A} (λ z. z ∷ []) q
  take-next (y ∷ xs) (suc i) x e = ap {B = List A} (λ t. y ∷ t) (take-next xs i x e)

  pub take-past : (xs : List A) (n : ℕ) → length xs ≤ n → take n xs ≡ xs
  take-past [] zero h = refl
  take-past [] (suc n) h = refl
  take-past (x ∷ xs) zero h = absurd (omega arith)
  take-past (x ∷ xs) (suc n) h = ap {B = List A} (λ t. x ∷ t) (take-past xs n (omega arith))

  -- the whole list is its first elements, as many as it has
  pub take-all : (xs : List A) → take (length xs) xs ≡ xs
  take-all xs = take-past xs (length xs) (omega arith)

  -- the first k of l are those of m
  abbrev pub SameBelow : ℕ → List A → List A → Type 0
  SameBelow k l m = (j : ℕ) (x : A) → j < k → slice_get l j ≡ Some x → slice_get m j ≡ Some x

  pub take-same : (k : ℕ) (l m : List A) → k ≤ length l → SameBelow k l m → take k l ≡ take k m
  take-same zero l m h a = refl
  take-same (suc k) [] m h a = absurd (omega arith)
  take-same (suc k) (x ∷ l) [] h a = absurd (let z = a 0 x (omega arith) refl in cc)
  take-same (suc k) (x ∷ l) (y ∷ m) h a =
      let e : x ≡ y = let z = a 0 x (omega arith) refl in cc in
      let r : take k l ≡ take k m = take-same k l m (omega arith) (λ j w g d. a (suc j) w (omega arith) d) in
      cc

  -- fewer of the first elements are a prefix of more of them, with more after the list too
  pub prefixes : (xs more : List A) (c d : ℕ) → c ≤ d → c ≤ length xs → (rest : List A) × (take c xs ++ rest ≡ take d (xs ++ more))
  prefixes xs more zero d le within = (take d (xs ++ more), refl)
  prefixes [] more (suc c) d le within = absurd (omega arith)
  prefixes (x ∷ xs) more (suc c) zero le within = absurd (omega arith)
  prefixes (x ∷ xs) more (suc c) (suc d) le within =
      let r = prefixes xs more c d (omega arith) (omega arith) in (r.0, ap {B = List A} (λ t. x ∷ t) r.1)

-- what is made of a list from a place on begins with what is made of the element there
pub map-drop : {A B : Type 0} (f : A → B) (xs : List A) (i : ℕ) (d : A) → i < length xs → map f (drop i xs) ≡ f (get_or xs i d) ∷ map f (drop (i + 1) xs)
map-drop f xs i d h = rw add-one (ap (map f) (drop-cons xs i d h))
