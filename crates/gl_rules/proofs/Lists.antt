-- Seqnos of lists: what stands at an index of a list that is cut, joined or pushed to.
use Rattle.std.proofs.Common.{◌≡◌, ◌⊎◌, inl, inr, ℕ, zero, suc, ◌+◌, ◌≤◌, ◌<◌, List, [], ◌∷◌, ◌++◌, length, take, drop, Some, None, slice_get, refl, sym, ap, arith}
use Rattle.std.proofs.lemmas.Option.{slice_get_within}
use Rattle.gl_rules.specs.Safety.{IsPrefixOf}

module _ {A : Type 0} where
  pub within : (xs : List A) (i : ℕ) (x : A) → slice_get xs i ≡ Some x → i < length xs
  within xs i x e = slice_get_within xs i x e

  pub there : (xs : List A) (i : ℕ) → i < length xs → (x : A) × (slice_get xs i ≡ Some x)
  there [] i h = absurd (omega arith)
  there (x ∷ xs) zero h = (x, refl)
  there (x ∷ xs) (suc i) h = there xs i (omega arith)

  pub past : (xs : List A) (i : ℕ) → length xs ≤ i → slice_get xs i ≡ None
  past [] i h = refl
  past (x ∷ xs) zero h = absurd (omega arith)
  past (x ∷ xs) (suc i) h = past xs i (omega arith)

  pub get_take : (n : ℕ) (xs : List A) (i : ℕ) (x : A) → slice_get (take n xs) i ≡ Some x → (i < n) × (slice_get xs i ≡ Some x)
  get_take zero xs i x e = absurd (cc)
  get_take (suc n) [] i x e = absurd (cc)
  get_take (suc n) (y ∷ xs) zero x e = (omega arith, e)
  get_take (suc n) (y ∷ xs) (suc i) x e = let r = get_take n xs i x e in (omega arith, r.1)

  pub take_get : (n : ℕ) (xs : List A) (i : ℕ) (x : A) → i < n → slice_get xs i ≡ Some x → slice_get (take n xs) i ≡ Some x
  take_get zero xs i x h e = absurd (omega arith)
  take_get (suc n) [] i x h e = absurd (cc)
  take_get (suc n) (y ∷ xs) zero x h e = e
  take_get (suc n) (y ∷ xs) (suc i) x h e = take_get n xs i x (omega arith) e

  pub drop_get : (n : ℕ) (xs : List A) (i k : ℕ) → k ≡ n + i → slice_get (drop n xs) i ≡ slice_get xs k
  drop_get zero xs i k e = ap (slice_get xs) (omega arith)
  drop_get (suc n) [] i k e = refl
  drop_get (suc n) (y ∷ xs) i zero e = absurd (omega arith)
  drop_get (suc n) (y ∷ xs) i (suc k) e = drop_get n xs i k (omega arith)

  pub get_left : (xs ys : List A) (i : ℕ) (x : A) → slice_get xs i ≡ Some x → slice_get (xs ++ ys) i ≡ Some x
  get_left [] ys i x e = absurd (cc)
  get_left (y ∷ xs) ys zero x e = e
  get_left (y ∷ xs) ys (suc i) x e = get_left xs ys i x e

  pub get_append : (xs ys : List A) (i : ℕ) (x : A) → slice_get (xs ++ ys) i ≡ Some x → (slice_get xs i ≡ Some x) ⊎ ((j : ℕ) × (i ≡ length xs + j) × (slice_get ys j ≡ Some x))
  get_append [] ys i x e = inr (i, omega arith, e)
  get_append (y ∷ xs) ys zero x e = inl e
  get_append (y ∷ xs) ys (suc i) x e = go (get_append xs ys i x e)
    where
      go : (slice_get xs i ≡ Some x) ⊎ ((j : ℕ) × (i ≡ length xs + j) × (slice_get ys j ≡ Some x)) → (slice_get xs i ≡ Some x) ⊎ ((j : ℕ) × (suc i ≡ suc (length xs) + j) × (slice_get ys j ≡ Some x))
      go (inl r) = inl r
      go (inr r) = inr (r.0, omega (arith, r.1), r.2)

  pub get_push : (xs : List A) (y : A) (i : ℕ) (x : A) → slice_get (xs ++ y ∷ []) i ≡ Some x → (slice_get xs i ≡ Some x) ⊎ ((i ≡ length xs) × (x ≡ y))
  get_push [] y zero x e = inr (refl, cc)
  get_push [] y (suc i) x e = absurd (cc)
  get_push (z ∷ xs) y zero x e = inl e
  get_push (z ∷ xs) y (suc i) x e = go (get_push xs y i x e)
    where
      go : (slice_get xs i ≡ Some x) ⊎ ((i ≡ length xs) × (x ≡ y)) → (slice_get xs i ≡ Some x) ⊎ ((suc i ≡ suc (length xs)) × (x ≡ y))
      go (inl r) = inl r
      go (inr r) = inr (ap suc r.0, r.1)

  pub push_get : (xs : List A) (y : A) → slice_get (xs ++ y ∷ []) (length xs) ≡ Some y
  push_get [] y = refl
  push_get (z ∷ xs) y = push_get xs y

  -- the first k of l are those of m
  abbrev pub Same : ℕ → List A → List A → Type 0
  Same k l m = (j : ℕ) (x : A) → j < k → slice_get l j ≡ Some x → slice_get m j ≡ Some x

  pub same_take : (k : ℕ) (l m : List A) → k ≤ length l → Same k l m → take k l ≡ take k m
  same_take zero l m h a = refl
  same_take (suc k) [] m h a = absurd (omega arith)
  same_take (suc k) (x ∷ l) [] h a = absurd (let z = a 0 x (omega arith) refl in cc)
  same_take (suc k) (x ∷ l) (y ∷ m) h a =
      let e : x ≡ y = let z = a 0 x (omega arith) refl in cc in
      let r : take k l ≡ take k m = same_take k l m (omega arith) (λ j w g d. a (suc j) w (omega arith) d) in
      cc

  pub prefix_of : (k : ℕ) (l m : List A) → k ≤ length l → Same k l m → IsPrefixOf (take k l) m
  prefix_of zero l m h a = (m, refl)
  prefix_of (suc k) [] m h a = absurd (omega arith)
  prefix_of (suc k) (x ∷ l) [] h a = absurd (let z = a 0 x (omega arith) refl in cc)
  prefix_of (suc k) (x ∷ l) (y ∷ m) h a =
      let e : x ≡ y = let z = a 0 x (omega arith) refl in cc in
      let r : IsPrefixOf (take k l) m = prefix_of k l m (omega arith) (λ j w g d. a (suc j) w (omega arith) d) in
      (r.0, let q : take k l ++ r.0 ≡ m = r.1 in cc)

  pub take_whole : (xs : List A) → take (length xs) xs ≡ xs
  take_whole [] = refl
  take_whole (x ∷ xs) = ap {B = List A} (λ r. x ∷ r) (take_whole xs)

  pub append_none : (xs : List A) → xs ++ [] ≡ xs
  append_none [] = refl
  append_none (x ∷ xs) = ap {B = List A} (λ r. x ∷ r) (append_none xs)

  pub push_append : (xs : List A) (y : A) (ys : List A) → (xs ++ y ∷ []) ++ ys ≡ xs ++ y ∷ ys
  push_append [] y ys = refl
  push_append (x ∷ xs) y ys = ap {B = List A} (λ r. x ∷ r) (push_append xs y ys)

  pub take_nothing : (k : ℕ) → take {A = A} k [] ≡ []
  take_nothing zero = refl
  take_nothing (suc k) = refl

  pub take_one_more : (m : List A) (k : ℕ) (e : A) → slice_get m k ≡ Some e → take k m ++ e ∷ [] ≡ take (suc k) m
  take_one_more [] k e a = absurd (cc)
  take_one_more (d ∷ m) zero e a = let q : d ≡ e = cc in ap {B = List A} (λ c. c ∷ []) (sym q)
  take_one_more (d ∷ m) (suc k) e a = ap {B = List A} (λ l. d ∷ l) (take_one_more m k e a)

  pub take_past : (k : ℕ) (l : List A) → length l ≤ k → take k l ≡ l
  take_past zero [] h = refl
  take_past (suc k) [] h = refl
  take_past zero (x ∷ l) h = absurd (omega arith)
  take_past (suc k) (x ∷ l) h = ap {B = List A} (λ r. x ∷ r) (take_past k l (omega arith))
