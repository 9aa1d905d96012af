-- Lists in general: what all of their elements pass, what is found in them, and how many pass.
use Rattle.std.proofs.Common.{◌≡◌, ℕ, suc, ◌+◌, ◌*◌, ◌≤◌, List, [], ◌∷◌, ◌++◌, length, reverse, Some, is_some, Bool, true, false, not, ◌||◌, cond, find, flat_map, count_by, refl, sym, ◌∙◌, ap, length-append, arith}
use mathlib.Core.List.{reverse_aux}
use Rattle.std.specs.List.{list_all, list_any, AllByRecursion}
use Rattle.std.proofs.lemmas.Bool.{and_parts, and_from, not-true}
use Rattle.std.proofs.lemmas.List.Sums.{sum_by-cons, sum_by-append}

-- ---- what all pass

module _ {A : Type 0} (p : A → Bool) where
  pub all_append : (xs ys : List A) → list_all p xs ≡ true → list_all p ys ≡ true → list_all p (xs ++ ys) ≡ true
  all_append [] ys first rest = rest
  all_append (x ∷ xs) ys first rest =
      let both = and_parts (p x) (list_all p xs) first in
      and_from (p x) _ both.0 (all_append xs ys both.1 rest)

  all_onto : (xs ys : List A) → list_all p xs ≡ true → list_all p ys ≡ true → list_all p (reverse_aux xs ys) ≡ true
  all_onto [] ys first rest = rest
  all_onto (x ∷ xs) ys first rest =
      let both = and_parts (p x) (list_all p xs) first in
      all_onto xs (x ∷ ys) both.1 (and_from (p x) _ both.0 rest)

  pub all_reverse : (xs : List A) → list_all p xs ≡ true → list_all p (reverse xs) ≡ true
  all_reverse xs all = all_onto xs [] all refl

  -- so does what is found
  pub all_find : (q : A → Bool) (xs : List A) (x : A) → list_all p xs ≡ true → find q xs ≡ Some x → p x ≡ true
  all_find q [] x all found = absurd cc
  all_find q (y ∷ xs) x all found =
      let both = and_parts (p y) (list_all p xs) all in
      pick (q y) found (λ (e : Some y ≡ Some x). let same : y ≡ x = cc in rw (← same) both.0) (all_find q xs x both.1)
    where
      pick : (b : Bool) → cond b (Some y) (find q xs) ≡ Some x → (Some y ≡ Some x → p x ≡ true) → (find q xs ≡ Some x → p x ≡ true) → p x ≡ true
      pick true e here there = here e
      pick false e here there = there e

-- what passes one test passes another
pub all_weaker : {A : Type 0} (p q : A → Bool) → ((x : A) → p x ≡ true → q x ≡ true) → (xs : List A) → list_all p xs ≡ true → list_all q xs ≡ true
all_weaker p q weaker [] all = refl
all_weaker p q weaker (x ∷ xs) all =
    let both = and_parts (p x) (list_all p xs) all in
    and_from (q x) _ (weaker x both.0) (all_weaker p q weaker xs both.1)

-- ---- what is true of each

pub each_append : {A : Type 0} (P : A → Type 0) (xs ys : List A) → AllByRecursion P xs → AllByRecursion P ys → AllByRecursion P (xs ++ ys)
each_append P [] ys first rest = rest
each_append P (x ∷ xs) ys first rest = (first.0, each_append P xs ys first.1 rest)

-- ---- what is found

-- what is found passes the test
pub find_passes : {A : Type 0} (q : A → Bool) (xs : List A) → is_some (find q xs) ≡ list_any q xs
find_passes q [] = refl
find_passes q (x ∷ xs) = pick (q x) (find_passes q xs)
  where
    pick : (b : Bool) → is_some (find q xs) ≡ list_any q xs → is_some (cond b (Some x) (find q xs)) ≡ (b || list_any q xs)
    pick true rest = refl
    pick false rest = rest

-- ---- how many pass

abbrev pub one_if : Bool → ℕ
one_if b = cond b 1 0

pub count-cons : {A : Type 0} (p : A → Bool) (x : A) (xs : List A) → count_by p (x ∷ xs) ≡ one_if (p x) + count_by p xs
count-cons p x xs = sum_by-cons (λ y. cond (p y) 1 0) x xs

pub count-append : {A : Type 0} (p : A → Bool) (xs ys : List A) → count_by p (xs ++ ys) ≡ count_by p xs + count_by p ys
count-append p xs ys = sum_by-append (λ y. cond (p y) 1 0) xs ys

-- as many pass a test as another that answers alike at each
pub count_alike : {A : Type 0} (p q : A → Bool) (xs : List A) → AllByRecursion (λ (x : A). p x ≡ q x) xs → count_by p xs ≡ count_by q xs
count_alike p q [] alike = refl
count_alike p q (x ∷ xs) alike =
    let rest = count_alike p q xs alike.1 in
    count-cons p x xs ∙ ap (λ n. one_if (p x) + n) rest ∙ ap (λ b. one_if b + count_by q xs) alike.0 ∙ sym (count-cons q x xs)

-- no more than two tests together, one of which each passes that passes this one
pub count_both : {A : Type 0} (p q r : A → Bool) → ((x : A) → one_if (p x) ≤ one_if (q x) + one_if (r x)) → (xs : List A) → count_by p xs ≤ count_by q xs + count_by r xs
count_both p q r either [] = omega arith
count_both p q r either (x ∷ xs) =
    omega (arith, count-cons p x xs, count-cons q x xs, count-cons r x xs, either x, count_both p q r either xs)

-- no more than by a weaker test
pub count_weaker : {A : Type 0} (p q : A → Bool) → ((x : A) → one_if (p x) ≤ one_if (q x)) → (xs : List A) → count_by p xs ≤ count_by q xs
count_weaker p q weaker [] = omega arith
count_weaker p q weaker (x ∷ xs) = omega (arith, count-cons p x xs, count-cons q x xs, weaker x, count_weaker p q weaker xs)

-- none where all fail
pub count_none : {A : Type 0} (p : A → Bool) (xs : List A) → list_all (λ x. not (p x)) xs ≡ true → count_by p xs ≡ 0
count_none p [] none = refl
count_none p (x ∷ xs) none =
    let both = and_parts (not (p x)) (list_all (λ y. not (p y)) xs) none in
    let first : one_if (p x) ≡ 0 = ap one_if (not-true (p x) both.0) in
    omega (arith, count-cons p x xs, first, count_none p xs both.1)

-- all where all pass
pub count_all : {A : Type 0} (p : A → Bool) (xs : List A) → list_all p xs ≡ true → count_by p xs ≡ length xs
count_all p [] all = refl
count_all p (x ∷ xs) all =
    let both = and_parts (p x) (list_all p xs) all in
    let first : one_if (p x) ≡ 1 = ap one_if both.0 in
    omega (arith, count-cons p x xs, first, count_all p xs both.1)

-- ---- the pigeonhole

all_of_none : {A : Type 0} (xs : List A) → list_all (λ x. true) xs ≡ true
all_of_none [] = refl
all_of_none (x ∷ xs) = all_of_none xs

-- Where each of the ys meets at most one of the xs, and only if it passes, there are no more xs
-- than ys that pass and xs that none meets.
pub pigeonhole : {A B : Type 0} (passes : B → Bool) (meets : B → A → Bool) (xs : List A) → ((y : B) → count_by (meets y) xs ≤ one_if (passes y)) →
    (ys : List B) → length xs ≤ count_by passes ys + count_by (λ x. not (list_any (λ y. meets y x) ys)) xs
pigeonhole passes meets xs few [] = omega (arith, count_all (λ x. true) xs (all_of_none xs))
pigeonhole passes meets xs few (y ∷ ys) =
    omega (
      arith,
      count-cons passes y ys,
      few y,
      count_both (λ x. not (list_any (λ z. meets z x) ys)) (λ x. not (meets y x || list_any (λ z. meets z x) ys)) (meets y) (λ x. either (meets y x) (list_any (λ z. meets z x) ys)) xs,
      pigeonhole passes meets xs few ys,
    )
  where
    either : (a b : Bool) → one_if (not b) ≤ one_if (not (a || b)) + one_if a
    either true true = omega arith
    either true false = omega arith
    either false true = omega arith
    either false false = omega arith

-- no more than pass, where each is met
pub pigeonhole_met : {A B : Type 0} (passes : B → Bool) (meets : B → A → Bool) (xs : List A) (ys : List B) → ((y : B) → count_by (meets y) xs ≤ one_if (passes y)) →
    list_all (λ x. list_any (λ y. meets y x) ys) xs ≡ true → length xs ≤ count_by passes ys
pigeonhole_met {A = A} passes meets xs ys few met =
    let met_by : A → Bool = λ x. list_any (λ y. meets y x) ys in
    let none = count_none (λ x. not (met_by x)) xs (all_weaker met_by (λ x. not (not (met_by x))) (λ x e. twice (met_by x) e) xs met) in
    omega (arith, pigeonhole passes meets xs few ys, none)
  where
    twice : (b : Bool) → b ≡ true → not (not b) ≡ true
    twice true e = refl
    twice false e = e

-- ---- lengths

-- parts of at most so many bytes
pub flat_map_most : {A B : Type 0} (f : A → List B) (most : ℕ) (xs : List A) → AllByRecursion (λ (x : A). length (f x) ≤ most) xs → length (flat_map f xs) ≤ most * length xs
flat_map_most f most [] all = omega arith
flat_map_most f most (x ∷ xs) all =
    let a = length-append (f x) (flat_map f xs) in
    let b = flat_map_most f most xs all.1 in
    let c : most * suc (length xs) ≡ most + most * length xs = omega arith in
    omega (arith, a, b, c, all.0)
