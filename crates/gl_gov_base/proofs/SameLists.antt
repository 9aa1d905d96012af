-- Lists in general: maps, and lists that have the same elements in another order.
use Rattle.std.proofs.Common.{◌≡◌, ℕ, suc, ◌+◌, List, [], ◌∷◌, ◌++◌, length, map, reverse, Some, Bool, true, false, ◌&&◌, ◌||◌, cond, find, filter, count_by, nat_lt, refl, sym, ◌∙◌, ap, arith}
use mathlib.Core.List.{reverse_aux}
use Rattle.std.specs.List.{list_any}
use Rattle.std.specs.Option.{option_or, option_map}
use Rattle.std.proofs.lemmas.Bool.Decides.{nat_tests}
use Rattle.std.proofs.lemmas.List.{reverse-append}
use Rattle.std.proofs.lemmas.List.Folds.{find-append}
use Rattle.gl_vmaps.specs.LastWrite.{last_such}
use Rattle.gl_gov_rules.proofs.Counting.{one_if, count-cons, count-append}
use Rattle.gl_gov_base.specs.SameBy.{SameBy}

-- ---- the last that is such

pub last-append : {A : Type 0} (p : A → Bool) (xs ys : List A) → last_such p (xs ++ ys) ≡ option_or (last_such p ys) (last_such p xs)
last-append p xs ys = ap (find p) (reverse-append xs ys) ∙ find-append p (reverse ys) (reverse xs)

-- ---- maps

pub map_alike : {A B : Type 0} (f g : A → B) → ((x : A) → f x ≡ g x) → (xs : List A) → map f xs ≡ map g xs
map_alike f g e xs = λ i. map (λ x. e x i) xs

pub map_twice : {A B C : Type 0} (g : B → C) (f : A → B) (xs : List A) → map (λ x. g (f x)) xs ≡ map g (map f xs)
map_twice g f [] = refl
map_twice g f (x ∷ xs) = λ i. g (f x) ∷ map_twice g f xs i

pub map_same : {A : Type 0} (xs : List A) → map (λ x. x) xs ≡ xs
map_same [] = refl
map_same (x ∷ xs) = ap (λ ys. x ∷ ys) (map_same xs)

pub count-map : {A B : Type 0} (p : B → Bool) (f : A → B) (xs : List A) → count_by (λ x. p (f x)) xs ≡ count_by p (map f xs)
count-map p f [] = refl
count-map p f (x ∷ xs) = count-cons (λ x. p (f x)) x xs ∙ ap (λ n. one_if (p (f x)) + n) (count-map p f xs) ∙ sym (count-cons p (f x) (map f xs))

pub find-map : {A B : Type 0} (p : B → Bool) (f : A → B) (xs : List A) → find p (map f xs) ≡ option_map f (find (λ x. p (f x)) xs)
find-map p f [] = refl
find-map p f (x ∷ xs) = pick (p (f x)) (find-map p f xs)
  where
    pick : (b : Bool) → find p (map f xs) ≡ option_map f (find (λ x. p (f x)) xs) → cond b (Some (f x)) (find p (map f xs)) ≡ option_map f (cond b (Some x) (find (λ x. p (f x)) xs))
    pick true e = refl
    pick false e = e

reverse-onto : {A B : Type 0} (f : A → B) (xs ys : List A) → reverse_aux (map f xs) (map f ys) ≡ map f (reverse_aux xs ys)
reverse-onto f [] ys = refl
reverse-onto f (x ∷ xs) ys = reverse-onto f xs (x ∷ ys)

pub reverse-map : {A B : Type 0} (f : A → B) (xs : List A) → reverse (map f xs) ≡ map f (reverse xs)
reverse-map f xs = reverse-onto f xs []

pub last-map : {A B : Type 0} (p : B → Bool) (f : A → B) (xs : List A) → last_such p (map f xs) ≡ option_map f (last_such (λ x. p (f x)) xs)
last-map p f xs = ap (find p) (reverse-map f xs) ∙ find-map p f (reverse xs)

pub filter-map : {A B : Type 0} (p : B → Bool) (f : A → B) (xs : List A) → filter p (map f xs) ≡ map f (filter (λ x. p (f x)) xs)
filter-map p f [] = refl
filter-map p f (x ∷ xs) = pick (p (f x)) (filter-map p f xs)
  where
    pick : (b : Bool) → filter p (map f xs) ≡ map f (filter (λ x. p (f x)) xs) → cond b (f x ∷ filter p (map f xs)) (filter p (map f xs)) ≡ map f (cond b (x ∷ filter (λ x. p (f x)) xs) (filter (λ x. p (f x)) xs))
    pick true e = ap (λ ys. f x ∷ ys) e
    pick false e = e

pub any-map : {A B : Type 0} (p : B → Bool) (f : A → B) (xs : List A) → list_any (λ x. p (f x)) xs ≡ list_any p (map f xs)
any-map p f [] = refl
any-map p f (x ∷ xs) = ap (λ b. p (f x) || b) (any-map p f xs)

pub length-map : {A B : Type 0} (f : A → B) (xs : List A) → length (map f xs) ≡ length xs
length-map f [] = refl
length-map f (x ∷ xs) = ap suc (length-map f xs)

-- ---- counts

more : (n : ℕ) → nat_lt 0 (1 + n) ≡ true
more n = grind (arith, nat_tests)

none : (n : ℕ) → 0 + n ≡ n
none n = omega arith

pub any_by_count : {A : Type 0} (p : A → Bool) (xs : List A) → list_any p xs ≡ nat_lt 0 (count_by p xs)
any_by_count p [] = refl
any_by_count p (x ∷ xs) = pick (p x) refl (any_by_count p xs)
  where
    pick : (b : Bool) → p x ≡ b → list_any p xs ≡ nat_lt 0 (count_by p xs) → (p x || list_any p xs) ≡ nat_lt 0 (count_by p (x ∷ xs))
    pick true e rest = ap (λ b. b || list_any p xs) e ∙ sym (more (count_by p xs)) ∙ sym (ap (nat_lt 0) (count-cons p x xs ∙ ap (λ b. one_if b + count_by p xs) e))
    pick false e rest = ap (λ b. b || list_any p xs) e ∙ rest ∙ sym (ap (nat_lt 0) (none (count_by p xs))) ∙ sym (ap (nat_lt 0) (count-cons p x xs ∙ ap (λ b. one_if b + count_by p xs) e))

pub length_by_count : {A : Type 0} (xs : List A) → length xs ≡ count_by (λ x. true) xs
length_by_count [] = refl
length_by_count (x ∷ xs) = omega (arith, length_by_count xs, count-cons (λ x. true) x xs)

-- ---- the same elements

module _ {K A : Type 0} (has : K → A → Bool) where
  pub same_refl : (xs : List A) → SameBy has xs xs
  same_refl xs = record { counted = λ p. refl; first = λ k. refl; last = λ k. refl; first_with = λ k p. refl; last_with = λ k p. refl }

  pub same_append : (xs ys zs : List A) → SameBy has xs ys → SameBy has (xs ++ zs) (ys ++ zs)
  same_append xs ys zs s = record {
    counted = λ p. count-append p xs zs ∙ ap (λ n. n + count_by p zs) (s.counted p) ∙ sym (count-append p ys zs);
    first = λ k. find-append (has k) xs zs ∙ ap (λ o. option_or o (find (has k) zs)) (s.first k) ∙ sym (find-append (has k) ys zs);
    last = λ k. last-append (has k) xs zs ∙ ap (option_or (last_such (has k) zs)) (s.last k) ∙ sym (last-append (has k) ys zs);
    first_with = λ k p. let q : A → Bool = λ x. has k x && p x in find-append q xs zs ∙ ap (λ o. option_or o (find q zs)) (s.first_with k p) ∙ sym (find-append q ys zs);
    last_with = λ k p. let q : A → Bool = λ x. has k x && p x in last-append q xs zs ∙ ap (option_or (last_such q zs)) (s.last_with k p) ∙ sym (last-append q ys zs);
  }

  pub same_any : (xs ys : List A) → SameBy has xs ys → (p : A → Bool) → list_any p xs ≡ list_any p ys
  same_any xs ys s p = any_by_count p xs ∙ ap (nat_lt 0) (s.counted p) ∙ sym (any_by_count p ys)

  pub same_length : (xs ys : List A) → SameBy has xs ys → length xs ≡ length ys
  same_length xs ys s = length_by_count xs ∙ s.counted (λ x. true) ∙ sym (length_by_count ys)

-- a map that keeps keys keeps this
pub same_map : {K A B : Type 0} (has : K → A → Bool) (had : K → B → Bool) (f : A → B) → ((k : K) (x : A) → had k (f x) ≡ has k x) → (xs ys : List A) → SameBy has xs ys → SameBy had (map f xs) (map f ys)
same_map has had f keeps xs ys s = record {
  counted = λ p. sym (count-map p f xs) ∙ s.counted (λ x. p (f x)) ∙ count-map p f ys;
  first = λ k. find-map (had k) f xs ∙ (λ i. option_map f (find (λ x. keeps k x i) xs)) ∙ ap (option_map f) (s.first k) ∙ (λ i. option_map f (find (λ x. sym (keeps k x) i) ys)) ∙ sym (find-map (had k) f ys);
  last = λ k. last-map (had k) f xs ∙ (λ i. option_map f (last_such (λ x. keeps k x i) xs)) ∙ ap (option_map f) (s.last k) ∙ (λ i. option_map f (last_such (λ x. sym (keeps k x) i) ys)) ∙ sym (last-map (had k) f ys);
  first_with = λ k p. find-map (λ y. had k y && p y) f xs ∙ (λ i. option_map f (find (λ x. keeps k x i && p (f x)) xs)) ∙ ap (option_map f) (s.first_with k (λ x. p (f x))) ∙ (λ i. option_map f (find (λ x. sym (keeps k x) i && p (f x)) ys)) ∙ sym (find-map (λ y. had k y && p y) f ys);
  last_with = λ k p. last-map (λ y. had k y && p y) f xs ∙ (λ i. option_map f (last_such (λ x. keeps k x i && p (f x)) xs)) ∙ ap (option_map f) (s.last_with k (λ x. p (f x))) ∙ (λ i. option_map f (last_such (λ x. sym (keeps k x) i && p (f x)) ys)) ∙ sym (last-map (λ y. had k y && p y) f ys);
}

pub same_sym : {K A : Type 0} (has : K → A → Bool) (xs ys : List A) → SameBy has xs ys → SameBy has ys xs
same_sym has xs ys s = record { counted = λ p. sym (s.counted p); first = λ k. sym (s.first k); last = λ k. sym (s.last k); first_with = λ k p. sym (s.first_with k p); last_with = λ k p. sym (s.last_with k p) }
