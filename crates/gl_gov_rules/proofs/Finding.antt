-- Lists in general: where what is found stands, and that what stands somewhere is found.
use Rattle.std.proofs.Common.{◌≡◌, ◌⊎◌, inl, inr, ⊎_elim, ℕ, zero, suc, List, [], ◌∷◌, ◌++◌, map, Option, Some, None, Bool, true, false, not, find, filter, count_by, slice_get, refl, sym, ◌∙◌, ap, subst, arith}
use Rattle.std.specs.List.{list_all, list_any, AllByRecursion}
use Rattle.std.specs.Option.{option_or}
use Rattle.std.proofs.lemmas.Bool.{or_left, or_right, or_cases, or_parts, and_from, not_from_false, cases_Bool, cond-true, cond-false, false_from_ne_true}
use Rattle.std.proofs.lemmas.Option.{same_Some}
use Rattle.std.proofs.lemmas.List.Folds.{find-append}
use Rattle.gl_gov_rules.proofs.Counting.{one_if, count-cons, count_none}

module _ {A : Type 0} where
  -- an element of the list that passes, and its place
  pub record At (p : A → Bool) (xs : List A) (x : A) : Type 0 where
    pub place : ℕ
    pub stands : slice_get xs place ≡ Some x
    pub passes : p x ≡ true

  abbrev at_later : (p : A → Bool) (y : A) (xs : List A) (x : A) → At p xs x → At p (y ∷ xs) x
  at_later p y xs x a = record { place = suc a.place; stands = a.stands; passes = a.passes }

  -- ---- what is found

  pub found_at : (p : A → Bool) (xs : List A) (x : A) → find p xs ≡ Some x → At p xs x
  found_at p [] x e = absurd cc
  found_at p (y ∷ xs) x e =
      ⊎_elim
      (λ (t : p y ≡ true). let same : y ≡ x = same_Some y x (sym (cond-true (p y) (Some y) (find p xs) t) ∙ e) in record {
        place = 0;
        stands = ap Some same;
        passes = ap p (sym same) ∙ t;
      })
      (λ (f : p y ≡ false). at_later p y xs x (found_at p xs x (sym (cond-false (p y) (Some y) (find p xs) f) ∙ e)))
      (cases_Bool (p y))

  -- what stands somewhere and passes makes that something is found
  pub find_any : (p : A → Bool) (xs : List A) (i : ℕ) (x : A) → slice_get xs i ≡ Some x → p x ≡ true → (y : A) × (find p xs ≡ Some y)
  find_any p [] i x at pass = absurd cc
  find_any p (y ∷ xs) zero x at pass =
      let same : y ≡ x = cc in
      (y, cond-true (p y) (Some y) (find p xs) (ap p same ∙ pass))
  find_any p (y ∷ xs) (suc i) x at pass =
      ⊎_elim
      (λ (t : p y ≡ true). (y, cond-true (p y) (Some y) (find p xs) t))
      (λ (f : p y ≡ false). let r = find_any p xs i x at pass in (r.0, cond-false (p y) (Some y) (find p xs) f ∙ r.1))
      (cases_Bool (p y))

  -- nothing that stands somewhere passes where nothing is found
  pub find_none : (p : A → Bool) (xs : List A) (i : ℕ) (x : A) → find p xs ≡ None → slice_get xs i ≡ Some x → p x ≡ true → ⊥
  find_none p xs i x none at pass = let r = find_any p xs i x at pass in absurd cc

  -- ---- whether any passes

  pub any_at : (p : A → Bool) (xs : List A) → list_any p xs ≡ true → (x : A) × At p xs x
  any_at p [] e = absurd cc
  any_at p (y ∷ xs) e =
      ⊎_elim
      (λ (t : p y ≡ true). (y, record { place = 0; stands = refl; passes = t }))
      (λ (t : list_any p xs ≡ true). let r = any_at p xs t in (r.0, at_later p y xs r.0 r.1))
      (or_cases (p y) (list_any p xs) e)

  pub any_from : (p : A → Bool) (xs : List A) (i : ℕ) (x : A) → slice_get xs i ≡ Some x → p x ≡ true → list_any p xs ≡ true
  any_from p [] i x at pass = absurd cc
  any_from p (y ∷ xs) zero x at pass = let same : y ≡ x = cc in or_left (p y) (list_any p xs) (ap p same ∙ pass)
  any_from p (y ∷ xs) (suc i) x at pass = or_right (p y) (list_any p xs) (any_from p xs i x at pass)

  pub any_false : (p : A → Bool) (xs : List A) → ((i : ℕ) (x : A) → slice_get xs i ≡ Some x → p x ≡ true → ⊥) → list_any p xs ≡ false
  any_false p xs none = false_from_ne_true (list_any p xs) (λ t. let r = any_at p xs t in none r.1.place r.0 r.1.stands r.1.passes)

  none_all : (p : A → Bool) (xs : List A) → list_any p xs ≡ false → list_all (λ x. not (p x)) xs ≡ true
  none_all p [] e = refl
  none_all p (x ∷ xs) e =
      let both = or_parts (p x) (list_any p xs) e in
      and_from (not (p x)) (list_all (λ y. not (p y)) xs) (not_from_false (p x) both.0) (none_all p xs both.1)

  -- ---- with more after

  -- what is found stays found
  pub find_kept : (p : A → Bool) (xs ys : List A) (x : A) → find p xs ≡ Some x → find p (xs ++ ys) ≡ Some x
  find_kept p xs ys x found = find-append p xs ys ∙ ap (λ (o : Option A). option_or o (find p ys)) found

  -- what is found was found before, or stands after
  pub find_new : (p : A → Bool) (xs ys : List A) (x : A) → find p (xs ++ ys) ≡ Some x → (find p xs ≡ Some x) ⊎ ((find p xs ≡ None) × (find p ys ≡ Some x))
  find_new p xs ys x e = go (find p xs) refl (sym (find-append p xs ys) ∙ e)
    where
      go : (o : Option A) → find p xs ≡ o → option_or o (find p ys) ≡ Some x → (find p xs ≡ Some x) ⊎ ((find p xs ≡ None) × (find p ys ≡ Some x))
      go None is there = inr (is, there)
      go (Some y) is there = inl (is ∙ there)

  -- ---- what is true of each

  pub each_at : (P : A → Type 0) (xs : List A) → AllByRecursion P xs → (i : ℕ) (x : A) → slice_get xs i ≡ Some x → P x
  each_at P [] all i x at = absurd cc
  each_at P (y ∷ xs) all zero x at = let same : y ≡ x = cc in subst P same all.0
  each_at P (y ∷ xs) all (suc i) x at = each_at P xs all.1 i x at

  -- what a filter keeps stands in the list
  pub filter_at : (p : A → Bool) (xs : List A) (i : ℕ) (x : A) → slice_get (filter p xs) i ≡ Some x → At p xs x
  filter_at p [] i x e = absurd cc
  filter_at p (y ∷ xs) i x e =
      ⊎_elim
      (λ (t : p y ≡ true). kept t (filter_at p xs) i (ap (λ (l : List A). slice_get l i) (sym (cond-true (p y) (y ∷ filter p xs) (filter p xs) t)) ∙ e))
      (λ (f : p y ≡ false). at_later p y xs x (filter_at p xs i x (ap (λ (l : List A). slice_get l i) (sym (cond-false (p y) (y ∷ filter p xs) (filter p xs) f)) ∙ e)))
      (cases_Bool (p y))
    where
      kept : p y ≡ true → ((k : ℕ) (z : A) → slice_get (filter p xs) k ≡ Some z → At p xs z) → (k : ℕ) → slice_get (y ∷ filter p xs) k ≡ Some x → At p (y ∷ xs) x
      kept t rest zero e = let same : y ≡ x = cc in record { place = 0; stands = e; passes = ap p (sym same) ∙ t }
      kept t rest (suc k) e = at_later p y xs x (rest k x e)

  -- what passes stays
  pub filter_has : (p : A → Bool) (xs : List A) (i : ℕ) (x : A) → slice_get xs i ≡ Some x → p x ≡ true → (k : ℕ) × (slice_get (filter p xs) k ≡ Some x)
  filter_has p [] i x at pass = absurd cc
  filter_has p (y ∷ xs) zero x at pass =
      let same : y ≡ x = cc in
      (0, ap (λ (l : List A). slice_get l 0) (cond-true (p y) (y ∷ filter p xs) (filter p xs) (ap p same ∙ pass)) ∙ ap Some same)
  filter_has p (y ∷ xs) (suc i) x at pass =
      let r = filter_has p xs i x at pass in
      ⊎_elim
      (λ (t : p y ≡ true). (suc r.0, ap (λ (l : List A). slice_get l (suc r.0)) (cond-true (p y) (y ∷ filter p xs) (filter p xs) t) ∙ r.1))
      (λ (f : p y ≡ false). (r.0, ap (λ (l : List A). slice_get l r.0) (cond-false (p y) (y ∷ filter p xs) (filter p xs) f) ∙ r.1))
      (cases_Bool (p y))

  -- ---- what stands after

  pub after_at : (xs ys : List A) (j : ℕ) (y : A) → slice_get ys j ≡ Some y → (k : ℕ) × (slice_get (xs ++ ys) k ≡ Some y)
  after_at [] ys j y at = (j, at)
  after_at (x ∷ xs) ys j y at = let r = after_at xs ys j y at in (suc r.0, r.1)

  -- ---- another that passes

  -- where one passes and not exactly one does, another does
  pub another : (p : A → Bool) (xs : List A) (i : ℕ) (x : A) → slice_get xs i ≡ Some x → p x ≡ true → (count_by p xs ≡ 1 → ⊥) → (y : A) × (q : At p xs y) × (q.place ≡ i → ⊥)
  another p [] i x at pass many = absurd cc
  another p (z ∷ xs) zero x at pass many =
      let same : z ≡ x = cc in
      let one : one_if (p z) ≡ 1 = ap one_if (ap p same ∙ pass) in
      rest (list_any p xs) refl (λ none. many (omega (arith, count-cons p z xs, one, none)))
    where
      rest : (b : Bool) → list_any p xs ≡ b → (count_by p xs ≡ 0 → ⊥) → (y : A) × (q : At p (z ∷ xs) y) × (q.place ≡ 0 → ⊥)
      rest true is some = let a = any_at p xs is in (a.0, at_later p z xs a.0 a.1, λ e. absurd (omega (arith, e)))
      rest false is some = absurd (some (count_none p xs (none_all p xs is)))
  another p (z ∷ xs) (suc i) x at pass many = pick (p z) refl (another p xs i x at pass)
    where
      pick : (b : Bool) → p z ≡ b → ((count_by p xs ≡ 1 → ⊥) → (y : A) × (q : At p xs y) × (q.place ≡ i → ⊥)) → (y : A) × (q : At p (z ∷ xs) y) × (q.place ≡ suc i → ⊥)
      pick true is again = (z, record { place = 0; stands = refl; passes = is }, λ e. absurd (omega (arith, e)))
      pick false is again =
          let none : one_if (p z) ≡ 0 = ap one_if is in
          let r = again (λ e. many (omega (arith, count-cons p z xs, none, e))) in
          (r.0, at_later p z xs r.0 r.1, λ e. r.2 (omega (arith, e)))

-- what is made of an element stands at its place
pub map_at : {A B : Type 0} (f : A → B) (xs : List A) (i : ℕ) (y : B) → slice_get (map f xs) i ≡ Some y → (x : A) × (slice_get xs i ≡ Some x) × (f x ≡ y)
map_at f [] i y e = absurd cc
map_at f (x ∷ xs) zero y e = (x, refl, same_Some (f x) y e)
map_at f (x ∷ xs) (suc i) y e = map_at f xs i y e

pub map_place : {A B : Type 0} (f : A → B) (xs : List A) (i : ℕ) (x : A) → slice_get xs i ≡ Some x → slice_get (map f xs) i ≡ Some (f x)
map_place f [] i x e = absurd cc
map_place {A = A} f (y ∷ xs) zero x e = ap (λ (o : A). Some (f o)) (same_Some y x e)
map_place f (y ∷ xs) (suc i) x e = map_place f xs i x e
