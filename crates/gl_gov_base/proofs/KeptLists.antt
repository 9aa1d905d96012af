-- What is kept, and made, of lists with the same elements has the same elements.
use Rattle.std.proofs.Common.{◌≡◌, ◌+◌, List, [], ◌∷◌, reverse, Option, Some, None, is_some, Bool, true, false, ◌&&◌, ◌||◌, cond, find, count_by, filter_map, refl, sym, ◌∙◌, ap, arith}
use Rattle.std.specs.List.{list_any, cons_option}
use Rattle.std.specs.Option.{option_or}
use Rattle.gl_vmaps.specs.LastWrite.{last_such}
use Rattle.gl_vmaps.proofs.LastWrites.{last_such-cons}
use Rattle.gl_gov_rules.proofs.Counting.{one_if, count-cons}
use Rattle.gl_gov_rules.proofs.Finding.{found_at}
use Rattle.gl_gov_base.specs.SameBy.{SameBy}

-- ---- what is kept of lists with the same elements

abbrev pub passes : {B : Type 0} → (B → Bool) → Option B → Bool
passes p None = false
passes p (Some y) = p y

abbrev pub made : {A B : Type 0} → (A → Option B) → Option A → Option B
made f None = None
made f (Some x) = f x

module _ {A B : Type 0} (f : A → Option B) (p : B → Bool) where
  pub count_made : (xs : List A) → count_by p (filter_map f xs) ≡ count_by (λ x. passes p (f x)) xs
  count_made [] = refl
  count_made (x ∷ xs) = by (f x) ∙ ap (λ n. one_if (passes p (f x)) + n) (count_made xs) ∙ sym (count-cons (λ x. passes p (f x)) x xs)
    where
      by : (o : Option B) → count_by p (cons_option o (filter_map f xs)) ≡ one_if (passes p o) + count_by p (filter_map f xs)
      by None = omega arith
      by (Some y) = count-cons p y (filter_map f xs)

  pub any_made : (xs : List A) → list_any p (filter_map f xs) ≡ list_any (λ x. passes p (f x)) xs
  any_made [] = refl
  any_made (x ∷ xs) = by (f x) ∙ ap (λ b. passes p (f x) || b) (any_made xs)
    where
      by : (o : Option B) → list_any p (cons_option o (filter_map f xs)) ≡ (passes p o || list_any p (filter_map f xs))
      by None = refl
      by (Some y) = refl

  find_made : (xs : List A) → find p (filter_map f xs) ≡ made f (find (λ x. passes p (f x)) xs)
  find_made [] = refl
  find_made (x ∷ xs) = by (f x) refl (find_made xs)
    where
      pick : (b : Bool) (y : B) → f x ≡ Some y → find p (filter_map f xs) ≡ made f (find (λ x. passes p (f x)) xs) → cond b (Some y) (find p (filter_map f xs)) ≡ made f (cond b (Some x) (find (λ x. passes p (f x)) xs))
      pick true y is rest = sym is
      pick false y is rest = rest

      by : (o : Option B) → f x ≡ o → find p (filter_map f xs) ≡ made f (find (λ x. passes p (f x)) xs) → find p (cons_option o (filter_map f xs)) ≡ made f (cond (passes p o) (Some x) (find (λ x. passes p (f x)) xs))
      by None is rest = rest
      by (Some y) is rest = pick (p y) y is rest

  last_made : (xs : List A) → last_such p (filter_map f xs) ≡ made f (last_such (λ x. passes p (f x)) xs)
  last_made [] = refl
  last_made (x ∷ xs) = by (f x) refl (last_made xs) ∙ ap (made f) (sym (last_such-cons (λ x. passes p (f x)) x xs))
    where
      join : (o : Option A) (b : Bool) (y : B) → f x ≡ Some y → ((z : A) → o ≡ Some z → is_some (f z) ≡ true) → option_or (made f o) (cond b (Some y) None) ≡ made f (option_or o (cond b (Some x) None))
      join None true y is some = sym is
      join None false y is some = refl
      join (Some z) b y is some = by_some (f z) (some z refl)
        where
          by_some : (q : Option B) → is_some q ≡ true → option_or q (cond b (Some y) None) ≡ q
          by_some None e = absurd cc
          by_some (Some w) e = refl

      none_more : (o : Option A) → made f o ≡ made f (option_or o None)
      none_more None = refl
      none_more (Some z) = refl

      found_some : (z : A) → last_such (λ x. passes p (f x)) xs ≡ Some z → is_some (f z) ≡ true
      found_some z e = some_of (f z) (found_at (λ x. passes p (f x)) (reverse xs) z e).passes
        where
          some_of : (q : Option B) → passes p q ≡ true → is_some q ≡ true
          some_of None e = absurd cc
          some_of (Some w) e = refl

      by : (o : Option B) → f x ≡ o → last_such p (filter_map f xs) ≡ made f (last_such (λ x. passes p (f x)) xs) → last_such p (cons_option o (filter_map f xs)) ≡ made f (option_or (last_such (λ x. passes p (f x)) xs) (cond (passes p o) (Some x) None))
      by None is rest = rest ∙ none_more (last_such (λ x. passes p (f x)) xs)
      by (Some y) is rest = last_such-cons p y (filter_map f xs) ∙ ap (λ o. option_or o (cond (p y) (Some y) None)) rest ∙ join (last_such (λ x. passes p (f x)) xs) (p y) y is found_some

-- elements that are made of those with a key have the key
pub same_kept : {K L A B : Type 0} (has : K → A → Bool) (had : L → B → Bool) (key : L → K) (f : A → Option B) → ((l : L) (x : A) (p : B → Bool) → passes (λ y. had l y && p y) (f x) ≡ (has (key l) x && passes p (f x))) →
    ((l : L) (x : A) → passes (had l) (f x) ≡ (has (key l) x && is_some (f x))) →
    (xs ys : List A) → SameBy has xs ys → SameBy had (filter_map f xs) (filter_map f ys)
same_kept has had key f keeps keeps_one xs ys s = record {
  counted = λ p. count_made f p xs ∙ s.counted (λ x. passes p (f x)) ∙ sym (count_made f p ys);
  first = λ l. find_made f (had l) xs ∙ ap (made f) ((λ i. find (λ x. keeps_one l x i) xs) ∙ s.first_with (key l) (λ x. is_some (f x)) ∙ sym (λ i. find (λ x. keeps_one l x i) ys)) ∙ sym (find_made f (had l) ys);
  last = λ l. last_made f (had l) xs ∙ ap (made f) ((λ i. last_such (λ x. keeps_one l x i) xs) ∙ s.last_with (key l) (λ x. is_some (f x)) ∙ sym (λ i. last_such (λ x. keeps_one l x i) ys)) ∙ sym (last_made f (had l) ys);
  first_with = λ l p. find_made f (λ y. had l y && p y) xs ∙ ap (made f) ((λ i. find (λ x. keeps l x p i) xs) ∙ s.first_with (key l) (λ x. passes p (f x)) ∙ sym (λ i. find (λ x. keeps l x p i) ys)) ∙ sym (find_made f (λ y. had l y && p y) ys);
  last_with = λ l p. last_made f (λ y. had l y && p y) xs ∙ ap (made f) ((λ i. last_such (λ x. keeps l x p i) xs) ∙ s.last_with (key l) (λ x. passes p (f x)) ∙ sym (λ i. last_such (λ x. keeps l x p i) ys)) ∙ sym (last_made f (λ y. had l y && p y) ys);
}
