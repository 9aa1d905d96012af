-- The write set of writes to different rows has the same writes, in another order.
use Rattle.std.proofs.Common.{◌≡◌, ℕ, ◌+◌, ◌≤◌, List, [], ◌∷◌, Option, Some, None, Bool, true, false, ◌&&◌, cond, find, count_by, refl, sym, ◌∙◌, ap, subst, arith}
use Rattle.std.specs.List.{AllByRecursion}
use Rattle.std.specs.Option.{option_or}
use Rattle.std.specs.declared.cmp.Ordering.{Ordering}
use Rattle.std.specs.declared.cmp.Ordering.TheVariants.{Less, Equal, Greater}
use Rattle.gl_vmaps.specs.LastWrite.{last_such, last_write}
use Rattle.gl_vmaps.specs.Versions.{is_to_row}
use Rattle.gl_vmaps.specs.Writes.{is_ordered, write_order, with_write, put_before}
use Rattle.gl_vmaps.specs.Changes.{set_from, write_set}
use Rattle.gl_vmaps.specs.declared.write.Write.{Write}
use Rattle.gl_vmaps.proofs.LastWrites.{last_such-cons}
use Rattle.gl_vmaps.proofs.WriteLaws.{same_row, last_write-find, last_write-with_write, is_ordered-with_write, each_row_once}
use Rattle.gl_vmaps.proofs.WriteSets.{is_ordered-set_from}
use Rattle.gl_vmaps.proofs.TablesLaws.{same_bytes-symm}
use Rattle.gl_gov_rules.proofs.Counting.{one_if, count-cons}
use Rattle.gl_gov_base.specs.SameBy.{SameBy}
use Rattle.gl_gov_base.proofs.SameSets.{own, last-set_from, or_nothing}

pub record RowKey : Type 0 where
  pub map : List ℕ
  pub key : List ℕ

abbrev pub is_row : RowKey → Write → Bool
is_row k w = is_to_row k.map k.key w

abbrev pub row_key : Write → RowKey
row_key w = record { map = w.map; key = w.key }

-- ---- one write more

abbrev pub IsFresh : List Write → Write → Type 0
IsFresh set w = find (is_to_row w.map w.key) set ≡ None

fresh_parts : (x : Write) (b : Bool) (o : Option Write) → cond b (Some x) o ≡ None → (b ≡ false) × (o ≡ None)
fresh_parts x true o e = absurd cc
fresh_parts x false o e = (refl, e)

tied_row : (w x : Write) → write_order w x ≡ Equal → is_to_row w.map w.key x ≡ true
tied_row w x tied = let same = same_row w x tied in (λ i. is_to_row (same.0 i) (same.1 i) x) ∙ own x

count_with : (p : Write → Bool) (set : List Write) (w : Write) → IsFresh set w → count_by p (with_write set w) ≡ one_if (p w) + count_by p set
count_with p [] w fresh = count-cons p w []
count_with p (x ∷ xs) w fresh =
    let parts = fresh_parts x (is_to_row w.map w.key x) (find (is_to_row w.map w.key) xs) fresh in
    by (write_order w x) refl parts.0 (count_with p xs w parts.1)
  where
    by : (o : Ordering) → write_order w x ≡ o → is_to_row w.map w.key x ≡ false → count_by p (with_write xs w) ≡ one_if (p w) + count_by p xs → count_by p (put_before o w x xs (with_write xs w)) ≡ one_if (p w) + count_by p (x ∷ xs)
    by Less is other rest = count-cons p w (x ∷ xs)
    by Equal is other rest = let e = tied_row w x is in absurd cc
    by Greater is other rest = omega (arith, count-cons p x (with_write xs w), count-cons p x xs, rest)

-- ---- writes to different rows

abbrev pub AreDistinct : List Write → Type 0
AreDistinct [] = Unit {0}
AreDistinct (w ∷ ws) = IsFresh ws w × AreDistinct ws

abbrev AreFresh : List Write → List Write → Type 0
AreFresh set ws = AllByRecursion (λ (w : Write). IsFresh set w) ws

fresh_with : (set : List Write) (w v : Write) → is_ordered set ≡ true → IsFresh set v → is_to_row v.map v.key w ≡ false → IsFresh (with_write set w) v
fresh_with set w v ordered fresh other =
    sym (last_write-find v.map v.key (with_write set w) (is_ordered-with_write set w ordered))
    ∙ last_write-with_write v.map v.key set w ordered
    ∙ (λ i. cond (other i) (Some w) (last_write v.map v.key set))
    ∙ last_write-find v.map v.key set ordered ∙ fresh

all_fresh : (set : List Write) (w : Write) (ws : List Write) → is_ordered set ≡ true → AreFresh set ws → AllByRecursion (λ (v : Write). is_to_row v.map v.key w ≡ false) ws → AreFresh (with_write set w) ws
all_fresh set w [] ordered fresh others = tt
all_fresh set w (v ∷ ws) ordered fresh others = (fresh_with set w v ordered fresh.0 others.0, all_fresh set w ws ordered fresh.1 others.1)

row_symm : (v w : Write) → is_to_row v.map v.key w ≡ is_to_row w.map w.key v
row_symm v w = λ i. same_bytes-symm v.map w.map i && same_bytes-symm v.key w.key i

others_of : (w : Write) (ws : List Write) → IsFresh ws w → AllByRecursion (λ (v : Write). is_to_row v.map v.key w ≡ false) ws
others_of w [] fresh = tt
others_of w (v ∷ ws) fresh =
    let parts = fresh_parts v (is_to_row w.map w.key v) (find (is_to_row w.map w.key) ws) fresh in
    (row_symm v w ∙ parts.0, others_of w ws parts.1)

count_set : (p : Write → Bool) (set ws : List Write) → is_ordered set ≡ true → AreFresh set ws → AreDistinct ws → count_by p (set_from set ws) ≡ count_by p ws + count_by p set
count_set p set [] ordered fresh distinct = omega arith
count_set p set (w ∷ ws) ordered fresh distinct =
    let rest = count_set p (with_write set w) ws (is_ordered-with_write set w ordered) (all_fresh set w ws ordered fresh.1 (others_of w ws distinct.0)) distinct.1 in
    omega (arith, rest, count_with p set w fresh.0, count-cons p w ws)

-- ---- lists in which a key stands once at most

module _ {A : Type 0} (has : A → Bool) where
  abbrev kept : (A → Bool) → Option A → Option A
  kept p None = None
  kept p (Some x) = cond (p x) (Some x) None

  nothing_there : (xs : List A) → count_by has xs ≤ 0 → find has xs ≡ None
  nothing_there [] few = refl
  nothing_there (x ∷ xs) few = by (has x) refl (nothing_there xs)
    where
      by : (b : Bool) → has x ≡ b → (count_by has xs ≤ 0 → find has xs ≡ None) → cond b (Some x) (find has xs) ≡ None
      by true is rest = let one : one_if (has x) ≡ 1 = ap one_if is in absurd (omega (arith, few, one, count-cons has x xs))
      by false is rest = rest (omega (arith, few, count-cons has x xs))

  none_with : (p : A → Bool) (xs : List A) → find has xs ≡ None → find (λ x. has x && p x) xs ≡ None
  none_with p [] e = refl
  none_with p (x ∷ xs) e = by (has x) refl e (none_with p xs)
    where
      by : (b : Bool) → has x ≡ b → cond b (Some x) (find has xs) ≡ None → (find has xs ≡ None → find (λ x. has x && p x) xs ≡ None) → find (λ x. has x && p x) (x ∷ xs) ≡ None
      by true is e rest = absurd cc
      by false is e rest = (λ i. cond (is i && p x) (Some x) (find (λ x. has x && p x) xs)) ∙ rest e

  -- the first with a test is the first, where it passes
  first_once : (p : A → Bool) (xs : List A) → count_by has xs ≤ 1 → find (λ x. has x && p x) xs ≡ kept p (find has xs)
  first_once p [] few = refl
  first_once p (x ∷ xs) few = by (has x) refl (first_once p xs)
    where
      by : (b : Bool) → has x ≡ b → (count_by has xs ≤ 1 → find (λ x. has x && p x) xs ≡ kept p (find has xs)) → cond (has x && p x) (Some x) (find (λ x. has x && p x) xs) ≡ kept p (cond b (Some x) (find has xs))
      by false is rest = (λ i. cond (is i && p x) (Some x) (find (λ x. has x && p x) xs)) ∙ rest (omega (arith, few, count-cons has x xs))
      by true is rest =
          let one : one_if (has x) ≡ 1 = ap one_if is in
          let none = nothing_there xs (omega (arith, few, one, count-cons has x xs)) in
          (λ i. cond (is i && p x) (Some x) (none_with p xs none i))

  -- and the last
  last_once : (xs : List A) → count_by has xs ≤ 1 → last_such has xs ≡ find has xs
  last_once [] few = refl
  last_once (x ∷ xs) few = last_such-cons has x xs ∙ by (has x) refl (last_once xs)
    where
      by : (b : Bool) → has x ≡ b → (count_by has xs ≤ 1 → last_such has xs ≡ find has xs) → option_or (last_such has xs) (cond (has x) (Some x) None) ≡ cond b (Some x) (find has xs)
      by false is rest = (λ i. option_or (rest (omega (arith, few, count-cons has x xs)) i) (cond (is i) (Some x) None)) ∙ or_nothing (find has xs)
      by true is rest =
          let one : one_if (has x) ≡ 1 = ap one_if is in
          let low : count_by has xs ≤ 0 = omega (arith, few, one, count-cons has x xs) in
          let none = nothing_there xs low in
          (λ i. option_or ((rest (omega (arith, low)) ∙ none) i) (cond (is i) (Some x) None))

none_last : {A : Type 0} (has p : A → Bool) (xs : List A) → find has xs ≡ None → last_such (λ x. has x && p x) xs ≡ None
none_last has p [] e = refl
none_last {A = A} has p (x ∷ xs) e = last_such-cons (λ x. has x && p x) x xs ∙ by (has x) refl e (none_last has p xs)
  where
    by : (b : Bool) → has x ≡ b → cond b (Some x) (find has xs) ≡ None → (find has xs ≡ None → last_such (λ x. has x && p x) xs ≡ None) → option_or (last_such (λ x. has x && p x) xs) (cond (has x && p x) (Some x) None) ≡ None
    by true is e rest = absurd cc
    by false is e rest = λ i. option_or (rest e i) (cond (is i && p x) (Some x) None)

last_kept_once : {A : Type 0} (has p : A → Bool) (xs : List A) → count_by has xs ≤ 1 → last_such (λ x. has x && p x) xs ≡ kept has p (find has xs)
last_kept_once has p [] few = refl
last_kept_once has p (x ∷ xs) few = last_such-cons (λ x. has x && p x) x xs ∙ by (has x) refl (last_kept_once has p xs)
  where
    by : (b : Bool) → has x ≡ b → (count_by has xs ≤ 1 → last_such (λ x. has x && p x) xs ≡ kept has p (find has xs)) → option_or (last_such (λ x. has x && p x) xs) (cond (has x && p x) (Some x) None) ≡ kept has p (cond b (Some x) (find has xs))
    by false is rest = (λ i. option_or (rest (omega (arith, few, count-cons has x xs)) i) (cond (is i && p x) (Some x) None)) ∙ or_nothing (kept has p (find has xs))
    by true is rest =
        let one : one_if (has x) ≡ 1 = ap one_if is in
        let none = nothing_there has xs (omega (arith, few, one, count-cons has x xs)) in
        λ i. option_or (none_last has p xs none i) (cond (is i && p x) (Some x) None)

pub same_once : {K A : Type 0} (has : K → A → Bool) (xs ys : List A) → ((p : A → Bool) → count_by p xs ≡ count_by p ys) → ((k : K) → find (has k) xs ≡ find (has k) ys) → ((k : K) → count_by (has k) xs ≤ 1) → SameBy has xs ys
same_once {K = K} has xs ys counted first once =
    let once_too : (k : K) → count_by (has k) ys ≤ 1 = λ k. subst (λ n. n ≤ 1) (counted (has k)) (once k) in
    record {
      counted = counted;
      first = first;
      last = λ k. last_once (has k) xs (once k) ∙ first k ∙ sym (last_once (has k) ys (once_too k));
      first_with = λ k p. first_once (has k) p xs (once k) ∙ ap (kept (has k) p) (first k) ∙ sym (first_once (has k) p ys (once_too k));
      last_with = λ k p. last_kept_once (has k) p xs (once k) ∙ ap (kept (has k) p) (first k) ∙ sym (last_kept_once (has k) p ys (once_too k));
    }

none_at_first : (ws : List Write) → AreFresh [] ws
none_at_first [] = tt
none_at_first (w ∷ ws) = (refl, none_at_first ws)

-- the write set of writes to different rows has the same writes
pub same_as_set : (ws : List Write) → AreDistinct ws → SameBy is_row (write_set ws) ws
same_as_set ws distinct =
    let counted : (p : Write → Bool) → count_by p (write_set ws) ≡ count_by p ws = λ p. (let e = count_set p [] ws refl (none_at_first ws) distinct in omega (arith, e)) in
    let ordered = is_ordered-set_from [] ws refl in
    let once : (k : RowKey) → count_by (is_row k) (write_set ws) ≤ 1 = λ k. each_row_once k.map k.key (write_set ws) ordered in
    let few : (k : RowKey) → count_by (is_row k) ws ≤ 1 = λ k. subst (λ n. n ≤ 1) (counted (is_row k)) (once k) in
    same_once is_row (write_set ws) ws counted
    (λ k. sym (last_write-find k.map k.key (write_set ws) ordered) ∙ last-set_from k.map k.key [] ws refl ∙ or_nothing (last_write k.map k.key ws) ∙ last_once (is_row k) ws (few k))
    once
