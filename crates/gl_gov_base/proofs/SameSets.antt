-- Two lists of writes that leave the same last write to each row make the same write set.
use Rattle.std.proofs.Common.{◌≡◌, ℕ, List, [], ◌∷◌, ◌++◌, map, Option, Some, None, Bool, true, false, cond, find, refl, sym, ◌∙◌, ap, subst}
use Rattle.std.specs.List.{AllByRecursion}
use Rattle.std.specs.Option.{option_or, option_map}
use Rattle.std.specs.declared.cmp.Ordering.{Ordering}
use Rattle.std.specs.declared.cmp.Ordering.TheVariants.{Less, Equal, Greater}
use Rattle.std.specs.Ordering.{ordering_reverse}
use Rattle.std.proofs.lemmas.Option.{same_Some}
use Rattle.gl_vmaps.specs.LastWrite.{last_such, last_write}
use Rattle.gl_vmaps.specs.Versions.{is_to_row}
use Rattle.gl_vmaps.specs.Writes.{is_ordered, write_order, with_write}
use Rattle.gl_vmaps.specs.Changes.{set_from, write_set}
use Rattle.gl_vmaps.specs.declared.write.Write.{Write}
use Rattle.gl_vmaps.proofs.LastWrites.{last_such-cons}
use Rattle.gl_vmaps.proofs.WriteLaws.{write_order_total, same_row, other_row, ordered_before, is_ordered-rest, last_write-find, last_write-with_write, is_ordered-with_write}
use Rattle.gl_vmaps.proofs.WriteSets.{is_ordered-set_from}
use Rattle.gl_vmaps.proofs.TablesLaws.{same_bytes-itself}
use Rattle.gl_gov_base.proofs.SameLists.{last-append, last-map}

pub record SameWrites (xs ys : List Write) : Type 0 where
  pub last : (map key : List ℕ) → last_write map key xs ≡ last_write map key ys

-- ---- sets in order

pub own : (w : Write) → is_to_row w.map w.key w ≡ true
own w = rw (same_bytes-itself w.map, same_bytes-itself w.key) refl

none_later : (map key : List ℕ) (w : Write) (ys : List Write) → AllByRecursion (λ (y : Write). write_order w y ≡ Less) ys → is_to_row map key w ≡ true → find (is_to_row map key) ys ≡ None
none_later map key w [] all is = refl
none_later map key w (y ∷ ys) all is = ap (λ b. cond b (Some y) (find (is_to_row map key) ys)) (other_row map key w y all.0 is) ∙ none_later map key w ys all.1 is

first_own : (w : Write) (ws : List Write) → find (is_to_row w.map w.key) (w ∷ ws) ≡ Some w
first_own w ws = ap (λ b. cond b (Some w) (find (is_to_row w.map w.key) ws)) (own w)

-- a write that stands before the first of others is none of them
not_before : (x y : Write) (ys : List Write) → write_order x y ≡ Less → is_ordered (y ∷ ys) ≡ true → find (is_to_row x.map x.key) (y ∷ ys) ≡ None
not_before x y ys before ordered = none_later x.map x.key x (y ∷ ys) (before, later ys (ordered_before y ys ordered)) (own x)
  where
    later : (zs : List Write) → AllByRecursion (λ (z : Write). write_order y z ≡ Less) zs → AllByRecursion (λ (z : Write). write_order x z ≡ Less) zs
    later [] all = tt
    later (z ∷ zs) all = (write_order_total.trans x y z before all.0, later zs all.1)

pub same_set : (xs ys : List Write) → is_ordered xs ≡ true → is_ordered ys ≡ true → ((m k : List ℕ) → find (is_to_row m k) xs ≡ find (is_to_row m k) ys) → xs ≡ ys
same_set [] [] one two same = refl
same_set [] (y ∷ ys) one two same = let e = same y.map y.key ∙ first_own y ys in absurd cc
same_set (x ∷ xs) [] one two same = let e = sym (same x.map x.key) ∙ first_own x xs in absurd cc
same_set (x ∷ xs) (y ∷ ys) one two same = go (write_order x y) refl (same_set xs ys)
  where
    go : (o : Ordering) → write_order x y ≡ o → (is_ordered xs ≡ true → is_ordered ys ≡ true → ((m k : List ℕ) → find (is_to_row m k) xs ≡ find (is_to_row m k) ys) → xs ≡ ys) → x ∷ xs ≡ y ∷ ys
    go Less before rest = let e = sym (first_own x xs) ∙ same x.map x.key ∙ not_before x y ys before two in absurd cc
    go Greater behind rest =
        let before : write_order y x ≡ Less = write_order_total.antisymm y x ∙ ap ordering_reverse behind in
        let e = sym (first_own y ys) ∙ sym (same y.map y.key) ∙ not_before y x xs before one in absurd cc
    go Equal tied rest =
        let row = same_row x y tied in
        let found = sym (first_own x xs) ∙ same x.map x.key ∙ ap (λ m. find (is_to_row m x.key) (y ∷ ys)) row.0 ∙ ap (λ k. find (is_to_row y.map k) (y ∷ ys)) row.1 ∙ first_own y ys in
        let head : x ≡ y = same_Some x y found in
        let later : AllByRecursion (λ (z : Write). write_order x z ≡ Less) ys = subst (λ w. AllByRecursion (λ (z : Write). write_order w z ≡ Less) ys) (sym head) (ordered_before y ys two) in
        let behind : (m k : List ℕ) → find (is_to_row m k) xs ≡ find (is_to_row m k) ys = λ m k. pick m k later head (is_to_row m k x) refl in
        let tails = rest (is_ordered-rest x xs one) (is_ordered-rest y ys two) behind in
        λ i. head i ∷ tails i
      where
        pick : (m k : List ℕ) → AllByRecursion (λ (z : Write). write_order x z ≡ Less) ys → x ≡ y → (b : Bool) → is_to_row m k x ≡ b → find (is_to_row m k) xs ≡ find (is_to_row m k) ys
        pick m k later head true is = none_later m k x xs (ordered_before x xs one) is ∙ sym (none_later m k x ys later is)
        pick m k later head false is =
            sym (ap (λ b. cond b (Some x) (find (is_to_row m k) xs)) is) ∙ same m k
            ∙ ap (λ w. cond (is_to_row m k w) (Some w) (find (is_to_row m k) ys)) (sym head)
            ∙ ap (λ b. cond b (Some x) (find (is_to_row m k) ys)) is

-- ---- the last writes of a set

put_last : (a : Option Write) (b : Bool) (w : Write) (s : Option Write) → option_or a (cond b (Some w) s) ≡ option_or (option_or a (cond b (Some w) None)) s
put_last None true w s = refl
put_last None false w s = refl
put_last (Some x) b w s = refl

pub last-set_from : (m k : List ℕ) (set ws : List Write) → is_ordered set ≡ true → last_write m k (set_from set ws) ≡ option_or (last_write m k ws) (last_write m k set)
last-set_from m k set [] ordered = refl
last-set_from m k set (w ∷ ws) ordered =
    last-set_from m k (with_write set w) ws (is_ordered-with_write set w ordered)
    ∙ ap (option_or (last_write m k ws)) (last_write-with_write m k set w ordered)
    ∙ put_last (last_write m k ws) (is_to_row m k w) w (last_write m k set)
    ∙ ap (λ o. option_or o (last_write m k set)) (sym (last_such-cons (is_to_row m k) w ws))

pub or_nothing : {A : Type 0} (o : Option A) → option_or o None ≡ o
or_nothing None = refl
or_nothing (Some x) = refl

pub same_write_set : (xs ys : List Write) → SameWrites xs ys → write_set xs ≡ write_set ys
same_write_set xs ys same =
    let ordered = λ (ws : List Write). is_ordered-set_from [] ws refl in
    let one = λ (ws : List Write) (m k : List ℕ). sym (last_write-find m k (write_set ws) (ordered ws)) ∙ last-set_from m k [] ws refl ∙ or_nothing (last_write m k ws) in
    same_set (write_set xs) (write_set ys) (ordered xs) (ordered ys) (λ m k. one xs m k ∙ same.last m k ∙ sym (one ys m k))

-- ---- parts

pub same_parts : {xs ys vs ws : List Write} → SameWrites xs ys → SameWrites vs ws → SameWrites (xs ++ vs) (ys ++ ws)
same_parts {xs = xs} {ys = ys} {vs = vs} {ws = ws} one two = record {
  last = λ m k. last-append (is_to_row m k) xs vs ∙ (λ i. option_or (two.last m k i) (one.last m k i)) ∙ sym (last-append (is_to_row m k) ys ws);
}

pub same_writes : (xs ys : List Write) → xs ≡ ys → SameWrites xs ys
same_writes xs ys e = record { last = λ m k. ap (last_write m k) e }

-- the rows of elements, of which those with each key are last in both
pub same_rows : {A : Type 0} (f : A → Write) (xs ys : List A) → ((m k : List ℕ) → last_such (λ x. is_to_row m k (f x)) xs ≡ last_such (λ x. is_to_row m k (f x)) ys) → SameWrites (map f xs) (map f ys)
same_rows f xs ys last = record { last = λ m k. last-map (is_to_row m k) f xs ∙ ap (option_map f) (last m k) ∙ sym (last-map (is_to_row m k) f ys) }
