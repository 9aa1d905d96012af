-- Write sets in order: what one more write makes of them, and what they make of tables.
use Rattle.std.proofs.Common.{◌≡◌, ℕ, zero, suc, ◌+◌, ◌-◌, ◌<◌, ◌≤◌, not, is_some, Bool, true, false, ◌&&◌, Result, Ok, Err, OnOk, OnErr, Option, Some, None, cond, find, if◌then◌else◌, List, [], ◌∷◌, ◌++◌, length, take, drop, get_or, set, refl, sym, ◌∙◌, ap, subst, arith, drop-cons}
use Rattle.std.specs.Cmp.{IsTotalOrder, tied_itself}
use Rattle.std.specs.List.{list_all, count_by, AllByRecursion}
use Rattle.std.specs.Option.{option_or, is_none}
use Rattle.std.specs.Cmp.Lexicographic.{slice_cmp}
use Rattle.std.specs.FinMap.{same_map, slice_cmp-IsAntisymmetric, nat_cmp-IsAntisymmetric}
use Rattle.std.specs.Ordering.{nat_cmp, ordering_reverse, ordering_then}
use Rattle.std.specs.declared.cmp.Ordering.{Ordering}
use Rattle.std.specs.declared.cmp.Ordering.TheVariants.{Less, Equal, Greater}
use Rattle.std.proofs.lemmas.Bool.{and_parts, and_from}
use Rattle.std.proofs.lemmas.Cmp.{then_total, on_total, nat_list_cmp_total}
use Rattle.std.proofs.lemmas.List.Sums.{sum_by-cons}
use Rattle.gl_vmaps.specs.Writes.{write_order, is_less, stands_before, is_ordered, with_write, put_before, is_write}
use Rattle.gl_vmaps.specs.Tables.{Tables, wrote, wrote_all, value_in, has_key, size_of}
use Rattle.gl_vmaps.specs.Versions.{is_to_map, is_to_row}
use Rattle.gl_vmaps.specs.LastWrite.{last_write, value_after}
use Rattle.gl_vmaps.specs.Growth.{gains, loses, gained, lost}
use Rattle.gl_vmaps.specs.declared.write.Write.{Write}
use Rattle.gl_vmaps.proofs.LastWrites.{last_such-cons}
use Rattle.gl_vmaps.proofs.TablesLaws.{same_bytes-eq, row_of, value_in-wrote, value_in-wrote_all, size_of-wrote, size_of-some, sized}

-- ---- the order of writes

pub write_order_total : IsTotalOrder write_order
write_order_total = then_total (on_total (λ (w : Write). w.map) nat_list_cmp_total) (on_total (λ (w : Write). w.key) nat_list_cmp_total)

less : (o : Ordering) → is_less o ≡ true → o ≡ Less
less Less e = refl
less Equal e = absurd (cc)
less Greater e = absurd (cc)

-- a write after which another belongs stands before it
turned : (w x : Write) → write_order w x ≡ Greater → write_order x w ≡ Less
turned w x is = write_order_total.antisymm x w ∙ ap ordering_reverse is

-- ---- the place of a write

set_parts : {A : Type 0} (xs : List A) (i : ℕ) (y : A) → i < length xs → set xs i y ≡ take i xs ++ y ∷ drop (suc i) xs
set_parts [] i y within = absurd (omega arith)
set_parts (x ∷ xs) zero y within = refl
set_parts (x ∷ xs) (suc i) y within = ap (λ ys. x ∷ ys) (set_parts xs i y (omega arith))

-- the writes from a place on, of which the first is there
with_write-there : (ws : List Write) (w there : Write) (place : ℕ) → place < length ws → there ≡ get_or ws place there →
    with_write (drop place ws) w ≡ put_before (write_order w there) w there (drop (suc place) ws) (with_write (drop (suc place) ws) w)
with_write-there ws w there place within is =
    let first : drop place ws ≡ get_or ws place there ∷ drop (suc place) ws = drop-cons ws place there within in
    ap (λ xs. with_write xs w) first ∙ ap (λ x. put_before (write_order w x) w x (drop (suc place) ws) (with_write (drop (suc place) ws) w)) (sym is)

-- where it belongs at a place at which a write to the same row is, it takes that one's place
pub put_there : (ws : List Write) (w there : Write) (place : ℕ) → place < length ws → there ≡ get_or ws place there → write_order w there ≡ Equal →
    with_write ws w ≡ take place ws ++ with_write (drop place ws) w → with_write ws w ≡ set ws place w
put_there ws w there place within is same belongs =
    belongs ∙ ap (λ xs. take place ws ++ xs) (with_write-there ws w there place within is ∙ rw same refl) ∙ sym (set_parts ws place w within)

-- ---- the order of a set with one more write

stands_with : (x w : Write) (xs : List Write) → write_order x w ≡ Less → stands_before x.map x.key xs ≡ true → stands_before x.map x.key (with_write xs w) ≡ true
stands_with x w [] before stands = ap is_less before
stands_with x w (y ∷ ys) before stands =
    elim (write_order w y) as (λ o. stands_before x.map x.key (put_before o w y ys (with_write ys w)) ≡ true) [ Less ↦ ap is_less before | Equal ↦ ap is_less before | Greater ↦ stands ]

stands_alike : (x w : Write) (xs : List Write) → write_order w x ≡ Equal → stands_before x.map x.key xs ≡ true → stands_before w.map w.key xs ≡ true
stands_alike x w [] same stands = refl
stands_alike x w (y ∷ ys) same stands = ap is_less (write_order_total.congr w x y same) ∙ stands

ordered_with : (w x : Write) (xs : List Write) (o : Ordering) → write_order w x ≡ o → stands_before x.map x.key xs ≡ true → is_ordered xs ≡ true →
    is_ordered (with_write xs w) ≡ true → is_ordered (put_before o w x xs (with_write xs w)) ≡ true
ordered_with w x xs Less is stands rest more = and_from (is_less (write_order w x)) (is_ordered (x ∷ xs)) (ap is_less is) (and_from (stands_before x.map x.key xs) (is_ordered xs) stands rest)
ordered_with w x xs Equal is stands rest more = and_from (stands_before w.map w.key xs) (is_ordered xs) (stands_alike x w xs is stands) rest
ordered_with w x xs Greater is stands rest more =
    and_from (stands_before x.map x.key (with_write xs w)) (is_ordered (with_write xs w)) (stands_with x w xs (turned w x is) stands) more

-- one more write leaves the set in order
pub is_ordered-with_write : (ws : List Write) (w : Write) → is_ordered ws ≡ true → is_ordered (with_write ws w) ≡ true
is_ordered-with_write [] w ordered = refl
is_ordered-with_write (x ∷ xs) w ordered =
    let both = and_parts (stands_before x.map x.key xs) (is_ordered xs) ordered in
    ordered_with w x xs (write_order w x) refl both.0 both.1 (is_ordered-with_write xs w both.1)

-- ---- limits

pub list_all-with_write : (test : Write → Bool) (ws : List Write) (w : Write) → list_all test ws ≡ true → test w ≡ true → list_all test (with_write ws w) ≡ true
list_all-with_write test [] w all one = and_from (test w) true one refl
list_all-with_write test (x ∷ xs) w all one =
    let both = and_parts (test x) (list_all test xs) all in
    elim (write_order w x) as (λ o. list_all test (put_before o w x xs (with_write xs w)) ≡ true) [
      | Less ↦ and_from (test w) (list_all test (x ∷ xs)) one all
      | Equal ↦ and_from (test w) (list_all test xs) one both.1
      | Greater ↦ and_from (test x) (list_all test (with_write xs w)) both.0 (list_all-with_write test xs w both.1 one)
    ]

-- an ordered set within the limits stays so with one more write within them
pub within-with_write : (ws : List Write) (w : Write) → (is_ordered ws && list_all is_write ws) ≡ true → is_write w ≡ true →
    (is_ordered (with_write ws w) && list_all is_write (with_write ws w)) ≡ true
within-with_write ws w all one =
    let both = and_parts (is_ordered ws) (list_all is_write ws) all in
    and_from (is_ordered (with_write ws w)) (list_all is_write (with_write ws w)) (is_ordered-with_write ws w both.0) (list_all-with_write is_write ws w both.1 one)

-- and so does a set to which the write was put, or was not
pub within-put : {E : Type 0} (r : Result (Unit {0}) E) (old new : List Write) (w : Write) → OnOk r (new ≡ with_write old w) → OnErr r (new ≡ old) →
    (is_ordered old && list_all is_write old) ≡ true → is_write w ≡ true → (is_ordered new && list_all is_write new) ≡ true
within-put (Ok u) old new w put kept all one = subst (λ ws. (is_ordered ws && list_all is_write ws) ≡ true) (sym put) (within-with_write old w all one)
within-put (Err e) old new w put kept all one = subst (λ ws. (is_ordered ws && list_all is_write ws) ≡ true) (sym kept) all

pub all_writes : (ws : List Write) → list_all is_write ws ≡ true → AllByRecursion (λ w. is_write w ≡ true) ws
all_writes [] all = tt
all_writes (w ∷ ws) all = let both = and_parts (is_write w) (list_all is_write ws) all in (both.0, all_writes ws both.1)

pub list_all-from_writes : (ws : List Write) → AllByRecursion (λ w. is_write w ≡ true) ws → list_all is_write ws ≡ true
list_all-from_writes [] all = refl
list_all-from_writes (w ∷ ws) all = and_from (is_write w) (list_all is_write ws) all.0 (list_all-from_writes ws all.1)

-- ---- each row once

-- writes to one row are alike
pub same_row : (w x : Write) → write_order w x ≡ Equal → (w.map ≡ x.map) × (w.key ≡ x.key)
same_row w x is = go (slice_cmp nat_cmp w.map x.map) refl is
  where
    go : (o : Ordering) → slice_cmp nat_cmp w.map x.map ≡ o → ordering_then o (slice_cmp nat_cmp w.key x.key) ≡ Equal → (w.map ≡ x.map) × (w.key ≡ x.key)
    go Less maps e = absurd (cc)
    go Equal maps e = (slice_cmp-IsAntisymmetric nat_cmp-IsAntisymmetric w.map x.map maps, slice_cmp-IsAntisymmetric nat_cmp-IsAntisymmetric w.key x.key e)
    go Greater maps e = absurd (cc)

alike : (map key : List ℕ) (w x : Write) → write_order w x ≡ Equal → is_to_row map key w ≡ is_to_row map key x
alike map key w x is = let same = same_row w x is in rw (same.0, same.1) refl

-- writes of which one stands before the other are to two rows
pub other_row : (map key : List ℕ) (w y : Write) → write_order w y ≡ Less → is_to_row map key w ≡ true → is_to_row map key y ≡ false
other_row map key w y before is = go (is_to_row map key y) refl
  where
    go : (b : Bool) → is_to_row map key y ≡ b → b ≡ false
    go true too =
        let one = row_of map key w is in
        let other = row_of map key y too in
        let itself : write_order w w ≡ Equal = tied_itself write_order_total w in
        absurd (cc)
    go false not = refl

all_later : (x y : Write) (ys : List Write) → write_order x y ≡ Less → AllByRecursion (λ z. write_order y z ≡ Less) ys → AllByRecursion (λ z. write_order x z ≡ Less) ys
all_later x y [] before all = tt
all_later x y (z ∷ zs) before all = (write_order_total.trans x y z before all.0, all_later x y zs before all.1)

all_alike : (w x : Write) (xs : List Write) → write_order w x ≡ Equal → AllByRecursion (λ y. write_order x y ≡ Less) xs → AllByRecursion (λ y. write_order w y ≡ Less) xs
all_alike w x [] same all = tt
all_alike w x (y ∷ ys) same all = (write_order_total.congr w x y same ∙ all.0, all_alike w x ys same all.1)

-- the first write of an ordered set stands before all others
pub ordered_before : (x : Write) (xs : List Write) → is_ordered (x ∷ xs) ≡ true → AllByRecursion (λ y. write_order x y ≡ Less) xs
ordered_before x [] ordered = tt
ordered_before x (y ∷ ys) ordered =
    let both = and_parts (is_less (write_order x y)) (is_ordered (y ∷ ys)) ordered in
    let first : write_order x y ≡ Less = less (write_order x y) both.0 in
    (first, all_later x y ys first (ordered_before y ys both.1))

pub is_ordered-rest : (x : Write) (xs : List Write) → is_ordered (x ∷ xs) ≡ true → is_ordered xs ≡ true
is_ordered-rest x xs ordered = (and_parts (stands_before x.map x.key xs) (is_ordered xs) ordered).1

-- after a write to a row no other is to it
pub no_other : (map key : List ℕ) (w : Write) (ws : List Write) → AllByRecursion (λ y. write_order w y ≡ Less) ws → is_to_row map key w ≡ true → last_write map key ws ≡ None
no_other map key w [] all is = refl
no_other map key w (y ∷ ys) all is =
    last_such-cons (is_to_row map key) y ys ∙ rw (no_other map key w ys all.1 is, other_row map key w y all.0 is) refl

none_counted : (map key : List ℕ) (w : Write) (ws : List Write) → AllByRecursion (λ y. write_order w y ≡ Less) ws → is_to_row map key w ≡ true → count_by (is_to_row map key) ws ≡ 0
none_counted map key w [] all is = refl
none_counted map key w (y ∷ ys) all is =
    sum_by-cons (λ z. cond (is_to_row map key z) 1 0) y ys ∙ rw (other_row map key w y all.0 is, none_counted map key w ys all.1 is) refl

one_at_most : (b : Bool) (n : ℕ) → (b ≡ true → n ≡ 0) → n ≤ 1 → cond b 1 0 + n ≤ 1
one_at_most true n none few = let zero : n ≡ 0 = none refl in omega arith
one_at_most false n none few = omega arith

-- an ordered set writes each row once at most
pub each_row_once : (map key : List ℕ) (ws : List Write) → is_ordered ws ≡ true → count_by (is_to_row map key) ws ≤ 1
each_row_once map key [] ordered = omega arith
each_row_once map key (w ∷ ws) ordered =
    rw (sum_by-cons (λ z. cond (is_to_row map key z) 1 0) w ws)
    (one_at_most (is_to_row map key w) (count_by (is_to_row map key) ws) (none_counted map key w ws (ordered_before w ws ordered)) (each_row_once map key ws (is_ordered-rest w ws ordered)))

only_one : (b : Bool) (o : Option Write) (w : Write) → (b ≡ true → o ≡ None) → option_or o (cond b (Some w) None) ≡ cond b (Some w) o
only_one true o w none = let nothing : o ≡ None = none refl in rw nothing refl
only_one false None w none = refl
only_one false (Some x) w none = refl

-- and its last write to a row is its first one
pub last_write-find : (map key : List ℕ) (ws : List Write) → is_ordered ws ≡ true → last_write map key ws ≡ find (is_to_row map key) ws
last_write-find map key [] ordered = refl
last_write-find map key (w ∷ ws) ordered =
    last_such-cons (is_to_row map key) w ws
    ∙ only_one (is_to_row map key w) (last_write map key ws) w (no_other map key w ws (ordered_before w ws ordered))
    ∙ ap (λ (o : Option Write). cond (is_to_row map key w) (Some w) o) (last_write-find map key ws (is_ordered-rest w ws ordered))

-- ---- one more write, as tables see it

pub first_of_all : (map key : List ℕ) (w : Write) (ws : List Write) → AllByRecursion (λ y. write_order w y ≡ Less) ws →
    last_write map key (w ∷ ws) ≡ (if is_to_row map key w then Some w else last_write map key ws)
first_of_all map key w ws all = last_such-cons (is_to_row map key) w ws ∙ only_one (is_to_row map key w) (last_write map key ws) w (no_other map key w ws all)

kept_or_put : (b c : Bool) (o : Option Write) (w x : Write) → option_or (cond b (Some w) o) (cond c (Some x) None) ≡ cond b (Some w) (option_or o (cond c (Some x) None))
kept_or_put true c o w x = refl
kept_or_put false c o w x = refl

in_its_place : (b c : Bool) (o : Option Write) (w x : Write) → b ≡ c → cond b (Some w) o ≡ cond b (Some w) (cond c (Some x) o)
in_its_place true c o w x same = refl
in_its_place false c o w x same = rw (← same) refl

last_with : (map key : List ℕ) (w x : Write) (xs : List Write) (o : Ordering) → write_order w x ≡ o → AllByRecursion (λ y. write_order x y ≡ Less) xs →
    last_write map key (with_write xs w) ≡ (if is_to_row map key w then Some w else last_write map key xs) →
    last_write map key (put_before o w x xs (with_write xs w)) ≡ (if is_to_row map key w then Some w else last_write map key (x ∷ xs))
last_with map key w x xs Less is later rest = first_of_all map key w (x ∷ xs) (is, all_later w x xs is later)
last_with map key w x xs Equal is later rest =
    first_of_all map key w xs (all_alike w x xs is later)
    ∙ in_its_place (is_to_row map key w) (is_to_row map key x) (last_write map key xs) w x (alike map key w x is)
    ∙ ap (λ (o : Option Write). cond (is_to_row map key w) (Some w) o) (sym (first_of_all map key x xs later))
last_with map key w x xs Greater is later rest =
    last_such-cons (is_to_row map key) x (with_write xs w)
    ∙ ap (λ (o : Option Write). option_or o (cond (is_to_row map key x) (Some x) None)) rest
    ∙ kept_or_put (is_to_row map key w) (is_to_row map key x) (last_write map key xs) w x
    ∙ ap (λ (o : Option Write). cond (is_to_row map key w) (Some w) o) (sym (last_such-cons (is_to_row map key) x xs))

-- the last write to a row is the one that was put, where it is to that row
pub last_write-with_write : (map key : List ℕ) (ws : List Write) (w : Write) → is_ordered ws ≡ true →
    last_write map key (with_write ws w) ≡ (if is_to_row map key w then Some w else last_write map key ws)
last_write-with_write map key [] w ordered = refl
last_write-with_write map key (x ∷ xs) w ordered =
    last_with map key w x xs (write_order w x) refl (ordered_before x xs ordered) (last_write-with_write map key xs w (is_ordered-rest x xs ordered))

put_after : (b : Bool) (o : Option Write) (w : Write) (before : Option (List ℕ)) → value_after (cond b (Some w) o) before ≡ (if b then w.value else value_after o before)
put_after true o w before = refl
put_after false o w before = refl

-- a set with one more write makes what the set makes and then the write
pub value_in-with_write : (t : Tables) (ws : List Write) (w : Write) → is_ordered ws ≡ true → (map key : List ℕ) →
    value_in (wrote_all t (with_write ws w)) map key ≡ value_in (wrote (wrote_all t ws) w) map key
value_in-with_write t ws w ordered map key =
    value_in-wrote_all t (with_write ws w) map key
    ∙ ap (λ (o : Option Write). value_after o (value_in t map key)) (last_write-with_write map key ws w ordered)
    ∙ put_after (is_to_row map key w) (last_write map key ws) w (value_in t map key)
    ∙ ap (λ (v : Option (List ℕ)). if is_to_row map key w then w.value else v) (sym (value_in-wrote_all t ws map key))
    ∙ sym (value_in-wrote (wrote_all t ws) w map key)

pub wrote_all-with_write : (t : Tables) (ws : List Write) (w : Write) → is_ordered ws ≡ true → (map : List ℕ) →
    wrote_all t (with_write ws w) map ≡ wrote (wrote_all t ws) w map
wrote_all-with_write t ws w ordered map =
    same_map nat_list_cmp_total (slice_cmp-IsAntisymmetric nat_cmp-IsAntisymmetric) (wrote_all t (with_write ws w) map) (wrote (wrote_all t ws) w map)
    (value_in-with_write t ws w ordered map)

-- ---- the rows of a map after a write set

-- a write leaves the row of another alone
other_kept : (t : Tables) (map : List ℕ) (w y : Write) → write_order w y ≡ Less → is_to_map map y ≡ true → has_key (wrote t w) map y.key ≡ has_key t map y.key
other_kept t map w y before is = ap is_some (value_in-wrote t w map y.key ∙ go (is_to_row map y.key w) refl)
  where
    go : (b : Bool) → is_to_row map y.key w ≡ b → (if b then w.value else value_in t map y.key) ≡ value_in t map y.key
    go true too =
        let its = same_bytes-eq map y.map is in
        let other = row_of map y.key w too in
        let itself : write_order w w ≡ Equal = tied_itself write_order_total w in
        absurd (cc)
    go false not = refl

gains_kept : (t : Tables) (map : List ℕ) (w y : Write) → write_order w y ≡ Less → gains (value_in (wrote t w)) map y ≡ gains (value_in t) map y
gains_kept t map w y before = go (is_to_map map y) (λ is. other_kept t map w y before is)
  where
    go : (b : Bool) → (b ≡ true → has_key (wrote t w) map y.key ≡ has_key t map y.key) →
        (b && is_some y.value && not (has_key (wrote t w) map y.key)) ≡ (b && is_some y.value && not (has_key t map y.key))
    go true kept = ap (λ has. true && is_some y.value && not has) (kept refl)
    go false kept = refl

loses_kept : (t : Tables) (map : List ℕ) (w y : Write) → write_order w y ≡ Less → loses (value_in (wrote t w)) map y ≡ loses (value_in t) map y
loses_kept t map w y before = go (is_to_map map y) (λ is. other_kept t map w y before is)
  where
    go : (b : Bool) → (b ≡ true → has_key (wrote t w) map y.key ≡ has_key t map y.key) →
        (b && is_none y.value && has_key (wrote t w) map y.key) ≡ (b && is_none y.value && has_key t map y.key)
    go true kept = ap (λ has. true && is_none y.value && has) (kept refl)
    go false kept = refl

counted_alike : (p q : Write → Bool) (w : Write) (ws : List Write) → ((y : Write) → write_order w y ≡ Less → p y ≡ q y) → AllByRecursion (λ y. write_order w y ≡ Less) ws → count_by p ws ≡ count_by q ws
counted_alike p q w [] same all = refl
counted_alike p q w (y ∷ ys) same all =
    sum_by-cons (λ z. cond (p z) 1 0) y ys ∙ rw (same y all.0, counted_alike p q w ys same all.1) refl ∙ sym (sum_by-cons (λ z. cond (q z) 1 0) y ys)

one_sized : (to_map : Bool) (value : Option (List ℕ)) (has : Bool) (size : ℕ) → (has ≡ true → 1 ≤ size) →
    (if to_map then sized value has size else size) + cond (to_map && is_none value && has) 1 0 ≡ size + cond (to_map && is_some value && not has) 1 0
one_sized false value has size some = refl
one_sized true None true size some = let one : 1 ≤ size = some refl in omega arith
one_sized true None false size some = refl
one_sized true (Some value) true size some = refl
one_sized true (Some value) false size some = omega arith

-- the keys that a map gains by the writes of an ordered set come to it, and those that it loses go
pub size_of-wrote_all : (t : Tables) (ws : List Write) (map : List ℕ) → is_ordered ws ≡ true →
    size_of (wrote_all t ws) map + lost (value_in t) map ws ≡ size_of t map + gained (value_in t) map ws
size_of-wrote_all t [] map ordered = refl
size_of-wrote_all t (w ∷ ws) map ordered =
    let later = ordered_before w ws ordered in
    let rest = size_of-wrote_all (wrote t w) ws map (is_ordered-rest w ws ordered) in
    let one = one_sized (is_to_map map w) w.value (has_key t map w.key) (size_of t map) (λ has. size_of-some t map w.key has) in
    let size = size_of-wrote t w map in
    let gained_rest : gained (value_in (wrote t w)) map ws ≡ gained (value_in t) map ws = counted_alike (gains (value_in (wrote t w)) map) (gains (value_in t) map) w ws (λ y before. gains_kept t map w y before) later in
    let lost_rest : lost (value_in (wrote t w)) map ws ≡ lost (value_in t) map ws = counted_alike (loses (value_in (wrote t w)) map) (loses (value_in t) map) w ws (λ y before. loses_kept t map w y before) later in
    let gained_all : gained (value_in t) map (w ∷ ws) ≡ cond (gains (value_in t) map w) 1 0 + gained (value_in t) map ws = sum_by-cons (λ z. cond (gains (value_in t) map z) 1 0) w ws in
    let lost_all : lost (value_in t) map (w ∷ ws) ≡ cond (loses (value_in t) map w) 1 0 + lost (value_in t) map ws = sum_by-cons (λ z. cond (loses (value_in t) map z) 1 0) w ws in
    omega (arith, rest, one, size, gained_rest, lost_rest, gained_all, lost_all)

-- so their number is that before, with the gain and without the loss
pub size_of-changed : (t : Tables) (ws : List Write) (map : List ℕ) → is_ordered ws ≡ true →
    size_of (wrote_all t ws) map ≡ size_of t map + gained (value_in t) map ws - lost (value_in t) map ws
size_of-changed t ws map ordered = omega (arith, size_of-wrote_all t ws map ordered)
