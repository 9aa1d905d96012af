-- The changes from some rows to others turn the tables of the ones into those of the others, and
-- nothing less would.
use Rattle.std.proofs.Common.{◌≡◌, ◌≢◌, ℕ, List, [], ◌∷◌, ◌++◌, map, filter, Option, Some, None, Bool, true, false, not, is_some, is_none, cond, find, refl, sym, ◌∙◌, ap, ap₂, subst, append_assoc}
use Rattle.std.specs.List.{list_all, AllByRecursion}
use Rattle.std.specs.Option.{option_or}
use Rattle.std.specs.FinMap as rows
use Rattle.std.specs.Cmp.Lexicographic.{bytes_decides, nat_list_cmp_total}
use Rattle.std.specs.Ordering.{ordering_reverse}
use Rattle.std.specs.declared.cmp.Ordering.{Ordering}
use Rattle.std.specs.declared.cmp.Ordering.TheVariants.{Less, Greater}
use Rattle.std.proofs.lemmas.List.{append-nil}
use Rattle.std.proofs.lemmas.Bool.{and_parts, and_from}
use Rattle.std.proofs.lemmas.Map.Lookups.{exact_bytes}
use Rattle.std.proofs.lemmas.List.Folds.{list_all-append}
use Rattle.gl_vmaps.specs.Tables.{Tables, no_tables, same_bytes, same_value, value_in, wrote_all}
use Rattle.gl_vmaps.specs.Versions.{is_to_row}
use Rattle.gl_vmaps.specs.Writes.{write_order, is_ordered, with_write, put_before}
use Rattle.gl_vmaps.specs.LastWrite.{last_such, last_write, value_after}
use Rattle.gl_vmaps.specs.declared.write.Write.{Write}
use Rattle.gl_vmaps.proofs.LastWrites.{last_such-cons}
use Rattle.gl_vmaps.proofs.TablesLaws.{value_in-wrote_all, value_in-nothing}
use Rattle.gl_vmaps.proofs.WriteLaws.{write_order_total, ordered_before, is_ordered-rest, last_write-find}
use Rattle.gl_vmaps.proofs.WriteSets.{is_ordered-set_from, list_all-set_from, rows-write_set, wrote_all-append}
use Rattle.gl_vmaps.specs.Changes.{set_from, write_set, Turns, row_in, are_rows, is_changed, is_gone, removal_of, changes_listed, changes}
use Rattle.gl_vmaps.proofs.SameValues.{same_value_is, same_value_self, same_bytes_self}

-- ---- the last write to a row

-- what holds of each holds of the last that is such
last_among : (P : Write → Type 0) (test : Write → Bool) (ws : List Write) (w : Write) → AllByRecursion P ws → last_such test ws ≡ Some w → P w
last_among P test [] w all h = absurd (cc)
last_among P test (x ∷ ws) w all h = go (last_such test ws) refl (test x) (sym (last_such-cons test x ws) ∙ h) (λ y. last_among P test ws y all.1)
  where
    go : (o : Option Write) → last_such test ws ≡ o → (b : Bool) → option_or o (cond b (Some x) None) ≡ Some w → ((y : Write) → last_such test ws ≡ Some y → P y) → P w
    go (Some y) is b e again = again w (is ∙ e)
    go None is true e again = subst P (let same : x ≡ w = cc in same) all.0
    go None is false e again = absurd (cc)

own_row : (w : Write) → is_to_row w.map w.key w ≡ true
own_row w = and_from (same_bytes w.map w.map) (same_bytes w.key w.key) (same_bytes_self w.map) (same_bytes_self w.key)

row_is : (name key : List ℕ) (w : Write) → is_to_row name key w ≡ true → (name ≡ w.map) × (key ≡ w.key)
row_is name key w h =
    let both = and_parts (same_bytes name w.map) (same_bytes key w.key) h in
    ((bytes_decides name w.map).0 both.0, (bytes_decides key w.key).0 both.1)

-- where there is none no write is to the row
none_to_row : (name key : List ℕ) (ws : List Write) → last_write name key ws ≡ None → AllByRecursion (λ (w : Write). is_to_row name key w ≡ false) ws
none_to_row name key [] h = tt
none_to_row name key (w ∷ ws) h = go (last_write name key ws) refl (is_to_row name key w) refl (sym (last_such-cons (is_to_row name key) w ws) ∙ h) (none_to_row name key ws)
  where
    go : (o : Option Write) → last_write name key ws ≡ o → (b : Bool) → is_to_row name key w ≡ b → option_or o (cond b (Some w) None) ≡ None →
        (last_write name key ws ≡ None → AllByRecursion (λ (x : Write). is_to_row name key x ≡ false) ws) → (is_to_row name key w ≡ false) × AllByRecursion (λ (x : Write). is_to_row name key x ≡ false) ws
    go (Some x) is b at e again = absurd (cc)
    go None is true at e again = absurd (cc)
    go None is false at e again = (at, again is)

-- where there is one it is to the row
some_to_row : (name key : List ℕ) (ws : List Write) (w : Write) → last_write name key ws ≡ Some w → is_to_row name key w ≡ true
some_to_row name key [] w h = absurd (cc)
some_to_row name key (x ∷ ws) w h = go (last_write name key ws) refl (is_to_row name key x) refl (sym (last_such-cons (is_to_row name key) x ws) ∙ h) (some_to_row name key ws)
  where
    go : (o : Option Write) → last_write name key ws ≡ o → (b : Bool) → is_to_row name key x ≡ b → option_or o (cond b (Some x) None) ≡ Some w →
        ((y : Write) → last_write name key ws ≡ Some y → is_to_row name key y ≡ true) → is_to_row name key w ≡ true
    go (Some y) is b at e again = again w (is ∙ e)
    go None is true at e again = let same : x ≡ w = cc in ap (is_to_row name key) (sym same) ∙ at
    go None is false at e again = absurd (cc)

of_filter : (P : Write → Type 0) (test : Write → Bool) (ws : List Write) → AllByRecursion (λ (w : Write). test w ≡ true → P w) ws → AllByRecursion P (filter test ws)
of_filter P test [] all = tt
of_filter P test (w ∷ ws) all = go (test w) refl (of_filter P test ws all.1)
  where
    go : (b : Bool) → test w ≡ b → AllByRecursion P (filter test ws) → AllByRecursion P (cond b (w ∷ filter test ws) (filter test ws))
    go true is rest = (all.0 is, rest)
    go false is rest = rest

from_filter : (P : Write → Type 0) (test : Write → Bool) (ws : List Write) → AllByRecursion P (filter test ws) → AllByRecursion (λ (w : Write). test w ≡ true → P w) ws
from_filter P test [] all = tt
from_filter P test (w ∷ ws) all = go (test w) refl all (from_filter P test ws)
  where
    go : (b : Bool) → test w ≡ b → AllByRecursion P (cond b (w ∷ filter test ws) (filter test ws)) → (AllByRecursion P (filter test ws) → AllByRecursion (λ (x : Write). test x ≡ true → P x) ws) →
        (test w ≡ true → P w) × AllByRecursion (λ (x : Write). test x ≡ true → P x) ws
    go true is all again = (λ h. all.0, again all.1)
    go false is all again = (λ h. absurd (let k = sym is ∙ h in cc), again all)

of_map : (P : Write → Type 0) (ws : List Write) → AllByRecursion (λ (w : Write). P (removal_of w)) ws → AllByRecursion P (map removal_of ws)
of_map P [] all = tt
of_map P (w ∷ ws) all = (all.0, of_map P ws all.1)

from_map : (P : Write → Type 0) (ws : List Write) → AllByRecursion P (map removal_of ws) → AllByRecursion (λ (w : Write). P (removal_of w)) ws
from_map P [] all = tt
from_map P (w ∷ ws) all = (all.0, from_map P ws all.1)

each : (P : Write → Type 0) (ws : List Write) → ((w : Write) → P w) → AllByRecursion P ws
each P [] f = tt
each P (w ∷ ws) f = (f w, each P ws f)

both_all : (P Q : Write → Type 0) (ws : List Write) → AllByRecursion P ws → AllByRecursion Q ws → AllByRecursion (λ (w : Write). P w × Q w) ws
both_all P Q [] a b = tt
both_all P Q (w ∷ ws) a b = ((a.0, b.0), both_all P Q ws a.1 b.1)

then_all : (P Q : Write → Type 0) (ws : List Write) → ((w : Write) → P w → Q w) → AllByRecursion P ws → AllByRecursion Q ws
then_all P Q [] f a = tt
then_all P Q (w ∷ ws) f a = (f w a.0, then_all P Q ws f a.1)

-- each write of an ordered set is the last to its row
own_last : (ws : List Write) → is_ordered ws ≡ true → AllByRecursion (λ (w : Write). last_write w.map w.key ws ≡ Some w) ws
own_last [] ordered = tt
own_last (x ∷ xs) ordered =
    let rest = is_ordered-rest x xs ordered in (
      last_write-find x.map x.key (x ∷ xs) ordered ∙ ap (λ (b : Bool). cond b (Some x) (find (is_to_row x.map x.key) xs)) (own_row x),
      then_all (λ (y : Write). (write_order x y ≡ Less) × (last_write y.map y.key xs ≡ Some y)) (λ (y : Write). last_write y.map y.key (x ∷ xs) ≡ Some y) xs
          (λ y h. last_such-cons (is_to_row y.map y.key) x xs ∙ ap (λ (o : Option Write). option_or o (cond (is_to_row y.map y.key x) (Some x) None)) h.1)
          (both_all (λ (y : Write). write_order x y ≡ Less) (λ (y : Write). last_write y.map y.key xs ≡ Some y) xs (ordered_before x xs ordered) (own_last xs rest)),
    )

row_by : (ws : List Write) (name key : List ℕ) → row_in ws name key ≡ value_after (last_write name key ws) None
row_by ws name key = value_in-wrote_all no_tables ws name key ∙ ap (value_after (last_write name key ws)) (value_in-nothing name key)

own_value : (ws : List Write) → is_ordered ws ≡ true → AllByRecursion (λ (w : Write). row_in ws w.map w.key ≡ w.value) ws
own_value ws ordered = then_all (λ (w : Write). last_write w.map w.key ws ≡ Some w) (λ (w : Write). row_in ws w.map w.key ≡ w.value) ws
    (λ w h. row_by ws w.map w.key ∙ ap (λ (o : Option Write). value_after o None) h) (own_last ws ordered)

-- ---- a row after the changes

module _ (before after : List Write) (sorted : is_ordered after ≡ true) (name key : List ℕ) where
  puts : List Write
  puts = filter (is_changed before) after

  -- a row that is put has its new value
  put_value : (w : Write) → last_write name key (filter (is_changed before) after) ≡ Some w → row_in after name key ≡ w.value
  put_value w h =
      let at = row_is name key w (some_to_row name key (filter (is_changed before) after) w h) in
      let own = last_among (λ (x : Write). row_in after x.map x.key ≡ x.value) (is_to_row name key) (filter (is_changed before) after) w
      (of_filter (λ (x : Write). row_in after x.map x.key ≡ x.value) (is_changed before) after (then_all (λ (x : Write). row_in after x.map x.key ≡ x.value) (λ (x : Write). is_changed before x ≡ true → row_in after x.map x.key ≡ x.value) after (λ x p q. p) (own_value after sorted))) h in
      ap₂ (λ (m k : List ℕ). row_in after m k) at.0 at.1 ∙ own

  -- a row that is removal_of is gone
  gone_value : (w : Write) → last_write name key (map removal_of (filter (is_gone after) before)) ≡ Some w → (w.value ≡ None) × (row_in after name key ≡ None)
  gone_value w h =
      let at = row_is name key w (some_to_row name key (map removal_of (filter (is_gone after) before)) w h) in
      let own = last_among (λ (x : Write). (x.value ≡ None) × (row_in after x.map x.key ≡ None)) (is_to_row name key) (map removal_of (filter (is_gone after) before)) w
      (of_map (λ (x : Write). (x.value ≡ None) × (row_in after x.map x.key ≡ None)) (filter (is_gone after) before)
      (of_filter (λ (x : Write). (None ≡ None) × (row_in after x.map x.key ≡ None)) (is_gone after) before (each (λ (x : Write). is_gone after x ≡ true → (None ≡ None) × (row_in after x.map x.key ≡ None)) before (λ x g. (refl, gone (row_in after x.map x.key) g))))) h in
      (own.0, ap₂ (λ (m k : List ℕ). row_in after m k) at.0 at.1 ∙ own.1)
    where
      gone : (o : Option (List ℕ)) → is_none o ≡ true → o ≡ None
      gone None g = refl
      gone (Some v) g = absurd (cc)

  -- a row that is neither is as it was
  kept_value : last_write name key (filter (is_changed before) after) ≡ None → last_write name key (map removal_of (filter (is_gone after) before)) ≡ None → row_in before name key ≡ row_in after name key
  kept_value a b = go (last_write name key after) refl (last_write name key before) refl
    where
      not_changed : (w : Write) → last_write name key after ≡ Some w → is_changed before w ≡ true → ⊥
      not_changed w is new =
          let all = from_filter (λ (x : Write). is_to_row name key x ≡ false) (is_changed before) after (none_to_row name key (filter (is_changed before) after) a) in
          let one = last_among (λ (x : Write). is_changed before x ≡ true → is_to_row name key x ≡ false) (is_to_row name key) after w all is new in
          let two = some_to_row name key after w is in
          cc

      not_gone : (w : Write) → last_write name key before ≡ Some w → is_gone after w ≡ true → ⊥
      not_gone w is gone =
          let all = from_filter (λ (x : Write). is_to_row name key x ≡ false) (is_gone after) before (from_map (λ (x : Write). is_to_row name key x ≡ false) (filter (is_gone after) before) (none_to_row name key (map removal_of (filter (is_gone after) before)) b)) in
          let one = last_among (λ (x : Write). is_gone after x ≡ true → is_to_row name key x ≡ false) (is_to_row name key) before w all is gone in
          let two = some_to_row name key before w is in
          cc

      equal : (o v : Option (List ℕ)) → (not (same_value o v) ≡ true → ⊥) → o ≡ v
      equal o v never = decide (same_value o v) refl
        where
          decide : (t : Bool) → same_value o v ≡ t → o ≡ v
          decide true is = same_value_is o v is
          decide false is = absurd (never (ap not is))

      go : (x : Option Write) → last_write name key after ≡ x → (y : Option Write) → last_write name key before ≡ y → row_in before name key ≡ row_in after name key
      go (Some w) is y at =
          let place = row_is name key w (some_to_row name key after w is) in
          let now : row_in after name key ≡ w.value = row_by after name key ∙ ap (λ (o : Option Write). value_after o None) is in
          let was : row_in before w.map w.key ≡ w.value = equal (row_in before w.map w.key) w.value (not_changed w is) in
          ap₂ (λ (m k : List ℕ). row_in before m k) place.0 place.1 ∙ was ∙ sym now
      go None is None at =
          row_by before name key ∙ ap (λ (o : Option Write). value_after o None) at ∙ sym (row_by after name key ∙ ap (λ (o : Option Write). value_after o None) is)
      go None is (Some w) at =
          let place = row_is name key w (some_to_row name key before w at) in
          let now : row_in after name key ≡ None = row_by after name key ∙ ap (λ (o : Option Write). value_after o None) is in
          absurd (not_gone w at (ap is_none (sym (ap₂ (λ (m k : List ℕ). row_in after m k) place.0 place.1) ∙ now)))

  pub value_turned : value_in (wrote_all (wrote_all no_tables before) (changes_listed before after)) name key ≡ row_in after name key
  value_turned =
      ap (λ (t : Tables). value_in t name key) (wrote_all-append (wrote_all no_tables before) (filter (is_changed before) after) (map removal_of (filter (is_gone after) before)))
      ∙ value_in-wrote_all (wrote_all (wrote_all no_tables before) (filter (is_changed before) after)) (map removal_of (filter (is_gone after) before)) name key
      ∙ ap (value_after (last_write name key (map removal_of (filter (is_gone after) before)))) (value_in-wrote_all (wrote_all no_tables before) (filter (is_changed before) after) name key)
      ∙ go (last_write name key (filter (is_changed before) after)) refl (last_write name key (map removal_of (filter (is_gone after) before))) refl
    where
      go : (p : Option Write) → last_write name key (filter (is_changed before) after) ≡ p → (r : Option Write) → last_write name key (map removal_of (filter (is_gone after) before)) ≡ r →
          value_after r (value_after p (row_in before name key)) ≡ row_in after name key
      go p is (Some w) at = let g = gone_value w at in g.0 ∙ sym g.1
      go (Some w) is None at = sym (put_value w is)
      go None is None at = kept_value is at

-- ---- the write set

all_changed : (before ws : List Write) → list_all (is_changed before) (filter (is_changed before) ws) ≡ true
all_changed before [] = refl
all_changed before (w ∷ ws) = go (is_changed before w) refl (all_changed before ws)
  where
    go : (b : Bool) → is_changed before w ≡ b → list_all (is_changed before) (filter (is_changed before) ws) ≡ true → list_all (is_changed before) (cond b (w ∷ filter (is_changed before) ws) (filter (is_changed before) ws)) ≡ true
    go true is rest = and_from (is_changed before w) (list_all (is_changed before) (filter (is_changed before) ws)) is rest
    go false is rest = rest

-- each row that is removal_of was there
removals_new : (before after ws : List Write) → AllByRecursion (λ (w : Write). row_in before w.map w.key ≡ w.value) ws → list_all (λ (w : Write). is_some w.value) ws ≡ true →
    list_all (is_changed before) (map removal_of (filter (is_gone after) ws)) ≡ true
removals_new before after [] own all = refl
removals_new before after (w ∷ ws) own all = go (is_gone after w) (removals_new before after ws own.1 (and_parts (is_some w.value) (list_all (λ (x : Write). is_some x.value) ws) all).1)
  where
    there : (v : Option (List ℕ)) → is_some v ≡ true → not (same_value v None) ≡ true
    there None h = absurd (cc)
    there (Some v) h = refl

    go : (b : Bool) → list_all (is_changed before) (map removal_of (filter (is_gone after) ws)) ≡ true → list_all (is_changed before) (map removal_of (cond b (w ∷ filter (is_gone after) ws) (filter (is_gone after) ws))) ≡ true
    go true rest = and_from (is_changed before (removal_of w)) (list_all (is_changed before) (map removal_of (filter (is_gone after) ws)))
        (ap (λ (v : Option (List ℕ)). not (same_value v None)) own.0 ∙ there w.value (and_parts (is_some w.value) (list_all (λ (x : Write). is_some x.value) ws) all).0) rest
    go false rest = rest

pub changes_turn : (before after : List Write) → are_rows before ≡ true → are_rows after ≡ true → Turns (changes before after) (wrote_all no_tables before) (wrote_all no_tables after)
changes_turn before after old new =
    let a = and_parts (is_ordered before) (list_all (λ (w : Write). is_some w.value) before) old in
    let b = and_parts (is_ordered after) (list_all (λ (w : Write). is_some w.value) after) new in
    record {
      turns = λ name. rows-write_set (wrote_all no_tables before) (changes_listed before after) name
          ∙ rows.same_map nat_list_cmp_total exact_bytes (wrote_all (wrote_all no_tables before) (changes_listed before after) name) (wrote_all no_tables after name) (λ key. value_turned before after b.0 name key);
      changes = each_new before (changes before after) (list_all-set_from (is_changed before) [] (changes_listed before after) refl
          (list_all-append (is_changed before) (filter (is_changed before) after) (map removal_of (filter (is_gone after) before))
          ∙ and_from (list_all (is_changed before) (filter (is_changed before) after)) (list_all (is_changed before) (map removal_of (filter (is_gone after) before))) (all_changed before after) (removals_new before after before (own_value before a.0) a.1)));
      ordered = is_ordered-set_from [] (changes_listed before after) refl;
    }
  where
    each_new : (rows ws : List Write) → list_all (is_changed rows) ws ≡ true → AllByRecursion (λ (w : Write). row_in rows w.map w.key ≢ w.value) ws
    each_new rows [] all = tt
    each_new rows (w ∷ ws) all =
        let both = and_parts (is_changed rows w) (list_all (is_changed rows) ws) all in
        (λ same. let t : same_value (row_in rows w.map w.key) w.value ≡ true = ap (λ (v : Option (List ℕ)). same_value v w.value) same ∙ same_value_self w.value in let k = both.0 in let m = ap not t in cc, each_new rows ws both.1)

-- ---- from nothing

at_place : (x y : Write) (xs ys : List Write) → AllByRecursion (λ (z : Write). write_order x z ≡ Less) (xs ++ y ∷ ys) → write_order x y ≡ Less
at_place x y [] ys all = all.0
at_place x y (z ∷ xs) ys all = at_place x y xs ys all.1

-- a write after all of a set comes last
with_last : (xs : List Write) (y : Write) (ys : List Write) → is_ordered (xs ++ y ∷ ys) ≡ true → with_write xs y ≡ xs ++ y ∷ []
with_last [] y ys ordered = refl
with_last (x ∷ xs) y ys ordered =
    let less : write_order x y ≡ Less = at_place x y xs ys (ordered_before x (xs ++ y ∷ ys) ordered) in
    let greater : write_order y x ≡ Greater = write_order_total.antisymm y x ∙ ap ordering_reverse less in
    ap (λ (o : Ordering). put_before o y x xs (with_write xs y)) greater ∙ ap (λ (ws : List Write). x ∷ ws) (with_last xs y ys (is_ordered-rest x (xs ++ y ∷ ys) ordered))

set_from_ordered : (xs ys : List Write) → is_ordered (xs ++ ys) ≡ true → set_from xs ys ≡ xs ++ ys
set_from_ordered xs [] ordered = sym (append-nil xs)
set_from_ordered xs (y ∷ ys) ordered =
    ap (λ (set : List Write). set_from set ys) (with_last xs y ys ordered)
    ∙ set_from_ordered (xs ++ y ∷ []) ys (ap is_ordered (append_assoc xs (y ∷ []) ys) ∙ ordered) ∙ append_assoc xs (y ∷ []) ys

all_kept : (ws : List Write) → list_all (λ (w : Write). is_some w.value) ws ≡ true → filter (is_changed []) ws ≡ ws
all_kept [] all = refl
all_kept (w ∷ ws) all =
    let both = and_parts (is_some w.value) (list_all (λ (x : Write). is_some x.value) ws) all in
    ap (λ (b : Bool). cond b (w ∷ filter (is_changed []) ws) (filter (is_changed []) ws)) (ap (λ (v : Option (List ℕ)). not (same_value v w.value)) (value_in-nothing w.map w.key) ∙ some w.value both.0)
    ∙ ap (λ (xs : List Write). w ∷ xs) (all_kept ws both.1)
  where
    some : (v : Option (List ℕ)) → is_some v ≡ true → not (same_value None v) ≡ true
    some None h = absurd (cc)
    some (Some v) h = refl

-- from no rows the changes are the rows themselves
pub changes_from_none : (after : List Write) → are_rows after ≡ true → changes [] after ≡ after
changes_from_none after h =
    let b = and_parts (is_ordered after) (list_all (λ (w : Write). is_some w.value) after) h in
    ap (λ (ws : List Write). write_set (ws ++ [])) (all_kept after b.1) ∙ ap write_set (append-nil after) ∙ set_from_ordered [] after b.0
