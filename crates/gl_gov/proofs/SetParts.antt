-- The part of a write set that a test of map and key keeps; and rows that are the same but for such
-- a part: what turns the ones into the others turns the part of the ones into that of the others.
use Rattle.std.proofs.Common.{◌≡◌, ℕ, List, [], ◌∷◌, ◌++◌, map, filter, find, Option, Some, None, Bool, true, false, ◌&&◌, not, is_none, is_some, cond, refl, sym, ◌∙◌, ap, ap₂}
use Rattle.std.specs.List.{list_all, AllByRecursion}
use Rattle.std.specs.Option.{option_or}
use Rattle.std.specs.declared.cmp.Ordering.{Ordering}
use Rattle.std.specs.declared.cmp.Ordering.TheVariants.{Less, Equal, Greater}
use Rattle.std.proofs.lemmas.Bool.{and_parts, and_from}
use Rattle.gl_vmaps.specs.Tables.{same_bytes, same_value}
use Rattle.gl_vmaps.specs.Versions.{is_to_row}
use Rattle.gl_vmaps.specs.Writes.{write_order, is_ordered, with_write, put_before}
use Rattle.gl_vmaps.specs.LastWrite.{last_write, value_after}
use Rattle.gl_vmaps.specs.Changes.{row_in, set_from, write_set, are_rows, is_changed, is_gone, removal_of, changes}
use Rattle.gl_vmaps.specs.declared.write.Write.{Write}
use Rattle.gl_vmaps.proofs.LastWrites.{last_such-cons}
use Rattle.gl_vmaps.proofs.TablesLaws.{same_bytes-itself, row_of}
use Rattle.gl_vmaps.proofs.WriteLaws.{write_order_total, same_row, is_ordered-with_write, ordered_before, is_ordered-rest, last_write-find}
use Rattle.gl_vmaps.proofs.SameValues.{same_value_self}
use Rattle.gl_gov.proofs.Putting.{row_in-last_write}

-- the test asks of a write its map and its key alone
abbrev pub AsksRow : (Write → Bool) → Type 0
AsksRow t = (w x : Write) → w.map ≡ x.map → w.key ≡ x.key → t w ≡ t x

-- ---- lists of writes

put_first : (w : Write) (ws : List Write) → AllByRecursion (λ (y : Write). write_order w y ≡ Less) ws → with_write ws w ≡ w ∷ ws
put_first w [] all = refl
put_first w (x ∷ xs) all = ap (λ (o : Ordering). put_before o w x xs (with_write xs w)) all.0

before_later : (w x : Write) (ys : List Write) → write_order w x ≡ Less → AllByRecursion (λ (z : Write). write_order x z ≡ Less) ys → AllByRecursion (λ (z : Write). write_order w z ≡ Less) ys
before_later w x [] before all = tt
before_later w x (z ∷ zs) before all = (write_order_total.trans w x z before all.0, before_later w x zs before all.1)

then_all : (P Q : Write → Type 0) (ws : List Write) → ((w : Write) → P w → Q w) → AllByRecursion P ws → AllByRecursion Q ws
then_all P Q [] f all = tt
then_all P Q (w ∷ ws) f all = (f w all.0, then_all P Q ws f all.1)

own_row : (w : Write) → is_to_row w.map w.key w ≡ true
own_row w = and_from (same_bytes w.map w.map) (same_bytes w.key w.key) (same_bytes-itself w.map) (same_bytes-itself w.key)

-- each write of an ordered set is the last to its row
own_last : (ws : List Write) → is_ordered ws ≡ true → AllByRecursion (λ (w : Write). last_write w.map w.key ws ≡ Some w) ws
own_last [] ordered = tt
own_last (x ∷ xs) ordered = (
  last_write-find x.map x.key (x ∷ xs) ordered ∙ ap (λ (b : Bool). cond b (Some x) (find (is_to_row x.map x.key) xs)) (own_row x),
  then_all (λ (y : Write). last_write y.map y.key xs ≡ Some y) (λ (y : Write). last_write y.map y.key (x ∷ xs) ≡ Some y) xs
      (λ y h. last_such-cons (is_to_row y.map y.key) x xs ∙ ap (λ (o : Option Write). option_or o (cond (is_to_row y.map y.key x) (Some x) None)) h)
      (own_last xs (is_ordered-rest x xs ordered)),
)

-- so its value is the row's
own_value : (ws : List Write) → is_ordered ws ≡ true → AllByRecursion (λ (w : Write). row_in ws w.map w.key ≡ w.value) ws
own_value ws ordered =
    then_all (λ (w : Write). last_write w.map w.key ws ≡ Some w) (λ (w : Write). row_in ws w.map w.key ≡ w.value) ws
    (λ w h. row_in-last_write ws w.map w.key ∙ ap (λ (o : Option Write). value_after o None) h) (own_last ws ordered)

module _ (t : Write → Bool) where
  all_kept : (P : Write → Type 0) (ws : List Write) → AllByRecursion P ws → AllByRecursion P (filter t ws)
  all_kept P [] all = tt
  all_kept P (w ∷ ws) all = go (t w) (all_kept P ws all.1)
    where
      go : (b : Bool) → AllByRecursion P (filter t ws) → AllByRecursion P (cond b (w ∷ filter t ws) (filter t ws))
      go true rest = (all.0, rest)
      go false rest = rest

  -- what passes a test is among what is kept, where it passes another there
  filter_kept : (p q : Write → Bool) (ws : List Write) → AllByRecursion (λ (w : Write). p w ≡ (t w && q w)) ws → filter p ws ≡ filter q (filter t ws)
  filter_kept p q [] all = refl
  filter_kept p q (w ∷ ws) all = go (t w) all.0 (filter_kept p q ws all.1)
    where
      go : (b : Bool) → p w ≡ (b && q w) → filter p ws ≡ filter q (filter t ws) → cond (p w) (w ∷ filter p ws) (filter p ws) ≡ filter q (cond b (w ∷ filter t ws) (filter t ws))
      go true same rest = ap₂ (λ (c : Bool) (ys : List Write). cond c (w ∷ ys) ys) same rest
      go false same rest = ap (λ (c : Bool). cond c (w ∷ filter p ws) (filter p ws)) same ∙ rest

  -- the last write to a row that is kept
  last-kept : (name key : List ℕ) (ws : List Write) → ((w : Write) → is_to_row name key w ≡ true → t w ≡ true) → last_write name key (filter t ws) ≡ last_write name key ws
  last-kept name key [] keeps = refl
  last-kept name key (w ∷ ws) keeps = go (t w) refl (is_to_row name key w) refl (last-kept name key ws keeps)
    where
      go : (b : Bool) → t w ≡ b → (c : Bool) → is_to_row name key w ≡ c → last_write name key (filter t ws) ≡ last_write name key ws →
          last_write name key (cond b (w ∷ filter t ws) (filter t ws)) ≡ last_write name key (w ∷ ws)
      go true is c at rest =
          last_such-cons (is_to_row name key) w (filter t ws) ∙ ap (λ (o : Option Write). option_or o (cond (is_to_row name key w) (Some w) None)) rest
          ∙ sym (last_such-cons (is_to_row name key) w ws)
      go false is true at rest = let kept = keeps w at in absurd (cc)
      go false is false at rest =
          rest ∙ sym (last_such-cons (is_to_row name key) w ws ∙ ap (λ (d : Bool). option_or (last_write name key ws) (cond d (Some w) None)) at ∙ nothing (last_write name key ws))
        where
          nothing : (o : Option Write) → option_or o None ≡ o
          nothing None = refl
          nothing (Some x) = refl

  -- so is the row's value
  row_in-kept : (name key : List ℕ) (ws : List Write) → ((w : Write) → is_to_row name key w ≡ true → t w ≡ true) → row_in (filter t ws) name key ≡ row_in ws name key
  row_in-kept name key ws keeps =
      row_in-last_write (filter t ws) name key ∙ ap (λ (o : Option Write). value_after o None) (last-kept name key ws keeps) ∙ sym (row_in-last_write ws name key)

-- ---- sets

module _ (t : Write → Bool) (asks : AsksRow t) where
  filter-with_write : (ws : List Write) (w : Write) → is_ordered ws ≡ true → filter t (with_write ws w) ≡ cond (t w) (with_write (filter t ws) w) (filter t ws)
  filter-with_write [] w ordered = refl
  filter-with_write (x ∷ xs) w ordered = go (write_order w x) refl (filter-with_write xs w (is_ordered-rest x xs ordered))
    where
      equal : write_order w x ≡ Equal → (b c : Bool) (ys : List Write) → b ≡ c → cond b (w ∷ ys) ys ≡ cond b (with_write (cond c (x ∷ ys) ys) w) (cond c (x ∷ ys) ys)
      equal is true true ys same = sym (ap (λ (o : Ordering). put_before o w x ys (with_write ys w)) is)
      equal is true false ys same = absurd (cc)
      equal is false true ys same = absurd (cc)
      equal is false false ys same = refl

      greater : write_order w x ≡ Greater → (b c : Bool) (ys zs : List Write) → zs ≡ cond b (with_write ys w) ys →
          cond c (x ∷ zs) zs ≡ cond b (with_write (cond c (x ∷ ys) ys) w) (cond c (x ∷ ys) ys)
      greater is true true ys zs put = ap (λ (vs : List Write). x ∷ vs) put ∙ sym (ap (λ (o : Ordering). put_before o w x ys (with_write ys w)) is)
      greater is true false ys zs put = put
      greater is false true ys zs put = ap (λ (vs : List Write). x ∷ vs) put
      greater is false false ys zs put = put

      go : (o : Ordering) → write_order w x ≡ o → filter t (with_write xs w) ≡ cond (t w) (with_write (filter t xs) w) (filter t xs) →
          filter t (put_before o w x xs (with_write xs w)) ≡ cond (t w) (with_write (filter t (x ∷ xs)) w) (filter t (x ∷ xs))
      go Less is rest =
          let all = before_later w x xs is (ordered_before x xs ordered) in
          ap (λ (ys : List Write). cond (t w) ys (filter t (x ∷ xs))) (sym (put_first w (filter t (x ∷ xs)) (all_kept t (λ (y : Write). write_order w y ≡ Less) (x ∷ xs) (is, all))))
      go Equal is rest = let row = same_row w x is in equal is (t w) (t x) (filter t xs) (asks w x row.0 row.1)
      go Greater is rest = greater is (t w) (t x) (filter t xs) (filter t (with_write xs w)) rest

  filter-set_from : (set ws : List Write) → is_ordered set ≡ true → filter t (set_from set ws) ≡ set_from (filter t set) (filter t ws)
  filter-set_from set [] ordered = refl
  filter-set_from set (w ∷ ws) ordered =
      filter-set_from (with_write set w) ws (is_ordered-with_write set w ordered) ∙ put (t w) (filter-with_write set w ordered)
    where
      put : (b : Bool) → filter t (with_write set w) ≡ cond b (with_write (filter t set) w) (filter t set) →
          set_from (filter t (with_write set w)) (filter t ws) ≡ set_from (filter t set) (cond b (w ∷ filter t ws) (filter t ws))
      put true is = ap (λ (s : List Write). set_from s (filter t ws)) is
      put false is = ap (λ (s : List Write). set_from s (filter t ws)) is

  -- the part of a set is the set of the part
  pub filter-write_set : (ws : List Write) → filter t (write_set ws) ≡ write_set (filter t ws)
  filter-write_set ws = filter-set_from [] ws refl

-- ---- changes

module _ (t : Write → Bool) (asks : AsksRow t) where
  abbrev others : Write → Bool
  others w = not (t w)

  asks_others : AsksRow others
  asks_others w x name key = ap not (asks w x name key)

  -- a test that passes a write passes all to its row
  to_row : (p : Write → Bool) → AsksRow p → (w : Write) → p w ≡ true → (x : Write) → is_to_row w.map w.key x ≡ true → p x ≡ true
  to_row p asks w is x at = let row = row_of w.map w.key x at in sym (asks w x row.0 row.1) ∙ is

  module _ (before after : List Write) (old : are_rows before ≡ true) (new : are_rows after ≡ true) (same : filter others before ≡ filter others after) where
    same_row_in : (w : Write) → t w ≡ false → row_in before w.map w.key ≡ row_in after w.map w.key
    same_row_in w is =
        let keeps = to_row others asks_others w (ap not is) in
        sym (row_in-kept others w.map w.key before keeps) ∙ ap (λ (ws : List Write). row_in ws w.map w.key) same ∙ row_in-kept others w.map w.key after keeps

    part_row_in : (ws : List Write) (w : Write) → t w ≡ true → row_in ws w.map w.key ≡ row_in (filter t ws) w.map w.key
    part_row_in ws w is = sym (row_in-kept t w.map w.key ws (to_row t asks w is))

    changed_in_part : (w : Write) → row_in after w.map w.key ≡ w.value → is_changed before w ≡ (t w && is_changed (filter t before) w)
    changed_in_part w own = go (t w) refl
      where
        go : (b : Bool) → t w ≡ b → is_changed before w ≡ (b && is_changed (filter t before) w)
        go true is = ap (λ (v : Option (List ℕ)). not (same_value v w.value)) (part_row_in before w is)
        go false is = ap (λ (v : Option (List ℕ)). not (same_value v w.value)) (same_row_in w is ∙ own) ∙ ap not (same_value_self w.value)

    gone_in_part : (w : Write) → (row_in before w.map w.key ≡ w.value) → is_some w.value ≡ true → is_gone after w ≡ (t w && is_gone (filter t after) w)
    gone_in_part w own set = go (t w) refl
      where
        there : (v : Option (List ℕ)) → is_some v ≡ true → is_none v ≡ false
        there None e = absurd (cc)
        there (Some v) e = refl

        go : (b : Bool) → t w ≡ b → is_gone after w ≡ (b && is_gone (filter t after) w)
        go true is = ap is_none (part_row_in after w is)
        go false is = ap is_none (sym (same_row_in w is) ∙ own) ∙ there w.value set

    both_all : (P Q : Write → Type 0) (ws : List Write) → AllByRecursion P ws → AllByRecursion Q ws → AllByRecursion (λ (w : Write). P w × Q w) ws
    both_all P Q [] a b = tt
    both_all P Q (w ∷ ws) a b = ((a.0, b.0), both_all P Q ws a.1 b.1)

    all_set : (ws : List Write) → list_all (λ (w : Write). is_some w.value) ws ≡ true → AllByRecursion (λ (w : Write). is_some w.value ≡ true) ws
    all_set [] all = tt
    all_set (w ∷ ws) all = let both = and_parts (is_some w.value) (list_all (λ (x : Write). is_some x.value) ws) all in (both.0, all_set ws both.1)

    changes-part : changes before after ≡ changes (filter t before) (filter t after)
    changes-part =
        let one = and_parts (is_ordered before) (list_all (λ (w : Write). is_some w.value) before) old in
        let two = and_parts (is_ordered after) (list_all (λ (w : Write). is_some w.value) after) new in
        let put = filter_kept t (is_changed before) (is_changed (filter t before)) after
        (then_all (λ (w : Write). row_in after w.map w.key ≡ w.value) (λ (w : Write). is_changed before w ≡ (t w && is_changed (filter t before) w)) after changed_in_part (own_value after two.0)) in
        let gone = filter_kept t (is_gone after) (is_gone (filter t after)) before
        (then_all (λ (w : Write). (row_in before w.map w.key ≡ w.value) × (is_some w.value ≡ true)) (λ (w : Write). is_gone after w ≡ (t w && is_gone (filter t after) w)) before (λ w h. gone_in_part w h.0 h.1)
        (both_all (λ (w : Write). row_in before w.map w.key ≡ w.value) (λ (w : Write). is_some w.value ≡ true) before (own_value before one.0) (all_set before one.1))) in
        ap₂ (λ (xs ys : List Write). write_set (xs ++ map removal_of ys)) put gone

  -- where the writes that the test leaves are the same, the changes are those of what it keeps
  pub changes_of_part : (xs ys : List Write) → are_rows (write_set xs) ≡ true → are_rows (write_set ys) ≡ true → filter others xs ≡ filter others ys →
      changes (write_set xs) (write_set ys) ≡ changes (write_set (filter t xs)) (write_set (filter t ys))
  changes_of_part xs ys old new same =
      changes-part (write_set xs) (write_set ys) old new (filter-write_set others asks_others xs ∙ ap write_set same ∙ sym (filter-write_set others asks_others ys))
      ∙ ap₂ changes (filter-write_set t asks xs) (filter-write_set t asks ys)
