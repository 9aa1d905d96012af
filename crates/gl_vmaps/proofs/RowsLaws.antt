-- Rows in order: tables at a base made of them have their values, and tables have no others.
use Rattle.std.proofs.Common.{◌≡◌, ℕ, Bool, true, false, List, [], ◌∷◌, Option, Some, None, refl, sym, ◌∙◌, ap, subst, if◌then◌else◌, unwrap_or}
use Rattle.std.specs.FinMap.{len}
use Rattle.std.specs.declared.cmp.Ordering.{Ordering}
use Rattle.std.specs.declared.cmp.Ordering.TheVariants.{Less, Equal, Greater}
use Rattle.std.specs.Ordering.{ordering_reverse}
use Rattle.std.proofs.lemmas.Bool.{and_from}
use Rattle.gl_vmaps.specs.Tables.{Tables, value_in}
use Rattle.gl_vmaps.specs.Versions.{placed_at, is_to_row, written_by}
use Rattle.gl_vmaps.specs.Writes.{is_ordered, is_less, write_order}
use Rattle.gl_vmaps.specs.Kept.{Kept, versions_of, last_value, value_of, tables_of, count_of}
use Rattle.gl_vmaps.specs.Standing.{versions_in}
use Rattle.gl_vmaps.specs.Rows.{row_write, row_writes, tables_with, AreRowsOf}
use Rattle.gl_vmaps.specs.declared.row.Row.{Row}
use Rattle.gl_vmaps.proofs.TablesLaws.{written_by-applied}
use Rattle.gl_vmaps.proofs.VersionLaws.{value_in-versions}
use Rattle.gl_vmaps.proofs.StandingLaws.{value_in-tables_of, same_rows}
use Rattle.gl_vmaps.proofs.JournalLaws.{itself}
use Rattle.gl_vmaps.proofs.WriteLaws.{write_order_total, same_row, ordered_before, is_ordered-rest}
use Rattle.gl_vmaps.proofs.RowsUpToLaws.{row_value, no_row_later, value_in-rows}

-- ---- tables at a base of rows

pub base-value : (cut fresh : Kept) (rows : List Row) → AreRowsOf rows (tables_of cut) → ((map key : List ℕ) → versions_of fresh map key ≡ versions_in (placed_at 0 (row_writes rows)) map key) →
    (map key : List ℕ) → value_of fresh map key ≡ value_of cut map key
base-value cut fresh rows same begins map key =
    let made : written_by (placed_at 0 (row_writes rows)) ≡ tables_with rows = written_by-applied [] 0 (row_writes rows) in
    ap last_value (begins map key)
    ∙ sym (value_in-versions (placed_at 0 (row_writes rows)) map key)
    ∙ ap (λ (t : Tables). value_in t map key) made
    ∙ same map key
    ∙ value_in-tables_of cut map key

pub base-count : (cut fresh : Kept) (rows : List Row) → AreRowsOf rows (tables_of cut) → ((map key : List ℕ) → versions_of fresh map key ≡ versions_in (placed_at 0 (row_writes rows)) map key) →
    (map : List ℕ) → count_of fresh map ≡ count_of cut map
base-count cut fresh rows same begins map =
    ap len (same_rows (tables_of fresh map) (tables_of cut map)
    (λ key. value_in-tables_of fresh map key ∙ base-value cut fresh rows same begins map key ∙ sym (value_in-tables_of cut map key)))

-- ---- rows by their values

first_value : (x : Row) (rows : List Row) → row_value (x ∷ rows) x.map x.key ≡ Some x.value
first_value x rows = ap (λ (b : Bool). if b then Some x.value else row_value rows x.map x.key) (itself x.map x.key)

no_value : {A : Type 0} (v : List ℕ) → Some v ≡ None → A
no_value v e = absurd (cc)

-- a row that stands before the first of others is none of them
not_among : (x y : Row) (rows : List Row) → write_order (row_write x) (row_write y) ≡ Less → is_ordered (row_writes (y ∷ rows)) ≡ true → row_value (y ∷ rows) x.map x.key ≡ None
not_among x y rows before ordered =
    no_row_later x (y ∷ rows) x.map x.key
    (ordered_before (row_write x) (row_writes (y ∷ rows)) (and_from (is_less (write_order (row_write x) (row_write y))) (is_ordered (row_writes (y ∷ rows))) (ap is_less before) ordered))
    (itself x.map x.key)

rest_value : (x : Row) (xs ys : List Row) → is_ordered (row_writes (x ∷ xs)) ≡ true → is_ordered (row_writes (x ∷ ys)) ≡ true →
    ((n k : List ℕ) → row_value (x ∷ xs) n k ≡ row_value (x ∷ ys) n k) → (n k : List ℕ) → row_value xs n k ≡ row_value ys n k
rest_value x xs ys first second same n k = go (is_to_row n k (row_write x)) refl
  where
    go : (b : Bool) → is_to_row n k (row_write x) ≡ b → row_value xs n k ≡ row_value ys n k
    go true is =
        no_row_later x xs n k (ordered_before (row_write x) (row_writes xs) first) is
        ∙ sym (no_row_later x ys n k (ordered_before (row_write x) (row_writes ys) second) is)
    go false differ =
        sym (ap (λ (b : Bool). if b then Some x.value else row_value xs n k) differ)
        ∙ same n k
        ∙ ap (λ (b : Bool). if b then Some x.value else row_value ys n k) differ

some_same : (v w : List ℕ) → Some v ≡ Some w → v ≡ w
some_same v w e = ap (λ (o : Option (List ℕ)). unwrap_or o v) e

one_row : (x y : Row) → x.map ≡ y.map → x.key ≡ y.key → x.value ≡ y.value → x ≡ y
one_row x y map key value =
    ap (λ m. record { map = m; key = x.key; value = x.value }) map
    ∙ ap (λ k. record { map = y.map; key = k; value = x.value }) key
    ∙ ap (λ v. record { map = y.map; key = y.key; value = v }) value

same_list : (xs ys : List Row) → is_ordered (row_writes xs) ≡ true → is_ordered (row_writes ys) ≡ true → ((n k : List ℕ) → row_value xs n k ≡ row_value ys n k) → xs ≡ ys
same_list [] [] first second same = refl
same_list [] (y ∷ ys) first second same = no_value y.value (sym (first_value y ys) ∙ sym (same y.map y.key))
same_list (x ∷ xs) [] first second same = no_value x.value (sym (first_value x xs) ∙ same x.map x.key)
same_list (x ∷ xs) (y ∷ ys) first second same = go (write_order (row_write x) (row_write y)) refl (λ left right alike. same_list xs ys left right alike)
  where
    go : (o : Ordering) → write_order (row_write x) (row_write y) ≡ o →
        (is_ordered (row_writes xs) ≡ true → is_ordered (row_writes ys) ≡ true → ((n k : List ℕ) → row_value xs n k ≡ row_value ys n k) → xs ≡ ys) → x ∷ xs ≡ y ∷ ys
    go Less before rest_same = no_value x.value (sym (first_value x xs) ∙ same x.map x.key ∙ not_among x y ys before second)
    go Greater after rest_same =
        let before : write_order (row_write y) (row_write x) ≡ Less = write_order_total.antisymm (row_write y) (row_write x) ∙ ap ordering_reverse after in
        no_value y.value (sym (first_value y ys) ∙ sym (same y.map y.key) ∙ not_among y x xs before first)
    go Equal tied rest_same =
        let row = same_row (row_write x) (row_write y) tied in
        let value : x.value ≡ y.value =
        some_same x.value y.value
        (sym (first_value x xs) ∙ same x.map x.key ∙ ap (λ n. row_value (y ∷ ys) n x.key) row.0 ∙ ap (row_value (y ∷ ys) y.map) row.1 ∙ first_value y ys) in
        let one : x ≡ y = one_row x y row.0 row.1 value in
        let second' : is_ordered (row_writes (x ∷ ys)) ≡ true = subst (λ (z : Row). is_ordered (row_writes (z ∷ ys)) ≡ true) (sym one) second in
        let same' : (n k : List ℕ) → row_value (x ∷ xs) n k ≡ row_value (x ∷ ys) n k =
        λ n k. same n k ∙ ap (λ (z : Row). row_value (z ∷ ys) n k) (sym one) in
        let rest : xs ≡ ys =
        rest_same (is_ordered-rest (row_write x) (row_writes xs) first) (is_ordered-rest (row_write y) (row_writes ys) second) (rest_value x xs ys first second' same') in
        ap (λ (z : Row). z ∷ xs) one ∙ ap (λ rs. y ∷ rs) rest

-- tables have no two lists of rows in order
pub determined : (rows others : List Row) (tables : Tables) → is_ordered (row_writes rows) ≡ true → is_ordered (row_writes others) ≡ true → AreRowsOf rows tables → AreRowsOf others tables → rows ≡ others
determined rows others tables first second are are_too =
    same_list rows others first second
    (λ n k. sym (value_in-rows rows n k first) ∙ are n k ∙ sym (are_too n k) ∙ value_in-rows others n k second)
