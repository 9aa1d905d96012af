-- The rows that writes leave where rows stood before: they are in order, and those of the tables
-- that the writes make.
use Rattle.std.proofs.Common.{◌≡◌, ℕ, Bool, true, false, if◌then◌else◌, List, [], ◌∷◌, ◌++◌, Option, Some, None, refl, sym, ◌∙◌, ap, subst, filter_map, option_map, nat_le, cond, arith}
use Rattle.std.specs.List.{AllByRecursion, cons_option}
use Rattle.std.specs.declared.cmp.Ordering.TheVariants.{Less}
use Rattle.std.proofs.lemmas.Bool.{and_from}
use Rattle.std.proofs.lemmas.Bool.Decides.{nat_tests}
use Rattle.std.proofs.lemmas.List.Elements.{filter-append}
use Rattle.gl_vmaps.specs.Tables.{Tables, Rows, no_tables, value_in, wrote_all}
use Rattle.gl_vmaps.specs.Versions.{Placed, placed_at, is_to_row, up_to, writes_up_to, written_after, written_by}
use Rattle.gl_vmaps.specs.Writes.{is_ordered, is_less, stands_before, write_order}
use Rattle.gl_vmaps.specs.LastWrite.{last_write, value_after}
use Rattle.gl_vmaps.specs.Changes.{set_from}
use Rattle.gl_vmaps.specs.Rows.{row_writes, tables_with, AreRowsOf, HasPut, row_left, rows_over}
use Rattle.gl_vmaps.specs.declared.row.Row.{Row}
use Rattle.gl_vmaps.specs.declared.write.Write.{Write}
use Rattle.gl_vmaps.proofs.TablesLaws.{value_in-wrote_all, value_in-nothing, written_after-writes, written_after-append, written_by-applied}
use Rattle.gl_vmaps.proofs.WriteLaws.{ordered_before, is_ordered-rest, no_other, first_of_all}
use Rattle.gl_vmaps.proofs.WriteSets.{is_ordered-set_from, wrote_all-set_from, wrote_all-append}
use Rattle.gl_vmaps.proofs.RowsUpToLaws.{row_value, value_in-rows}
use Rattle.gl_vmaps.proofs.RowsLaws.{determined}

-- ---- the rows left by a set in order

abbrev left : Write → Option (List ℕ) → Option Row
left w value = option_map (λ v. record { map = w.map; key = w.key; value = v }) value

-- a write that stands before all others stands before the rows that they leave
stands-left : (w : Write) (ws : List Write) → AllByRecursion (λ y. write_order w y ≡ Less) ws → stands_before w.map w.key (row_writes (filter_map row_left ws)) ≡ true
stands-left w [] before = refl
stands-left w (y ∷ ys) before = go y.value (stands-left w ys before.1)
  where
    go : (v : Option (List ℕ)) → stands_before w.map w.key (row_writes (filter_map row_left ys)) ≡ true → stands_before w.map w.key (row_writes (cons_option (left y v) (filter_map row_left ys))) ≡ true
    go None rest = rest
    go (Some x) rest = ap is_less before.0

ordered-left : (ws : List Write) → is_ordered ws ≡ true → is_ordered (row_writes (filter_map row_left ws)) ≡ true
ordered-left [] ordered = refl
ordered-left (w ∷ ws) ordered = go w.value (ordered-left ws (is_ordered-rest w ws ordered))
  where
    go : (v : Option (List ℕ)) → is_ordered (row_writes (filter_map row_left ws)) ≡ true → is_ordered (row_writes (cons_option (left w v) (filter_map row_left ws))) ≡ true
    go None rest = rest
    go (Some x) rest =
        and_from (stands_before w.map w.key (row_writes (filter_map row_left ws))) (is_ordered (row_writes (filter_map row_left ws)))
        (stands-left w ws (ordered_before w ws ordered)) rest

-- the value of a row is what the last write to it wrote
value-left : (n k : List ℕ) (ws : List Write) → is_ordered ws ≡ true → row_value (filter_map row_left ws) n k ≡ value_after (last_write n k ws) None
value-left n k [] ordered = refl
value-left n k (w ∷ ws) ordered =
    let later = ordered_before w ws ordered in
    go w.value refl (is_to_row n k w) refl (value-left n k ws (is_ordered-rest w ws ordered)) (no_other n k w ws later)
    ∙ sym (ap (λ (o : Option Write). value_after o None) (first_of_all n k w ws later))
  where
    go : (v : Option (List ℕ)) → w.value ≡ v → (b : Bool) → is_to_row n k w ≡ b → row_value (filter_map row_left ws) n k ≡ value_after (last_write n k ws) None →
        (is_to_row n k w ≡ true → last_write n k ws ≡ None) →
        row_value (cons_option (left w v) (filter_map row_left ws)) n k ≡ value_after (if is_to_row n k w then Some w else last_write n k ws) None
    go None same true is rest none =
        rest ∙ ap (λ (o : Option Write). value_after o None) (none is) ∙ sym same
        ∙ sym (ap (λ (b : Bool). value_after (if b then Some w else last_write n k ws) None) is)
    go None same false is rest none = rest ∙ sym (ap (λ (b : Bool). value_after (if b then Some w else last_write n k ws) None) is)
    go (Some x) same true is rest none =
        ap (λ (b : Bool). if b then Some x else row_value (filter_map row_left ws) n k) is ∙ sym same
        ∙ sym (ap (λ (b : Bool). value_after (if b then Some w else last_write n k ws) None) is)
    go (Some x) same false is rest none =
        ap (λ (b : Bool). if b then Some x else row_value (filter_map row_left ws) n k) is ∙ rest
        ∙ sym (ap (λ (b : Bool). value_after (if b then Some w else last_write n k ws) None) is)

-- ---- the rows that writes leave

pub ordered-over : (rows : List Row) (ws : List Write) → is_ordered (row_writes rows) ≡ true → is_ordered (row_writes (rows_over rows ws)) ≡ true
ordered-over rows ws ordered = ordered-left (set_from (row_writes rows) ws) (is_ordered-set_from (row_writes rows) ws ordered)

pub values-over : (rows : List Row) (ws : List Write) → is_ordered (row_writes rows) ≡ true → AreRowsOf (rows_over rows ws) (wrote_all (tables_with rows) ws)
values-over rows ws ordered n k =
    let set = set_from (row_writes rows) ws in
    let kept = is_ordered-set_from (row_writes rows) ws ordered in
    value_in-rows (rows_over rows ws) n k (ordered-left set kept)
    ∙ value-left n k set kept
    ∙ ap (value_after (last_write n k set)) (sym (value_in-nothing n k))
    ∙ sym (value_in-wrote_all no_tables set n k)
    ∙ ap (λ (r : Rows). value_in (λ m. r) n k) (wrote_all-set_from no_tables (row_writes rows) ws n ordered)

-- they are the only ones in order
pub only-over : (rows others : List Row) (ws : List Write) → is_ordered (row_writes rows) ≡ true → is_ordered (row_writes others) ≡ true →
    AreRowsOf others (wrote_all (tables_with rows) ws) → others ≡ rows_over rows ws
only-over rows others ws ordered first are =
    determined others (rows_over rows ws) (wrote_all (tables_with rows) ws) first (ordered-over rows ws ordered) are (values-over rows ws ordered)

pub nothing-over : (rows : List Row) → rows_over rows [] ≡ rows
nothing-over [] = refl
nothing-over (r ∷ rows) = ap (λ rs. r ∷ rs) (nothing-over rows)

-- writes after writes leave what those after leave of the rows that the first left
pub append-over : (rows : List Row) (ws vs : List Write) → is_ordered (row_writes rows) ≡ true → rows_over rows (ws ++ vs) ≡ rows_over (rows_over rows ws) vs
append-over rows ws vs ordered =
    only-over (rows_over rows ws) (rows_over rows (ws ++ vs)) vs (ordered-over rows ws ordered) (ordered-over rows (ws ++ vs) ordered)
    (λ n k.
    values-over rows (ws ++ vs) ordered n k
    ∙ ap (λ (t : Tables). value_in t n k) (wrote_all-append (tables_with rows) ws vs)
    ∙ value_in-wrote_all (wrote_all (tables_with rows) ws) vs n k
    ∙ ap (value_after (last_write n k vs)) (sym (values-over rows ws ordered n k))
    ∙ sym (value_in-wrote_all (tables_with (rows_over rows ws)) vs n k))

-- ---- writes at their places after rows at a base

base_up_to : (to : ℕ) (ws : List Write) → up_to to (placed_at 0 ws) ≡ placed_at 0 ws
base_up_to to [] = refl
base_up_to to (w ∷ ws) =
    let p : Placed = record { place = 0; write = w } in
    let below : nat_le 0 to ≡ true = grind (arith, nat_tests) in
    ap (λ (b : Bool). cond b (p ∷ up_to to (placed_at 0 ws)) (up_to to (placed_at 0 ws))) below ∙ ap (λ (ps : List Placed). p ∷ ps) (base_up_to to ws)

written-over : (rows : List Row) (ps : List Placed) (to : ℕ) → written_by (up_to to (placed_at 0 (row_writes rows) ++ ps)) ≡ wrote_all (tables_with rows) (writes_up_to to ps)
written-over rows ps to =
    ap written_by
    (filter-append (λ (p : Placed). nat_le p.place to) (placed_at 0 (row_writes rows)) ps ∙ ap (λ (qs : List Placed). qs ++ up_to to ps) (base_up_to to (row_writes rows)))
    ∙ written_after-append no_tables (placed_at 0 (row_writes rows)) (up_to to ps)
    ∙ ap (λ (t : Tables). written_after t (up_to to ps)) (written_by-applied [] 0 (row_writes rows))
    ∙ written_after-writes (tables_with rows) (up_to to ps)

-- rows in order that are those of the writes up to a place
pub rows-behind : (before rows : List Row) (ps : List Placed) (to : ℕ) → is_ordered (row_writes before) ≡ true → is_ordered (row_writes rows) ≡ true →
    AreRowsOf rows (written_by (up_to to (placed_at 0 (row_writes before) ++ ps))) → rows ≡ rows_over before (writes_up_to to ps)
rows-behind before rows ps to first ordered are =
    only-over before rows (writes_up_to to ps) first ordered
    (λ n k. are n k ∙ ap (λ (t : Tables). value_in t n k) (written-over before ps to))

-- ---- rows that a sink took

pub put-alike : {took : List Row → Type 0} {value other : List ℕ → List ℕ → Option (List ℕ)} → ((n k : List ℕ) → value n k ≡ other n k) → HasPut value took → HasPut other took
put-alike alike put = record {
  rows = put.rows;
  taken = put.taken;
  ascending = put.ascending;
  values = λ n k. put.values n k ∙ alike n k;
}

pub put-behind : {took : List Row → Type 0} (before : List Row) (ps : List Placed) (to : ℕ) → is_ordered (row_writes before) ≡ true →
    HasPut (value_in (written_by (up_to to (placed_at 0 (row_writes before) ++ ps)))) took → took (rows_over before (writes_up_to to ps))
put-behind {took} before ps to first put = subst took (rows-behind before put.rows ps to first put.ascending put.values) put.taken

-- where they are all that stand, they are in order, and have the values
pub put-ordered : {value : List ℕ → List ℕ → Option (List ℕ)} {old new : List Row} → old ≡ [] → HasPut value (λ rows. new ≡ old ++ rows) → is_ordered (row_writes new) ≡ true
put-ordered none put = ap (λ rows. is_ordered (row_writes rows)) (put.taken ∙ ap (λ rows. rows ++ put.rows) none) ∙ put.ascending

pub put-values : {value : List ℕ → List ℕ → Option (List ℕ)} {old new : List Row} → old ≡ [] → HasPut value (λ rows. new ≡ old ++ rows) →
    (n k : List ℕ) → value_in (tables_with new) n k ≡ value n k
put-values none put n k = ap (λ rows. value_in (tables_with rows) n k) (put.taken ∙ ap (λ rows. rows ++ put.rows) none) ∙ put.values n k
