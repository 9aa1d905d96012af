-- The rows of maps as they were at a place: that they stand in order, and that they have the values
-- of that place.
use Rattle.std.proofs.Common.{◌≡◌, ℕ, zero, suc, ◌<◌, ◌≤◌, ◌-◌, Bool, true, false, ◌&&◌, T, cond, List, [], ◌∷◌, ◌++◌, Option, Some, None, refl, sym, ◌∙◌, ap, subst, if◌then◌else◌, unwrap_or, Vec, take, length, get_or, append_assoc, Bor, arith}
use Rattle.std.specs.Cmp.{tied_itself}
use Rattle.std.specs.Cmp.Lexicographic.{slice_cmp}
use Rattle.std.specs.FinMap.{entries, entries_sorted, get-entries, get-empty, empty, slice_cmp-IsAntisymmetric, nat_cmp-IsAntisymmetric}
use Rattle.std.specs.FinMap.Entries.{find, below_all, is_sorted, same_entries}
use Rattle.std.specs.List.{AllByRecursion, last_or}
use Rattle.std.specs.List.Sorted.{IsStrictlySortedBy, IsNonDecreasingBy, IsPartitionedBy, IsPartitionPoint}
use Rattle.std.specs.Map.{keys_of}
use Rattle.std.specs.Map.Iter.{TakesFirst, deref_pair}
use Rattle.std.specs.Option.{option_or, option_and_then}
use Rattle.std.specs.Ordering.{nat_cmp, is_eq, is_lt, eq_by_cmp, ordering_then}
use Rattle.std.specs.declared.alloc.Global.{Global}
use Rattle.std.specs.declared.cmp.Ordering.{Ordering}
use Rattle.std.specs.declared.cmp.Ordering.TheVariants.{Less, Equal, Greater}
use Rattle.std.specs.declared.collections.VecDeque.{VecDeque}
use Rattle.std.proofs.lemmas.Bool.{and_from}
use Rattle.std.proofs.lemmas.Bool.Decides.{nat_tests}
use Rattle.std.proofs.lemmas.Cmp.{nat_list_cmp_total}
use Rattle.std.proofs.lemmas.List.{append-nil}
use Rattle.std.proofs.lemmas.Map.Iter.{rest_more, rest_all}
use Rattle.std.proofs.lemmas.Map.Text.{is_eq-slice_cmp}
use Rattle.gl_vmaps.specs.Tables.{Tables, no_tables, same_bytes, wrote, wrote_all, value_in}
use Rattle.gl_vmaps.specs.Versions.{is_to_row}
use Rattle.gl_vmaps.specs.Writes.{is_ordered, is_less, stands_before, write_order}
use Rattle.gl_vmaps.specs.Kept.{Chains, last_value}
use Rattle.gl_vmaps.specs.Chains.{chain_of, chains_by, found_in, maps_by}
use Rattle.gl_vmaps.specs.Rows.{row_write, row_writes, tables_with}
use Rattle.gl_vmaps.specs.Standing.{is_up_to, versions_up_to}
use Rattle.gl_vmaps.specs.Journal.{IsInOrder}
use Rattle.gl_vmaps.specs.RowsUpTo.{row_with, row_up_to, rows_up_to}
use Rattle.gl_vmaps.specs.declared.row.Row.{Row}
use Rattle.gl_vmaps.specs.declared.table.Version.{Version}
use Rattle.gl_vmaps.specs.declared.write.Write.{Write}
use Rattle.gl_vmaps.proofs.TablesLaws.{same_bytes-eq, same_bytes-itself, value_in-wrote, value_in-nothing}
use Rattle.gl_vmaps.proofs.ChainLaws.{found, some_versions, items_of, get-chains_by, chain_of-by}
use Rattle.gl_vmaps.proofs.MapLaws.{rows_of, rows_in-by}
use Rattle.gl_vmaps.proofs.CopyLaws.{AreAscending, not_later}
use Rattle.gl_vmaps.proofs.WriteLaws.{ordered_before, is_ordered-rest, other_row}

abbrev bytes_cmp : List ℕ → List ℕ → Ordering
bytes_cmp = slice_cmp nat_cmp

abbrev value_at : ℕ → List Version → Option (List ℕ)
value_at to vs = last_value (versions_up_to to vs)

-- ---- the value of a row among others

-- that of the first that is the row
abbrev pub row_value : List Row → List ℕ → List ℕ → Option (List ℕ)
row_value [] name key = None
row_value (r ∷ rows) name key = if is_to_row name key (row_write r) then Some r.value else row_value rows name key

or_none : (o : Option (List ℕ)) → option_or o None ≡ o
or_none None = refl
or_none (Some v) = refl

row_value-append : (xs ys : List Row) (name key : List ℕ) → row_value (xs ++ ys) name key ≡ option_or (row_value xs name key) (row_value ys name key)
row_value-append [] ys name key = refl
row_value-append (x ∷ xs) ys name key = go (is_to_row name key (row_write x)) (row_value-append xs ys name key)
  where
    go : (b : Bool) → row_value (xs ++ ys) name key ≡ option_or (row_value xs name key) (row_value ys name key) →
        (if b then Some x.value else row_value (xs ++ ys) name key) ≡ option_or (if b then Some x.value else row_value xs name key) (row_value ys name key)
    go true rest = refl
    go false rest = rest

pub no_row_later : (r : Row) (rows : List Row) (name key : List ℕ) → AllByRecursion (λ (y : Write). write_order (row_write r) y ≡ Less) (row_writes rows) →
    is_to_row name key (row_write r) ≡ true → row_value rows name key ≡ None
no_row_later r [] name key before is = refl
no_row_later r (x ∷ rows) name key before is =
    ap (λ (b : Bool). if b then Some x.value else row_value rows name key) (other_row name key (row_write r) (row_write x) before.0 is)
    ∙ no_row_later r rows name key before.1 is

values_after : (rows : List Row) (t : Tables) (name key : List ℕ) → is_ordered (row_writes rows) ≡ true →
    value_in (wrote_all t (row_writes rows)) name key ≡ option_or (row_value rows name key) (value_in t name key)
values_after [] t name key ordered = refl
values_after (r ∷ rows) t name key ordered =
    values_after rows (wrote t (row_write r)) name key (is_ordered-rest (row_write r) (row_writes rows) ordered)
    ∙ ap (option_or (row_value rows name key)) (value_in-wrote t (row_write r) name key)
    ∙ go (is_to_row name key (row_write r)) refl
  where
    go : (b : Bool) → is_to_row name key (row_write r) ≡ b →
        option_or (row_value rows name key) (if b then Some r.value else value_in t name key) ≡ option_or (if b then Some r.value else row_value rows name key) (value_in t name key)
    go true is = ap (λ (o : Option (List ℕ)). option_or o (Some r.value)) (no_row_later r rows name key (ordered_before (row_write r) (row_writes rows) ordered) is)
    go false is = refl

-- the tables with rows that stand in order have of each its value
pub value_in-rows : (rows : List Row) (name key : List ℕ) → is_ordered (row_writes rows) ≡ true → value_in (tables_with rows) name key ≡ row_value rows name key
value_in-rows rows name key ordered =
    values_after rows no_tables name key ordered
    ∙ ap (option_or (row_value rows name key)) (value_in-nothing name key)
    ∙ or_none (row_value rows name key)

-- ---- the rows of one map

with_value : (name key : List ℕ) (value : Option (List ℕ)) (n k : List ℕ) → row_value (row_with name key value) n k ≡ (if same_bytes n name && same_bytes k key then value else None)
with_value name key None n k = nothing (same_bytes n name && same_bytes k key)
  where
    nothing : (b : Bool) → ◌≡◌ {A = Option (List ℕ)} None (if b then None else None)
    nothing true = refl
    nothing false = refl
with_value name key (Some value) n k = refl

rows-other : (to : ℕ) (name : List ℕ) (es : List (List ℕ × List Version)) (n k : List ℕ) → same_bytes n name ≡ false → row_value (rows_up_to to name es) n k ≡ None
rows-other to name [] n k differ = refl
rows-other to name (e ∷ es) n k differ =
    row_value-append (row_up_to to name e.0 e.1) (rows_up_to to name es) n k
    ∙ ap (λ (o : Option (List ℕ)). option_or o (row_value (rows_up_to to name es) n k))
    (with_value name e.0 (value_at to e.1) n k ∙ ap (λ (b : Bool). if b && same_bytes k e.0 then value_at to e.1 else None) differ)
    ∙ rows-other to name es n k differ

of_true : (b : Bool) → b ≡ true → T b
of_true true e = tt
of_true false e = absurd (cc)

both : (a b : Bool) → T a → T b → T (a && b)
both true b p q = q
both false b p q = p

first : (a b : Bool) → T (a && b) → T a
first true b p = tt
first false b p = p

second : (a b : Bool) → T (a && b) → T b
second true b p = p
second false b p = absurd p

less_of : (o : Ordering) → T (is_lt o) → o ≡ Less
less_of Less h = refl
less_of Equal h = absurd h
less_of Greater h = absurd h

not_below : (key : List ℕ) (es : List (List ℕ × List Version)) → T (below_all bytes_cmp key es) → find bytes_cmp key es ≡ None
not_below key [] below = refl
not_below key (e ∷ es) below =
    ap (λ (o : Ordering). cond (is_eq o) (Some e.1) (find bytes_cmp key es)) (less_of (bytes_cmp key e.0) (first _ _ below)) ∙ not_below key es (second _ _ below)

rows-here : (to : ℕ) (name : List ℕ) (es : List (List ℕ × List Version)) (k : List ℕ) → T (is_sorted bytes_cmp es) →
    row_value (rows_up_to to name es) name k ≡ value_at to (unwrap_or (find bytes_cmp k es) [])
rows-here to name [] k sorted = refl
rows-here to name (e ∷ es) k sorted =
    row_value-append (row_up_to to name e.0 e.1) (rows_up_to to name es) name k
    ∙ ap (λ (o : Option (List ℕ)). option_or o (row_value (rows_up_to to name es) name k))
    (with_value name e.0 (value_at to e.1) name k ∙ ap (λ (b : Bool). if b && same_bytes k e.0 then value_at to e.1 else None) (same_bytes-itself name))
    ∙ ap (option_or (if same_bytes k e.0 then value_at to e.1 else None)) (rows-here to name es k (second _ _ sorted))
    ∙ go (same_bytes k e.0) (eq_by_cmp bytes_cmp k e.0) refl (is_eq-slice_cmp k e.0)
  where
    go : (b c : Bool) → same_bytes k e.0 ≡ b → c ≡ same_bytes k e.0 →
        option_or (if b then value_at to e.1 else None) (value_at to (unwrap_or (find bytes_cmp k es) [])) ≡ value_at to (unwrap_or (cond c (Some e.1) (find bytes_cmp k es)) [])
    go true true same is =
        let none : find bytes_cmp k es ≡ None = ap (λ x. find bytes_cmp x es) (same_bytes-eq k e.0 same) ∙ not_below e.0 es (first _ _ sorted) in
        ap (λ (o : Option (List Version)). option_or (value_at to e.1) (value_at to (unwrap_or o []))) none ∙ or_none (value_at to e.1)
    go false false same is = refl
    go true false same is = absurd (cc)
    go false true same is = absurd (cc)

-- ---- the rows of all maps

abbrev pub all_rows : ℕ → List (Vec ℕ Global × Chains) → List Row
all_rows to [] = []
all_rows to (e ∷ es) = rows_up_to to e.0.items (entries e.1) ++ all_rows to es

nothing_at : (to : ℕ) (k : List ℕ) → value_at to (chain_of empty k) ≡ None
nothing_at to k = ap (λ (o : Option (List Version)). value_at to (unwrap_or o [])) (get-empty bytes_cmp k)

all-here : (to : ℕ) (es : List (Vec ℕ Global × Chains)) (n k : List ℕ) → AreAscending es → row_value (all_rows to es) n k ≡ value_at to (chain_of (rows_of (found n es)) k)
unfolding IsStrictlySortedBy
all-here to [] n k ascending = sym (nothing_at to k)
all-here to (e ∷ es) n k ascending =
    row_value-append (rows_up_to to e.0.items (entries e.1)) (all_rows to es) n k
    ∙ ap (option_or (row_value (rows_up_to to e.0.items (entries e.1)) n k)) (all-here to es n k ascending.1)
    ∙ go (same_bytes n e.0.items) (is_eq (bytes_cmp n e.0.items)) refl (is_eq-slice_cmp n e.0.items)
  where
    go : (b c : Bool) → same_bytes n e.0.items ≡ b → c ≡ same_bytes n e.0.items →
        option_or (row_value (rows_up_to to e.0.items (entries e.1)) n k) (value_at to (chain_of (rows_of (found n es)) k)) ≡ value_at to (chain_of (rows_of (cond c (Some e.1) (found n es))) k)
    go true true same is =
        let name : n ≡ e.0.items = same_bytes-eq n e.0.items same in
        let none : found n es ≡ None = ap (λ x. found x es) name ∙ not_later e.0.items es ascending.0 in
        ap (λ (o : Option Chains). option_or (row_value (rows_up_to to e.0.items (entries e.1)) n k) (value_at to (chain_of (rows_of o) k))) none
        ∙ ap (option_or (row_value (rows_up_to to e.0.items (entries e.1)) n k)) (nothing_at to k)
        ∙ or_none (row_value (rows_up_to to e.0.items (entries e.1)) n k)
        ∙ ap (λ x. row_value (rows_up_to to e.0.items (entries e.1)) x k) name
        ∙ rows-here to e.0.items (entries e.1) k (entries_sorted e.1)
        ∙ ap (λ (o : Option (List Version)). value_at to (unwrap_or o [])) (sym (get-entries e.1 k))
    go false false same is = ap (λ (o : Option (List ℕ)). option_or o (value_at to (chain_of (rows_of (found n es)) k))) (rows-other to e.0.items (entries e.1) n k same)
    go true false same is = absurd (cc)
    go false true same is = absurd (cc)

-- ---- their order

before_all : (w : Write) (ws : List Write) → AllByRecursion (λ (y : Write). write_order w y ≡ Less) ws → stands_before w.map w.key ws ≡ true
before_all w [] all = refl
before_all w (y ∷ ys) all = ap is_less all.0

-- the rows are those of maps after this one
abbrev AreAfter : List ℕ → List Row → Type 0
AreAfter name rows = AllByRecursion (λ (r : Row). bytes_cmp name r.map ≡ Less) rows

before_rows : (to : ℕ) (r : Row) (es : List (List ℕ × List Version)) (more : List Row) → T (below_all bytes_cmp r.key es) → AreAfter r.map more →
    AllByRecursion (λ (y : Write). write_order (row_write r) y ≡ Less) (row_writes (rows_up_to to r.map es ++ more))
before_rows to r [] [] below after = tt
before_rows to r [] (m ∷ more) below after = (ap (λ (o : Ordering). ordering_then o (bytes_cmp r.key m.key)) after.0, before_rows to r [] more below after.1)
before_rows to r (e ∷ es) more below after = go (value_at to e.1) (before_rows to r es more (second _ _ below) after)
  where
    go : (o : Option (List ℕ)) → AllByRecursion (λ (y : Write). write_order (row_write r) y ≡ Less) (row_writes (rows_up_to to r.map es ++ more)) →
        AllByRecursion (λ (y : Write). write_order (row_write r) y ≡ Less) (row_writes ((row_with r.map e.0 o ++ rows_up_to to r.map es) ++ more))
    go None rest = rest
    go (Some v) rest = (
      ap (λ (o : Ordering). ordering_then o (bytes_cmp r.key e.0)) (tied_itself nat_list_cmp_total r.map) ∙ less_of (bytes_cmp r.key e.0) (first _ _ below),
      rest,
    )

ordered_rows : (to : ℕ) (name : List ℕ) (es : List (List ℕ × List Version)) (more : List Row) → T (is_sorted bytes_cmp es) → AreAfter name more → is_ordered (row_writes more) ≡ true →
    is_ordered (row_writes (rows_up_to to name es ++ more)) ≡ true
ordered_rows to name [] more sorted after ordered = ordered
ordered_rows to name (e ∷ es) more sorted after ordered = go (value_at to e.1) (ordered_rows to name es more (second _ _ sorted) after ordered)
  where
    go : (o : Option (List ℕ)) → is_ordered (row_writes (rows_up_to to name es ++ more)) ≡ true → is_ordered (row_writes ((row_with name e.0 o ++ rows_up_to to name es) ++ more)) ≡ true
    go None rest = rest
    go (Some v) rest =
        let r : Row = record { map = name; key = e.0; value = v } in
        let ws = row_writes (rows_up_to to name es ++ more) in
        and_from (stands_before name e.0 ws) (is_ordered ws) (before_all (row_write r) ws (before_rows to r es more (first _ _ sorted) after)) rest

after_rows : (to : ℕ) (name other : List ℕ) (es : List (List ℕ × List Version)) (more : List Row) → bytes_cmp name other ≡ Less → AreAfter name more → AreAfter name (rows_up_to to other es ++ more)
after_rows to name other [] more less after = after
after_rows to name other (e ∷ es) more less after = go (value_at to e.1) (after_rows to name other es more less after)
  where
    go : (o : Option (List ℕ)) → AreAfter name (rows_up_to to other es ++ more) → AreAfter name ((row_with other e.0 o ++ rows_up_to to other es) ++ more)
    go None rest = rest
    go (Some v) rest = (less, rest)

after_all : (to : ℕ) (name : List ℕ) (es : List (Vec ℕ Global × Chains)) → AllByRecursion (λ (y : Vec ℕ Global). bytes_cmp name y.items ≡ Less) (keys_of es) → AreAfter name (all_rows to es)
after_all to name [] all = tt
after_all to name (e ∷ es) all = after_rows to name e.0.items (entries e.1) (all_rows to es) all.0 (after_all to name es all.1)

pub all-ordered : (to : ℕ) (es : List (Vec ℕ Global × Chains)) → AreAscending es → is_ordered (row_writes (all_rows to es)) ≡ true
unfolding IsStrictlySortedBy
all-ordered to [] ascending = refl
all-ordered to (e ∷ es) ascending =
    ordered_rows to e.0.items (entries e.1) (all_rows to es) (entries_sorted e.1) (after_all to e.0.items es ascending.0) (all-ordered to es ascending.1)

pub values-all : (to : ℕ) (es : List (Vec ℕ Global × Chains)) → AreAscending es → (name key : List ℕ) →
    value_in (tables_with (all_rows to es)) name key ≡ last_value (versions_up_to to (found_in (maps_by es) name key))
values-all to es ascending name key =
    value_in-rows (all_rows to es) name key (all-ordered to es ascending)
    ∙ all-here to es name key ascending
    ∙ ap (λ (t : Chains). value_at to (chain_of t key)) (sym (rows_in-by es name))

-- ---- a row's value at a place

-- where places do not fall, those up to one stand in front
pub parted : (to : ℕ) (vs : List Version) → IsNonDecreasingBy (λ (v : Version). v.place) vs → IsPartitionedBy (is_up_to to) vs
parted to vs rising i j d le within up =
    let le : (get_or vs i d).place ≤ (get_or vs j d).place = rising i j d (omega arith) within in
    grind (arith, nat_tests, up)

taken : (to : ℕ) (vs : List Version) (i : ℕ) → i ≤ length vs → IsPartitionPoint (λ (v : Version). is_up_to to v ≡ true) (λ (v : Version). is_up_to to v ≡ false) vs i → versions_up_to to vs ≡ take i vs
taken to [] zero le point = refl
taken to [] (suc i) le point = absurd (omega arith)
taken to (v ∷ vs) zero le point =
    ap (λ (b : Bool). cond b (v ∷ versions_up_to to vs) (versions_up_to to vs)) (point.1 0 v (omega arith) (omega arith))
    ∙ taken to vs zero (omega arith) ((λ k d low high. absurd (omega arith)), (λ k d low high. point.1 (suc k) d (omega arith) (omega arith)))
taken to (v ∷ vs) (suc i) le point =
    ap (λ (b : Bool). cond b (v ∷ versions_up_to to vs) (versions_up_to to vs)) (point.0 0 v (omega arith) (omega arith))
    ∙ ap (λ us. v ∷ us) (taken to vs i (omega arith) ((λ k d low high. point.0 (suc k) d (omega arith) (omega arith)), (λ k d low high. point.1 (suc k) d (omega arith) (omega arith))))

last-taken : (o : Option Version) (vs : List Version) (i : ℕ) (d : Version) → i < length vs → last_or o (take (suc i) vs) ≡ Some (get_or vs i d)
last-taken o [] i d within = absurd (omega arith)
last-taken o (v ∷ vs) zero d within = refl
last-taken o (v ∷ vs) (suc i) d within = last-taken (Some v) vs i d (omega arith)

pub value_at-none : (to : ℕ) (vs : List Version) (i : ℕ) → i ≤ length vs → IsPartitionPoint (λ (v : Version). is_up_to to v ≡ true) (λ (v : Version). is_up_to to v ≡ false) vs i → i ≡ 0 →
    None ≡ last_value (versions_up_to to vs)
value_at-none to vs i le point none =
    sym (ap last_value (taken to vs i le point ∙ ap (λ n. take n vs) none ∙ nothing vs))
  where
    nothing : (us : List Version) → take 0 us ≡ []
    nothing [] = refl
    nothing (u ∷ us) = refl

pub value_at-last : (to : ℕ) (vs : List Version) (i : ℕ) (v : Version) → i ≤ length vs → IsPartitionPoint (λ (v : Version). is_up_to to v ≡ true) (λ (v : Version). is_up_to to v ≡ false) vs i → 0 < i →
    v ≡ get_or vs (i - 1) v → v.value ≡ last_value (versions_up_to to vs)
value_at-last to vs i v le point some is =
    let next : i ≡ suc (i - 1) = omega arith in
    ap (λ (x : Version). x.value) is
    ∙ sym (ap last_value (taken to vs i le point ∙ ap (λ n. take n vs) next)
    ∙ ap (option_and_then (λ (x : Version). x.value)) (last-taken None vs (i - 1) v (omega arith)))

-- ---- the rows of a map as its ordered map has them

-- the rows of the keys one after another
abbrev pub chain_rows : ℕ → List ℕ → List (Vec ℕ Global × VecDeque Version Global) → List Row
chain_rows to name [] = []
chain_rows to name (e ∷ es) = row_up_to to name e.0.items e.1.items ++ chain_rows to name es

abbrev put_prefix : List ℕ → List Version → List (List ℕ × List Version) → List (List ℕ × List Version)
put_prefix key [] rest = rest
put_prefix key (v ∷ vs) rest = (key, v ∷ vs) ∷ rest

abbrev pairs : List (Vec ℕ Global × VecDeque Version Global) → List (List ℕ × List Version)
pairs [] = []
pairs (e ∷ es) = put_prefix e.0.items e.1.items (pairs es)

rows-pairs : (to : ℕ) (name : List ℕ) (es : List (Vec ℕ Global × VecDeque Version Global)) → chain_rows to name es ≡ rows_up_to to name (pairs es)
rows-pairs to name [] = refl
rows-pairs to name (e ∷ es) = go e.1.items (rows-pairs to name es)
  where
    go : (vs : List Version) → chain_rows to name es ≡ rows_up_to to name (pairs es) → row_up_to to name e.0.items vs ++ chain_rows to name es ≡ rows_up_to to name (put_prefix e.0.items vs (pairs es))
    go [] rest = rest
    go (v ∷ vs) rest = ap (λ rows. row_up_to to name e.0.items (v ∷ vs) ++ rows) rest

below_pairs : (key : List ℕ) (es : List (Vec ℕ Global × VecDeque Version Global)) → AllByRecursion (λ (y : Vec ℕ Global). bytes_cmp key y.items ≡ Less) (keys_of es) → T (below_all bytes_cmp key (pairs es))
below_pairs key [] all = tt
below_pairs key (e ∷ es) all = go e.1.items (below_pairs key es all.1)
  where
    go : (vs : List Version) → T (below_all bytes_cmp key (pairs es)) → T (below_all bytes_cmp key (put_prefix e.0.items vs (pairs es)))
    go [] rest = rest
    go (v ∷ vs) rest = both _ _ (of_true _ (ap is_lt all.0)) rest

sorted_pairs : (es : List (Vec ℕ Global × VecDeque Version Global)) → AreAscending es → T (is_sorted bytes_cmp (pairs es))
unfolding IsStrictlySortedBy
sorted_pairs [] ascending = tt
sorted_pairs (e ∷ es) ascending = go e.1.items (sorted_pairs es ascending.1)
  where
    go : (vs : List Version) → T (is_sorted bytes_cmp (pairs es)) → T (is_sorted bytes_cmp (put_prefix e.0.items vs (pairs es)))
    go [] rest = rest
    go (v ∷ vs) rest = both _ _ (below_pairs e.0.items es ascending.0) rest

find_pairs : (es : List (Vec ℕ Global × VecDeque Version Global)) (k : List ℕ) → AreAscending es → find bytes_cmp k (pairs es) ≡ some_versions (items_of (found k es))
unfolding IsStrictlySortedBy
find_pairs [] k ascending = refl
find_pairs (e ∷ es) k ascending = go e.1.items refl (same_bytes k e.0.items) (is_eq (bytes_cmp k e.0.items)) refl (is_eq-slice_cmp k e.0.items) (find_pairs es k ascending.1)
  where
    go : (vs : List Version) → e.1.items ≡ vs → (b c : Bool) → same_bytes k e.0.items ≡ b → is_eq (bytes_cmp k e.0.items) ≡ same_bytes k e.0.items →
        find bytes_cmp k (pairs es) ≡ some_versions (items_of (found k es)) →
        find bytes_cmp k (put_prefix e.0.items vs (pairs es)) ≡ some_versions (items_of (cond (is_eq (bytes_cmp k e.0.items)) (Some e.1) (found k es)))
    go [] none true c same is rest =
        let absent : found k es ≡ None = ap (λ x. found x es) (same_bytes-eq k e.0.items same) ∙ not_later e.0.items es ascending.0 in
        rest ∙ ap (λ o. some_versions (items_of o)) absent ∙ sym (ap some_versions none)
        ∙ sym (ap (λ (d : Bool). some_versions (items_of (cond d (Some e.1) (found k es)))) (is ∙ same))
    go [] none false c same is rest = rest ∙ sym (ap (λ (d : Bool). some_versions (items_of (cond d (Some e.1) (found k es)))) (is ∙ same))
    go (v ∷ vs) some true c same is rest =
        ap (λ (d : Bool). cond d (Some (v ∷ vs)) (find bytes_cmp k (pairs es))) (is ∙ same) ∙ sym (ap some_versions some)
        ∙ sym (ap (λ (d : Bool). some_versions (items_of (cond d (Some e.1) (found k es)))) (is ∙ same))
    go (v ∷ vs) some false c same is rest =
        ap (λ (d : Bool). cond d (Some (v ∷ vs)) (find bytes_cmp k (pairs es))) (is ∙ same) ∙ rest
        ∙ sym (ap (λ (d : Bool). some_versions (items_of (cond d (Some e.1) (found k es)))) (is ∙ same))

entries-by : (es : List (Vec ℕ Global × VecDeque Version Global)) → AreAscending es → entries (chains_by es) ≡ pairs es
entries-by es ascending =
    same_entries bytes_cmp nat_list_cmp_total (slice_cmp-IsAntisymmetric nat_cmp-IsAntisymmetric) (entries (chains_by es)) (pairs es) (entries_sorted (chains_by es)) (sorted_pairs es ascending)
    (λ k. sym (get-entries (chains_by es) k) ∙ get-chains_by es k ∙ sym (find_pairs es k ascending))

pub rows-by : (to : ℕ) (name : List ℕ) (es : List (Vec ℕ Global × VecDeque Version Global)) → AreAscending es → chain_rows to name es ≡ rows_up_to to name (entries (chains_by es))
rows-by to name es ascending = rows-pairs to name es ∙ ap (rows_up_to to name) (sym (entries-by es ascending))

-- ---- each row in its turn

-- what holds of all that is found holds of each entry
each_found : {X : Type 0} (P : List ℕ → X → Type 0) (es : List (Vec ℕ Global × X)) → AreAscending es → ((key : List ℕ) (x : X) → found key es ≡ Some x → P key x) →
    AllByRecursion (λ (e : Vec ℕ Global × X). P e.0.items e.1) es
unfolding IsStrictlySortedBy
each_found P [] ascending all = tt
each_found {X} P (e ∷ es) ascending all = (
  all e.0.items e.1 (ap (λ (o : Ordering). cond (is_eq o) (Some e.1) (found e.0.items es)) (tied_itself nat_list_cmp_total e.0.items)),
  each_found P es ascending.1 (λ key x is. all key x (later key x is (same_bytes key e.0.items) refl)),
)
  where
    later : (key : List ℕ) (x : X) → found key es ≡ Some x → (b : Bool) → same_bytes key e.0.items ≡ b → found key (e ∷ es) ≡ Some x
    later key x is true same =
        let absent : found key es ≡ None = ap (λ k. found k es) (same_bytes-eq key e.0.items same) ∙ not_later e.0.items es ascending.0 in
        absurd (cc)
    later key x is false differ = ap (λ (b : Bool). cond b (Some e.1) (found key es)) (is_eq-slice_cmp key e.0.items ∙ differ) ∙ is

abbrev pub AreChainsInOrder : List ℕ → List (Vec ℕ Global × VecDeque Version Global) → Type 0
AreChainsInOrder name es = AllByRecursion (λ (e : Vec ℕ Global × VecDeque Version Global). IsInOrder name e.0.items e.1.items) es

abbrev pub AreMapsInOrder : List (Vec ℕ Global × Chains) → Type 0
AreMapsInOrder es = AllByRecursion (λ (e : Vec ℕ Global × Chains). (key : List ℕ) → IsInOrder e.0.items key (chain_of e.1 key)) es

pub each_chain : (name : List ℕ) (es : List (Vec ℕ Global × VecDeque Version Global)) → AreAscending es → ((key : List ℕ) → IsInOrder name key (chain_of (chains_by es) key)) → AreChainsInOrder name es
each_chain name es ascending all =
    each_found (λ key (chain : VecDeque Version Global). IsInOrder name key chain.items) es ascending
    (λ key chain is. subst (IsInOrder name key) (chain_of-by es key ∙ ap items_of is) (all key))

pub each_map : (es : List (Vec ℕ Global × Chains)) → AreAscending es → ((name key : List ℕ) → IsInOrder name key (found_in (maps_by es) name key)) → AreMapsInOrder es
each_map es ascending all =
    each_found (λ name (chains : Chains). (key : List ℕ) → IsInOrder name key (chain_of chains key)) es ascending
    (λ name chains is key. subst (λ (t : Chains). IsInOrder name key (chain_of t key)) (rows_in-by es name ∙ ap rows_of is) (all name key))

-- ---- a turn of the loops, and their end

pub record ChainsTurn (to : ℕ) (name : List ℕ) (rows all : List Row) (rest : List (Vec ℕ Global × VecDeque Version Global)) : Type 0 where
  pub so_far : rows ++ chain_rows to name rest ≡ all
  pub each : AreChainsInOrder name rest

-- a sink took rows that are up to the turn
pub record TookChains (took : List Row → Type 0) (to : ℕ) (name : List ℕ) (all : List Row) (rest : List (Vec ℕ Global × VecDeque Version Global)) : Type 0 where
  pub rows : List Row
  pub taken : took rows
  pub turn : ChainsTurn to name rows all rest

pub record MapsTurn (to : ℕ) (rows all : List Row) (rest : List (Vec ℕ Global × Chains)) : Type 0 where
  pub so_far : rows ++ all_rows to rest ≡ all
  pub each : AreMapsInOrder rest

pub record TookMaps (took : List Row → Type 0) (to : ℕ) (all : List Row) (rest : List (Vec ℕ Global × Chains)) : Type 0 where
  pub rows : List Row
  pub taken : took rows
  pub turn : MapsTurn to rows all rest

pub chains-begin : (to : ℕ) (name : List ℕ) (rows : List Row) (es rest : List (Vec ℕ Global × VecDeque Version Global)) (t : Chains) →
    rest ≡ es → AreAscending es → chains_by es ≡ t → ((key : List ℕ) → IsInOrder name key (chain_of t key)) → ChainsTurn to name rows (rows ++ rows_up_to to name (entries t)) rest
chains-begin to name rows es rest t begins ascending view all =
    subst (ChainsTurn to name rows (rows ++ rows_up_to to name (entries t))) (sym begins)
    (record {
      so_far = ap (λ rs. rows ++ rs) (rows-by to name es ascending ∙ ap (λ (u : Chains). rows_up_to to name (entries u)) view);
      each = each_chain name es ascending (subst (λ (u : Chains). (key : List ℕ) → IsInOrder name key (chain_of u key)) (sym view) all);
    })

pub chains-first : (to : ℕ) (name : List ℕ) (rows all : List Row) (rest left : List (Vec ℕ Global × VecDeque Version Global)) (r : Option (Bor (Vec ℕ Global) × Bor (VecDeque Version Global))) (key : Bor (Vec ℕ Global)) (chain : Bor (VecDeque Version Global)) (bytes : List ℕ) →
    ChainsTurn to name rows all rest → r ≡ Some (key, chain) → TakesFirst deref_pair rest r left → bytes ≡ key.now.items → IsInOrder name bytes chain.now.items
chains-first to name rows all rest left r key chain bytes turn is takes same =
    let first : rest ≡ (key.now, chain.now) ∷ left = rest_more deref_pair rest left r (key, chain) is takes in
    subst (λ k. IsInOrder name k chain.now.items) (sym same) (subst (AreChainsInOrder name) first turn.each).0

pub chains-turn : (to : ℕ) (name : List ℕ) (rows new all : List Row) (rest left : List (Vec ℕ Global × VecDeque Version Global)) (r : Option (Bor (Vec ℕ Global) × Bor (VecDeque Version Global))) (key : Bor (Vec ℕ Global)) (chain : Bor (VecDeque Version Global)) (bytes : List ℕ) →
    ChainsTurn to name rows all rest → r ≡ Some (key, chain) → TakesFirst deref_pair rest r left → bytes ≡ key.now.items → new ≡ rows ++ row_up_to to name bytes chain.now.items → ChainsTurn to name new all left
chains-turn to name rows new all rest left r key chain bytes turn is takes same added =
    let first : rest ≡ (key.now, chain.now) ∷ left = rest_more deref_pair rest left r (key, chain) is takes in
    record {
      so_far = ap (λ rs. rs ++ chain_rows to name left) (added ∙ ap (λ k. rows ++ row_up_to to name k chain.now.items) same)
          ∙ append_assoc rows (row_up_to to name key.now.items chain.now.items) (chain_rows to name left)
          ∙ sym (ap (λ es. rows ++ chain_rows to name es) first) ∙ turn.so_far;
      each = (subst (AreChainsInOrder name) first turn.each).1;
    }

pub chains-done : (to : ℕ) (name : List ℕ) (rows all : List Row) (rest left : List (Vec ℕ Global × VecDeque Version Global)) (r : Option (Bor (Vec ℕ Global) × Bor (VecDeque Version Global))) →
    ChainsTurn to name rows all rest → r ≡ None → TakesFirst deref_pair rest r left → rows ≡ all
chains-done to name rows all rest left r turn is takes =
    sym (append-nil rows) ∙ sym (ap (λ es. rows ++ chain_rows to name es) (rest_all deref_pair rest left r is takes)) ∙ turn.so_far

pub maps-begin : (to : ℕ) (rows : List Row) (es rest : List (Vec ℕ Global × Chains)) → rest ≡ es → AreAscending es → ((name key : List ℕ) → IsInOrder name key (found_in (maps_by es) name key)) →
    MapsTurn to rows (rows ++ all_rows to es) rest
maps-begin to rows es rest begins ascending all =
    subst (MapsTurn to rows (rows ++ all_rows to es)) (sym begins) (record { so_far = refl; each = each_map es ascending all })

pub maps-first : (to : ℕ) (rows all : List Row) (rest left : List (Vec ℕ Global × Chains)) (r : Option (Bor (Vec ℕ Global) × Bor Chains)) (name : Bor (Vec ℕ Global)) (chains : Bor Chains) (bytes : List ℕ) →
    MapsTurn to rows all rest → r ≡ Some (name, chains) → TakesFirst deref_pair rest r left → bytes ≡ name.now.items → (key : List ℕ) → IsInOrder bytes key (chain_of chains.now key)
maps-first to rows all rest left r name chains bytes turn is takes same key =
    let first : rest ≡ (name.now, chains.now) ∷ left = rest_more deref_pair rest left r (name, chains) is takes in
    subst (λ n. IsInOrder n key (chain_of chains.now key)) (sym same) ((subst AreMapsInOrder first turn.each).0 key)

pub maps-turn : (to : ℕ) (rows new all : List Row) (rest left : List (Vec ℕ Global × Chains)) (r : Option (Bor (Vec ℕ Global) × Bor Chains)) (name : Bor (Vec ℕ Global)) (chains : Bor Chains) (bytes : List ℕ) →
    MapsTurn to rows all rest → r ≡ Some (name, chains) → TakesFirst deref_pair rest r left → bytes ≡ name.now.items → new ≡ rows ++ rows_up_to to bytes (entries chains.now) → MapsTurn to new all left
maps-turn to rows new all rest left r name chains bytes turn is takes same added =
    let first : rest ≡ (name.now, chains.now) ∷ left = rest_more deref_pair rest left r (name, chains) is takes in
    record {
      so_far = ap (λ rs. rs ++ all_rows to left) (added ∙ ap (λ n. rows ++ rows_up_to to n (entries chains.now)) same)
          ∙ append_assoc rows (rows_up_to to name.now.items (entries chains.now)) (all_rows to left)
          ∙ sym (ap (λ es. rows ++ all_rows to es) first) ∙ turn.so_far;
      each = (subst AreMapsInOrder first turn.each).1;
    }

pub maps-done : (to : ℕ) (rows all : List Row) (rest left : List (Vec ℕ Global × Chains)) (r : Option (Bor (Vec ℕ Global) × Bor Chains)) → MapsTurn to rows all rest → r ≡ None → TakesFirst deref_pair rest r left → rows ≡ all
maps-done to rows all rest left r turn is takes =
    sym (append-nil rows) ∙ sym (ap (λ es. rows ++ all_rows to es) (rest_all deref_pair rest left r is takes)) ∙ turn.so_far
