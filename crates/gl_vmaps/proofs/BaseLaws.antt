-- Tables at a base: their rows have one version each, and what is written up to the base makes no
-- other difference.
use Rattle.std.proofs.Common.{◌≡◌, ℕ, ◌≤◌, ◌<◌, max, nat_lt, Bool, true, false, cond, List, [], ◌∷◌, ◌++◌, Some, refl, sym, ◌∙◌, ap, subst, if◌then◌else◌, length, arith}
use Rattle.std.proofs.Math.Nat.{zero-max}
use Rattle.std.specs.FinMap.{len, empty}
use Rattle.std.specs.List.{AllByRecursion}
use Rattle.std.proofs.lemmas.Bool.Decides.{nat_tests}
use Rattle.std.proofs.lemmas.List.Elements.{filter-append}
use Rattle.std.specs.declared.cmp.Ordering.TheVariants.{Less}
use Rattle.gl_vmaps.specs.Tables.{Tables, no_tables, wrote, value_in, size_of}
use Rattle.gl_vmaps.specs.Versions.{Placed, placed_at, written_after, written_by, is_to_row, greatest_place}
use Rattle.gl_vmaps.specs.Writes.{is_ordered, write_order}
use Rattle.gl_vmaps.specs.Standing.{version, versions_in}
use Rattle.gl_vmaps.specs.Chains.{Maps, rows_in, found_in, with_versions, newest_place}
use Rattle.gl_vmaps.specs.Journal.{IsSettled, pushed, pushed_maps}
use Rattle.gl_vmaps.specs.Rows.{row_write, row_writes, tables_with, above, AreRowsOf, AreUpTo, AreAbove}
use Rattle.gl_vmaps.specs.declared.row.Row.{Row}
use Rattle.gl_vmaps.specs.declared.table.Version.{Version}
use Rattle.gl_vmaps.specs.declared.write.Write.{Write}
use Rattle.gl_vmaps.proofs.TablesLaws.{value_in-wrote, written_after-append, written_by-applied}
use Rattle.gl_vmaps.proofs.StandingLaws.{same_rows}
use Rattle.gl_vmaps.proofs.ChainLaws.{newest-empty}
use Rattle.gl_vmaps.proofs.JournalLaws.{newest_after, rows_in-empty}
use Rattle.gl_vmaps.proofs.VersionLaws.{with_first, versions_in-first}
use Rattle.gl_vmaps.proofs.WriteLaws.{ordered_before, is_ordered-rest, other_row}

-- ---- each row once

none_later : (w : Write) (ys : List Write) (name key : List ℕ) → AllByRecursion (λ (y : Write). write_order w y ≡ Less) ys → is_to_row name key w ≡ true → versions_in (placed_at 0 ys) name key ≡ []
none_later w [] name key before is = refl
none_later w (y ∷ ys) name key before is =
    versions_in-first (record { place = 0; write = y }) (placed_at 0 ys) name key
    ∙ ap (λ b. with_first b (version (record { place = 0; write = y })) (versions_in (placed_at 0 ys) name key)) (other_row name key w y before.0 is)
    ∙ none_later w ys name key before.1 is

-- the rows of an ordered set have one version each, at place 0
pub settled-once : (base : ℕ) (ws : List Write) → is_ordered ws ≡ true → (name key : List ℕ) → IsSettled base (versions_in (placed_at 0 ws) name key)
settled-once base [] ordered name key = tt
settled-once base (w ∷ ws) ordered name key =
    subst (IsSettled base) (sym (versions_in-first (record { place = 0; write = w }) (placed_at 0 ws) name key))
    (go (is_to_row name key w) refl (settled-once base ws (is_ordered-rest w ws ordered) name key))
  where
    go : (b : Bool) → is_to_row name key w ≡ b → IsSettled base (versions_in (placed_at 0 ws) name key) →
        IsSettled base (with_first b (version (record { place = 0; write = w })) (versions_in (placed_at 0 ws) name key))
    go true is rest =
        subst (λ vs. IsSettled base (version (record { place = 0; write = w }) ∷ vs)) (sym (none_later w ws name key (ordered_before w ws ordered) is)) (omega arith)
    go false is rest = rest

-- ---- what was written before makes a difference by the values alone

alike : (t u : Tables) → ((map key : List ℕ) → value_in t map key ≡ value_in u map key) → (ps : List Placed) (map key : List ℕ) →
    value_in (written_after t ps) map key ≡ value_in (written_after u ps) map key
alike t u same [] map key = same map key
alike t u same (p ∷ ps) map key =
    alike (wrote t p.write) (wrote u p.write)
    (λ m k. value_in-wrote t p.write m k ∙ ap (λ v. if is_to_row m k p.write then p.write.value else v) (same m k) ∙ sym (value_in-wrote u p.write m k)) ps map key

pub base-values : (rows : List Row) (qs ps : List Placed) → AreRowsOf rows (written_by qs) → (map key : List ℕ) →
    value_in (written_by (qs ++ ps)) map key ≡ value_in (written_by (placed_at 0 (row_writes rows) ++ ps)) map key
base-values rows qs ps same map key =
    let made : written_by (placed_at 0 (row_writes rows)) ≡ tables_with rows = written_by-applied [] 0 (row_writes rows) in
    ap (λ (t : Tables). value_in t map key) (written_after-append no_tables qs ps)
    ∙ sym (alike (tables_with rows) (written_by qs) same ps map key)
    ∙ ap (λ (t : Tables). value_in (written_after t ps) map key) (sym made)
    ∙ ap (λ (t : Tables). value_in t map key) (sym (written_after-append no_tables (placed_at 0 (row_writes rows)) ps))

pub base-sizes : (rows : List Row) (qs ps : List Placed) → AreRowsOf rows (written_by qs) → (map : List ℕ) →
    size_of (written_by (qs ++ ps)) map ≡ size_of (written_by (placed_at 0 (row_writes rows) ++ ps)) map
base-sizes rows qs ps same map =
    ap len (same_rows (written_by (qs ++ ps) map) (written_by (placed_at 0 (row_writes rows) ++ ps) map) (λ key. base-values rows qs ps same map key))

-- ---- versions

none_above : (base : ℕ) (qs : List Placed) → AreUpTo base qs → above base qs ≡ []
none_above base [] all = refl
none_above base (q ∷ qs) all =
    let h : q.place ≤ base = all.0 in
    let no : nat_lt base q.place ≡ false = grind (arith, nat_tests) in
    ap (λ (b : Bool). cond b (q ∷ above base qs) (above base qs)) no ∙ none_above base qs all.1

all_above : (base : ℕ) (ps : List Placed) → AreAbove base ps → above base ps ≡ ps
all_above base [] all = refl
all_above base (p ∷ ps) all =
    let h : base < p.place = all.0 in
    let yes : nat_lt base p.place ≡ true = grind (arith, nat_tests) in
    ap (λ (b : Bool). cond b (p ∷ above base ps) (above base ps)) yes ∙ ap (λ qs. p ∷ qs) (all_above base ps all.1)

at_zero : (is_such : Write → Bool) (ws : List Write) (ps : List Placed) → greatest_place is_such (placed_at 0 ws ++ ps) ≡ greatest_place is_such ps
at_zero is_such [] ps = refl
at_zero is_such (w ∷ ws) ps = go (is_such w) ∙ at_zero is_such ws ps
  where
    go : (b : Bool) → max (if b then 0 else 0) (greatest_place is_such (placed_at 0 ws ++ ps)) ≡ greatest_place is_such (placed_at 0 ws ++ ps)
    go true = zero-max (greatest_place is_such (placed_at 0 ws ++ ps))
    go false = zero-max (greatest_place is_such (placed_at 0 ws ++ ps))

pub base-versions : (is_such : Write → Bool) (rows : List Row) (base : ℕ) (qs ps : List Placed) → AreUpTo base qs → AreAbove base ps →
    greatest_place is_such (above base (qs ++ ps)) ≡ greatest_place is_such (placed_at 0 (row_writes rows) ++ ps)
base-versions is_such rows base qs ps below over =
    ap (greatest_place is_such)
    (filter-append (λ (p : Placed). nat_lt base p.place) qs ps ∙ ap (λ rs. rs ++ above base ps) (none_above base qs below) ∙ all_above base ps over)
    ∙ sym (at_zero is_such (row_writes rows) ps)

-- ---- rows put in, one after another

no_row : (rows : List Row) → length rows ≡ 0 → rows ≡ []
no_row [] e = refl
no_row (r ∷ rows) e = absurd (omega arith)

pub row-pushed : (old new : Maps) (row : Row) (m k : List ℕ) (v : Version) → m ≡ row.map → k ≡ row.key → v ≡ record { place = 0; value = Some row.value } →
    new ≡ with_versions old m k (found_in old m k ++ v ∷ []) → new ≡ pushed old 0 (row_write row)
row-pushed old new row m k v to_map to_key version is =
    is
    ∙ ap (λ n. with_versions old n k (found_in old n k ++ v ∷ [])) to_map
    ∙ ap (λ n. with_versions old row.map n (found_in old row.map n ++ v ∷ [])) to_key
    ∙ ap (λ w. with_versions old row.map row.key (found_in old row.map row.key ++ w ∷ [])) version

pub rows-step : (all old new : Maps) (row : Row) (rest left : List Row) → pushed_maps old 0 (row_writes rest) ≡ all → rest ≡ row ∷ left → new ≡ pushed old 0 (row_write row) →
    pushed_maps new 0 (row_writes left) ≡ all
rows-step all old new row rest left so_far turn is =
    ap (λ (m : Maps). pushed_maps m 0 (row_writes left)) is ∙ ap (λ rs. pushed_maps old 0 (row_writes rs)) (sym turn) ∙ so_far

pub newest-step : (old new : Maps) (row : Row) → ((n : List ℕ) → newest_place (rows_in old n) ≤ 0) → new ≡ pushed old 0 (row_write row) → (n : List ℕ) → newest_place (rows_in new n) ≤ 0
newest-step old new row below is n = subst (λ (m : Maps). newest_place (rows_in m n) ≤ 0) (sym is) (newest_after old 0 (row_write row) n below)

pub rows-end : (all old : Maps) (rest : List Row) → pushed_maps old 0 (row_writes rest) ≡ all → length rest ≡ 0 → old ≡ all
rows-end all old rest so_far none = sym (ap (λ rs. pushed_maps old 0 (row_writes rs)) (no_row rest none)) ∙ so_far

pub newest-nothing : (n : List ℕ) → newest_place (rows_in empty n) ≤ 0
newest-nothing n = let e : newest_place (rows_in empty n) ≡ 0 = ap newest_place (rows_in-empty n) ∙ newest-empty in omega (arith, e)
