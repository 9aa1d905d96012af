-- Rows as they stand, each with its value: what tables at a base begin with.
use Rattle.std.specs.Prelude.{◌≡◌, ℕ, ◌<◌, ◌≤◌, List, Option, Some, Bool, IsTrue, map, filter, filter_map, option_map, nat_lt}
use Rattle.std.specs.List.{AllByRecursion}
use Rattle.gl_vmaps.specs.Changes.{set_from}
use Rattle.gl_vmaps.specs.Tables.{Tables, no_tables, wrote_all, value_in}
use Rattle.gl_vmaps.specs.Versions.{Placed}
use Rattle.gl_vmaps.specs.Writes.{is_ordered}
use Rattle.gl_vmaps.specs.declared.row.Row.{Row}
use Rattle.gl_vmaps.specs.declared.write.Write.{Write}

-- A row as the write that sets it.
abbrev pub row_write : Row → Write
row_write r = record { map = r.map; key = r.key; value = Some r.value }

abbrev pub row_writes : List Row → List Write
row_writes rows = map row_write rows

-- Strictly ascending by map, then key.
abbrev pub are_ascending : List Row → Bool
are_ascending rows = is_ordered (row_writes rows)

-- The tables that have these rows and no others.
abbrev pub tables_with : List Row → Tables
tables_with rows = wrote_all no_tables (row_writes rows)

-- The tables are those with these rows.
abbrev pub AreRowsOf : List Row → Tables → Type 0
AreRowsOf rows tables =
    (map key : List ℕ) → value_in (tables_with rows) map key ≡ value_in tables map key

-- The rows with these values, in their order, were taken.
pub record HasPut (value : List ℕ → List ℕ → Option (List ℕ)) (took : List Row → Type 0) : Type 0
  where
    pub rows : List Row
    pub taken : took rows
    pub ascending : IsTrue (are_ascending rows)
    pub values : (map key : List ℕ) → value_in (tables_with rows) map key ≡ value map key

-- The row that a write leaves. One that is removed leaves none.
abbrev pub row_left : Write → Option Row
row_left w = option_map (λ value. record { map = w.map; key = w.key; value = value }) w.value

-- The rows that writes leave where these rows stood before, ascending.
abbrev pub rows_over : List Row → List Write → List Row
rows_over rows ws = filter_map row_left (set_from (row_writes rows) ws)

-- The writes above a place; and that all are at or below it, or above it.
abbrev pub above : ℕ → List Placed → List Placed
above base ps = filter (λ (p : Placed). nat_lt base p.place) ps

abbrev pub AreUpTo : ℕ → List Placed → Type 0
AreUpTo base ps = AllByRecursion (λ (p : Placed). p.place ≤ base) ps

abbrev pub AreAbove : ℕ → List Placed → Type 0
AreAbove base ps = AllByRecursion (λ (p : Placed). base < p.place) ps
