-- Tables: to each map's name its rows, from keys to values (CCF documentation, "Key-Value Store").
use Rattle.std.specs.Prelude.{ℕ, List, [], ◌∷◌, Option, None, Some, Bool, true, false, nat_eq, is_some, if◌then◌else◌}
use Rattle.std.specs.Ordering.{nat_cmp}
use Rattle.std.specs.Cmp.Lexicographic.{pointwise, slice_cmp}
use Rattle.std.specs.FinMap.{FinMap}
use Rattle.std.specs.FinMap as rows
use Rattle.gl_vmaps.specs.declared.write.Write.{Write}

-- The rows of one map: to each key that it has its value.
abbrev pub Rows : Type 0
Rows = FinMap (slice_cmp nat_cmp) (List ℕ)

-- To each name the rows of the map with that name. A map of which nothing was written has no row.
abbrev pub Tables : Type 0
Tables = List ℕ → Rows

-- Before the first write no map has a row.
abbrev pub no_tables : Tables
no_tables map = rows.empty

-- The value of a key in a map, if the map has that key.
abbrev pub value_in : Tables → List ℕ → List ℕ → Option (List ℕ)
value_in tables map key = rows.get (tables map) key

-- The map has the key.
abbrev pub has_key : Tables → List ℕ → List ℕ → Bool
has_key tables map key = is_some (value_in tables map key)

-- The number of keys that a map has.
abbrev pub size_of : Tables → List ℕ → ℕ
size_of tables map = rows.len (tables map)

-- The rows with one of them set to a value, or removed.
abbrev pub with_row : Rows → List ℕ → Option (List ℕ) → Rows
with_row t key (Some value) = rows.insert t key value
with_row t key None = rows.remove t key

-- The two are byte for byte the same.
abbrev pub same_bytes : List ℕ → List ℕ → Bool
same_bytes xs ys = pointwise nat_eq xs ys

-- Both are absent, or the same bytes.
abbrev pub same_value : Option (List ℕ) → Option (List ℕ) → Bool
same_value None None = true
same_value None (Some value) = false
same_value (Some one) None = false
same_value (Some one) (Some other) = same_bytes one other

-- The tables after one write: the map that it names has the row set or removed, and all others
-- stay.
abbrev pub wrote : Tables → Write → Tables
wrote tables w map =
    if same_bytes map w.map then with_row (tables map) w.key w.value else tables map

-- The tables after the writes of a set, in order.
abbrev pub wrote_all : Tables → List Write → Tables
wrote_all tables [] = tables
wrote_all tables (w ∷ ws) = wrote_all (wrote tables w) ws
