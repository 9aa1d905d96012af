-- Write sets: what one transaction writes, the last write to each row, in order.
use Rattle.std.specs.Prelude.{ℕ, List, [], ◌∷◌, Option, None, Some, Bool, true, false, ◌&&◌}
use Rattle.std.specs.Cmp.Lexicographic.{slice_cmp}
use Rattle.std.specs.Ordering.{nat_cmp, ordering_then}
use Rattle.std.specs.declared.cmp.Ordering.{Ordering}
use Rattle.std.specs.declared.cmp.Ordering.TheVariants.{Less, Equal, Greater}
use Rattle.gl_vmaps.specs.Name.{is_map_name, is_key, is_value}
use Rattle.gl_vmaps.specs.declared.write.Write.{Write}

-- Rows are ordered by map, then by key, in byte order.
abbrev pub row_order : List ℕ → List ℕ → Write → Ordering
row_order map key w = ordering_then (slice_cmp nat_cmp map w.map) (slice_cmp nat_cmp key w.key)

abbrev pub write_order : Write → Write → Ordering
write_order a b = row_order a.map a.key b

-- The first stands before the second.
abbrev pub is_less : Ordering → Bool
is_less Less = true
is_less Equal = false
is_less Greater = false

-- The row stands before the first of these writes.
abbrev pub stands_before : List ℕ → List ℕ → List Write → Bool
stands_before map key [] = true
stands_before map key (x ∷ xs) = is_less (row_order map key x)

-- Strictly ascending by map, then key: each row is written once.
abbrev pub is_ordered : List Write → Bool
is_ordered [] = true
is_ordered (w ∷ ws) = stands_before w.map w.key ws && is_ordered ws

-- A write put into an ordered set at its first write: before it, in its place where both are to one
-- row, or further on.
abbrev pub put_before : Ordering → Write → Write → List Write → List Write → List Write
put_before Less w x xs rest = w ∷ x ∷ xs
put_before Equal w x xs rest = w ∷ xs
put_before Greater w x xs rest = x ∷ rest

-- A write set with one more write. It holds the last write to each row, in order.
abbrev pub with_write : List Write → Write → List Write
with_write [] w = w ∷ []
with_write (x ∷ xs) w = put_before (write_order w x) w x xs (with_write xs w)

-- A write within the limits of names, keys and values.
abbrev pub is_written_value : Option (List ℕ) → Bool
is_written_value None = true
is_written_value (Some value) = is_value value

abbrev pub is_write : Write → Bool
is_write w = is_map_name w.map && is_key w.key && is_written_value w.value
