-- The writes of a ledger at their places, what they make of the tables, and the versions of keys
-- and maps.
use Rattle.std.specs.Prelude.{ℕ, ◌<◌, ◌≤◌, List, [], ◌∷◌, Bool, ◌&&◌, map, filter, max, nat_le, if◌then◌else◌}
use Rattle.std.specs.List.{AllByRecursion}
use Rattle.gl_vmaps.specs.Tables.{Tables, no_tables, same_bytes, wrote}
use Rattle.gl_vmaps.specs.declared.write.Write.{Write}

-- A write of the entry at a place. Places count from 1.
pub record Placed : Type 0 where
  pub place : ℕ
  pub write : Write

-- The writes of a set, at the place of its entry.
abbrev pub placed_at : ℕ → List Write → List Placed
placed_at place writes = map (λ (w : Write). record { place = place; write = w }) writes

-- The tables after these writes, one after another.
abbrev pub written_after : Tables → List Placed → Tables
written_after tables [] = tables
written_after tables (p ∷ ps) = written_after (wrote tables p.write) ps

-- What writes make of no tables.
abbrev pub written_by : List Placed → Tables
written_by ps = written_after no_tables ps

-- The write is to this map; and to this row of it.
abbrev pub is_to_map : List ℕ → Write → Bool
is_to_map map w = same_bytes map w.map

abbrev pub is_to_row : List ℕ → List ℕ → Write → Bool
is_to_row map key w = same_bytes map w.map && same_bytes key w.key

-- The greatest place of such a write, 0 where there is none.
abbrev pub greatest_place : (Write → Bool) → List Placed → ℕ
greatest_place is_such [] = 0
greatest_place is_such (p ∷ ps) =
    max (if is_such p.write then p.place else 0) (greatest_place is_such ps)

-- The version of a key is the greatest place whose write set names it, or 0.
abbrev pub version_in : List Placed → List ℕ → List ℕ → ℕ
version_in ps map key = greatest_place (is_to_row map key) ps

-- The version of a map is the greatest version of its keys.
abbrev pub map_version_in : List Placed → List ℕ → ℕ
map_version_in ps map = greatest_place (is_to_map map) ps

-- The writes at or below a place.
abbrev pub up_to : ℕ → List Placed → List Placed
up_to place ps = filter (λ (p : Placed). nat_le p.place place) ps

-- What is written at or below a place.
abbrev pub writes_up_to : ℕ → List Placed → List Write
writes_up_to place ps = map (λ (p : Placed). p.write) (up_to place ps)

-- No write has a place above that of one after it.
abbrev pub AreRising : List Placed → Type 0
AreRising [] = Unit {0}
AreRising (p ∷ ps) = AllByRecursion (λ (later : Placed). p.place ≤ later.place) ps × AreRising ps

-- The place is above those of all these writes.
abbrev pub IsAbove : ℕ → List Placed → Type 0
IsAbove place ps = AllByRecursion (λ (p : Placed). p.place < place) ps
