-- What was written and can still be taken back: which rows, in their order.
use Rattle.std.specs.Prelude.{◌≡◌, ℕ, ◌<◌, ◌≤◌, IsTrue, Bool, false, nat_lt, nat_le, List, [], ◌∷◌, ◌++◌, Some}
use Rattle.std.specs.FinMap as finite
use Rattle.std.specs.List.{AllByRecursion}
use Rattle.std.specs.List.Sorted.{IsNonDecreasingBy}
use Rattle.gl_vmaps.specs.Name.{is_map_name, is_key}
use Rattle.gl_vmaps.specs.Kept.{last_place}
use Rattle.gl_vmaps.specs.Chains.{Maps, rows_in, found_in, with_versions, without_last, newest_place, trimmed}
use Rattle.gl_vmaps.specs.declared.table.Version.{Version}
use Rattle.gl_vmaps.specs.declared.journal.Written.{Written}
use Rattle.gl_vmaps.specs.declared.write.Write.{Write}

-- The maps with a write taken back.
abbrev pub popped : Maps → Written → Maps
popped maps w = with_versions maps w.map w.key (without_last (found_in maps w.map w.key))

-- The write made the last version of its row, and what its map's version was before it.
pub record IsLast (maps : Maps) (w : Written) : Type 0 where
  pub place : last_place (found_in maps w.map w.key) ≡ w.place
  pub fresh : last_place (without_last (found_in maps w.map w.key)) < w.place
  pub before : w.before ≡ newest_place (rows_in (popped maps w) w.map)

-- One version at most, at or below the compacted place.
abbrev pub IsSettled : ℕ → List Version → Type 0
IsSettled compacted [] = Unit {0}
IsSettled compacted (v ∷ []) = v.place ≤ compacted
IsSettled compacted (v ∷ w ∷ vs) = ⊥

-- These writes, the last one first, made the versions of the maps: taking them back one by one
-- leaves rows that are settled.
abbrev pub IsJournal : ℕ → Maps → List Written → Type 0
IsJournal compacted maps [] = (name key : List ℕ) → IsSettled compacted (found_in maps name key)
IsJournal compacted maps (w ∷ earlier) =
    IsLast maps w
    × AllByRecursion (λ (e : Written). e.place ≤ w.place) earlier
    × IsJournal compacted (popped maps w) earlier

-- No row is kept without a version.
abbrev pub IsTidy : Maps → Type 0
IsTidy maps = (name key : List ℕ) → finite.get (rows_in maps name) key ≡ Some [] → ⊥

-- Where there are versions of a row, its map's name and its key are within their limits.
abbrev pub IsNamed : List ℕ → List ℕ → List Version → Type 0
IsNamed name key [] = Unit {0}
IsNamed name key (v ∷ vs) = IsTrue (is_map_name name) × IsTrue (is_key key)

-- So are all rows.
abbrev pub AreNamed : Maps → Type 0
AreNamed maps = (name key : List ℕ) → IsNamed name key (found_in maps name key)

-- A row is named so, and the places of its versions do not fall.
pub record IsInOrder (name key : List ℕ) (vs : List Version) : Type 0 where
  pub named : IsNamed name key vs
  pub rising : IsNonDecreasingBy (λ (v : Version). v.place) vs

-- The last write is above a place.
abbrev pub is_last_above : ℕ → List Written → Bool
is_last_above place [] = false
is_last_above place (w ∷ earlier) = nat_lt place w.place

-- The last write can be taken back.
abbrev pub CanPop : Maps → List Written → Type 0
CanPop maps [] = Unit {0}
CanPop maps (w ∷ earlier) = IsLast maps w

abbrev pub popped_last : Maps → List Written → Maps
popped_last maps [] = maps
popped_last maps (w ∷ earlier) = popped maps w

-- The maps and the journal with one more write at a place.
abbrev pub pushed : Maps → ℕ → Write → Maps
pushed maps place w =
    let version : Version = record { place = place; value = w.value } in
    with_versions maps w.map w.key (found_in maps w.map w.key ++ version ∷ [])

abbrev pub written : Maps → ℕ → Write → Written
written maps place w =
    record { place = place; map = w.map; key = w.key; before = newest_place (rows_in maps w.map) }

-- And with those of a set.
abbrev pub pushed_maps : Maps → ℕ → List Write → Maps
pushed_maps maps place [] = maps
pushed_maps maps place (w ∷ ws) = pushed_maps (pushed maps place w) place ws

abbrev pub pushed_journal : Maps → List Written → ℕ → List Write → List Written
pushed_journal maps journal place [] = journal
pushed_journal maps journal place (w ∷ ws) =
    pushed_journal (pushed maps place w) (written maps place w ∷ journal) place ws

-- The place is above the version of each row that is written, in its turn, and not below its map's.
abbrev pub AreFresh : Maps → ℕ → List Write → Type 0
AreFresh maps place [] = Unit {0}
AreFresh maps place (w ∷ ws) =
    (last_place (found_in maps w.map w.key) < place)
    × (newest_place (rows_in maps w.map) ≤ place)
    × AreFresh (pushed maps place w) place ws

-- ---- the first write

-- The first write is at or below a place.
abbrev pub is_first_up_to : ℕ → List Written → Bool
is_first_up_to place [] = false
is_first_up_to place (w ∷ later) = nat_le w.place place

-- The maps where the write can't be taken back any more: its row lets go of what stood before it.
abbrev pub settled : Maps → Written → Maps
settled maps w = with_versions maps w.map w.key (trimmed w.place (found_in maps w.map w.key))

abbrev pub settled_first : Maps → List Written → Maps
settled_first maps [] = maps
settled_first maps (w ∷ later) = settled maps w
