-- Which lists of writes tables stand for, and what a write set, a cut and a compaction make of
-- them.
use Rattle.std.specs.Prelude.{◌≡◌, ℕ, List, [], ◌∷◌, ◌++◌, Option, Bool, ◌&&◌, map, filter, max, nat_le, if◌then◌else◌}
use Rattle.std.specs.List.{list_any}
use Rattle.gl_vmaps.specs.Kept.{Kept, versions_of, last_value}
use Rattle.gl_vmaps.specs.Versions.{Placed, placed_at, is_to_row, AreRising}
use Rattle.gl_vmaps.specs.declared.table.Version.{Version}
use Rattle.gl_vmaps.specs.declared.write.Write.{Write}

-- The versions that writes give a row, in their order.
abbrev pub version : Placed → Version
version p = record { place = p.place; value = p.write.value }

abbrev pub versions_in : List Placed → List ℕ → List ℕ → List Version
versions_in ps name key = map version (filter (λ (p : Placed). is_to_row name key p.write) ps)

-- The version is at or below a place.
abbrev pub is_up_to : ℕ → Version → Bool
is_up_to place v = nat_le v.place place

-- The versions at or below a place.
abbrev pub versions_up_to : ℕ → List Version → List Version
versions_up_to place vs = filter (is_up_to place) vs

-- The value that a row had at a place, if it had one: that of its last version at or below it.
abbrev pub value_up_to : Kept → ℕ → List ℕ → List ℕ → Option (List ℕ)
value_up_to t to map key = last_value (versions_up_to to (versions_of t map key))

-- Of the versions at or below a place the last one only, and all above it.
abbrev pub latest_from : ℕ → List Version → List Version
latest_from place [] = []
latest_from place (v ∷ vs) =
    if is_up_to place v && list_any (is_up_to place) vs then latest_from place vs
    else v ∷ latest_from place vs

-- These tables are those of the writes, at every place that can still be cut to.
pub record StandsFor (t : Kept) (ps : List Placed) : Type 0 where
  pub rising : AreRising ps
  pub rows : (map key : List ℕ) →
      latest_from t.compacted (versions_of t map key)
      ≡ latest_from t.compacted (versions_in ps map key)

-- The tables with a write set: each row has its versions, and after them what the set writes to it.
pub record HasApplied (old : Kept) (place : ℕ) (writes : List Write) (new : Kept) : Type 0 where
  pub base : new.base ≡ old.base
  pub compacted : new.compacted ≡ old.compacted
  pub rows : (map key : List ℕ) →
      versions_of new map key
      ≡ versions_of old map key ++ versions_in (placed_at place writes) map key

-- The tables cut to a place: each row has its versions at or below it.
pub record HasCut (old : Kept) (to : ℕ) (new : Kept) : Type 0 where
  pub base : new.base ≡ old.base
  pub compacted : new.compacted ≡ old.compacted
  pub rows : (map key : List ℕ) →
      versions_of new map key ≡ versions_up_to to (versions_of old map key)

-- The tables compacted to a place: each row has its last version at or below it, and those above.
pub record HasCompacted (old : Kept) (to : ℕ) (new : Kept) : Type 0 where
  pub base : new.base ≡ old.base
  pub compacted : new.compacted ≡ max old.compacted to
  pub rows : (map key : List ℕ) → versions_of new map key ≡ latest_from to (versions_of old map key)
