-- How the rows of maps are kept: in ordered maps, each row with its versions.
use Rattle.std.specs.Prelude.{ℕ, ◌==◌, List, [], ◌∷◌, Bool, false, ◌&&◌, Vec, length, take, drop, ◌-◌, nat_lt, unwrap_or, if◌then◌else◌}
use Rattle.std.specs.Cmp.Lexicographic.{slice_cmp}
use Rattle.std.specs.FinMap.{FinMap}
use Rattle.std.specs.FinMap as finite
use Rattle.std.specs.Ordering.{nat_cmp}
use Rattle.std.specs.declared.collections.VecDeque.{VecDeque}
use Rattle.std.specs.declared.alloc.Global.{Global}
use Rattle.gl_vmaps.specs.Kept.{Chains, last_place, greatest, present_rows}
use Rattle.gl_vmaps.specs.declared.table.Version.{Version}

-- ---- the rows of one map

-- The versions of a row.
abbrev pub chain_of : Chains → List ℕ → List Version
chain_of chains key = unwrap_or (finite.get chains key) []

-- The greatest version of the rows, 0 where there is none.
abbrev pub newest_place : Chains → ℕ
newest_place chains = greatest (λ key. last_place (chain_of chains key)) (finite.keys chains)

-- The number of rows that have a value.
abbrev pub present : Chains → ℕ
present chains = finite.len (present_rows (finite.entries chains))

-- The rows with one of them given these versions. A row without a version is not kept.
abbrev pub with_chain : Chains → List ℕ → List Version → Chains
with_chain chains key [] = finite.remove chains key
with_chain chains key (v ∷ vs) = finite.insert chains key (v ∷ vs)

-- What an ordered map of rows holds.
abbrev pub chains_by : List (Vec ℕ Global × VecDeque Version Global) → Chains
chains_by [] = finite.empty
chains_by (e ∷ es) = with_chain (chains_by es) e.0.items e.1.items

-- Versions without the first, if another stands after it and it is below a place.
abbrev pub is_first_below : ℕ → List Version → Bool
is_first_below place [] = false
is_first_below place (v ∷ vs) = nat_lt v.place place

abbrev pub trimmed : ℕ → List Version → List Version
trimmed place vs = if nat_lt 1 (length vs) && is_first_below place vs then drop 1 vs else vs

-- ---- the rows of all maps

abbrev pub Maps : Type 0
Maps = FinMap (slice_cmp nat_cmp) Chains

-- The rows of a map, and the versions of one of them.
abbrev pub rows_in : Maps → List ℕ → Chains
rows_in maps name = unwrap_or (finite.get maps name) finite.empty

abbrev pub found_in : Maps → List ℕ → List ℕ → List Version
found_in maps name key = chain_of (rows_in maps name) key

-- Maps with one of them given these rows. A map without a row is not kept.
abbrev pub with_rows : Maps → List ℕ → Chains → Maps
with_rows maps name chains =
    if finite.len chains == 0 then finite.remove maps name else finite.insert maps name chains

-- What an ordered map of maps holds.
abbrev pub maps_by : List (Vec ℕ Global × Chains) → Maps
maps_by [] = finite.empty
maps_by (e ∷ es) = with_rows (maps_by es) e.0.items e.1

-- Maps with one row given these versions.
abbrev pub with_versions : Maps → List ℕ → List ℕ → List Version → Maps
with_versions maps name key vs = with_rows maps name (with_chain (rows_in maps name) key vs)

-- Versions without the last.
abbrev pub without_last : List Version → List Version
without_last vs = take (length vs - 1) vs
