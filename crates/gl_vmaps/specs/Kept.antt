-- What tables keep: for each row of each map its versions, back to the places that can still be cut
-- to.
use Rattle.std.specs.Prelude.{ℕ, List, [], ◌∷◌, Option, None, Some, Bool, is_some, map, max, unwrap_or, refl}
use Rattle.std.specs.Coded.{Coded, code_by, coded×, coded_ℕ, coded_list, coded_option}
use Rattle.std.specs.Cmp.Lexicographic.{slice_cmp}
use Rattle.std.specs.FinMap.{FinMap}
use Rattle.std.specs.FinMap as finite
use Rattle.std.specs.List.{last_or}
use Rattle.std.specs.Option.{option_and_then}
use Rattle.std.specs.Ordering.{nat_cmp}
use Rattle.gl_vmaps.specs.Tables.{Tables, Rows, with_row, size_of}
use Rattle.gl_vmaps.specs.declared.table.Version.{Version}

-- The rows of one map: to each key its versions, oldest first.
abbrev pub Chains : Type 0
Chains = FinMap (slice_cmp nat_cmp) (List Version)

-- What is kept: the base, which is the number of places before the first that is held; the
-- compacted place, below which no cut goes; and to each map's name its rows. A row that stood at
-- the base has a version at place 0.
pub record Kept : Type 0 where
  pub base : ℕ
  pub compacted : ℕ
  pub maps : FinMap (slice_cmp nat_cmp) Chains

-- The rows of a map, none where nothing of it is kept.
abbrev pub chains_of : Kept → List ℕ → Chains
chains_of t map = unwrap_or (finite.get t.maps map) finite.empty

-- The versions of a row, oldest first.
abbrev pub versions_of : Kept → List ℕ → List ℕ → List Version
versions_of t map key = unwrap_or (finite.get (chains_of t map) key) []

-- Of versions the last one's value, if it has one; and its place, or 0 where there is no version.
abbrev pub last_value : List Version → Option (List ℕ)
last_value vs = option_and_then (λ (v : Version). v.value) (last_or None vs)

abbrev pub place_or_zero : Option Version → ℕ
place_or_zero None = 0
place_or_zero (Some v) = v.place

abbrev pub last_place : List Version → ℕ
last_place vs = place_or_zero (last_or None vs)

-- The value of a row, if it has one.
abbrev pub value_of : Kept → List ℕ → List ℕ → Option (List ℕ)
value_of t map key = last_value (versions_of t map key)

-- The map has the row.
abbrev pub has_row : Kept → List ℕ → List ℕ → Bool
has_row t map key = is_some (value_of t map key)

-- The version of a row, 0 where it has none.
abbrev pub version_of : Kept → List ℕ → List ℕ → ℕ
version_of t map key = last_place (versions_of t map key)

-- The version of a map: the greatest version of its rows.
abbrev pub greatest : (List ℕ → ℕ) → List (List ℕ) → ℕ
greatest version [] = 0
greatest version (key ∷ keys) = max (version key) (greatest version keys)

abbrev pub map_version_of : Kept → List ℕ → ℕ
map_version_of t map = greatest (version_of t map) (finite.keys (chains_of t map))

-- The rows of a map as they stand: each key that has a value, with it.
abbrev pub present_rows : List (List ℕ × List Version) → Rows
present_rows [] = finite.empty
present_rows (row ∷ rows) = with_row (present_rows rows) row.0 (last_value row.1)

-- The tables as they stand.
abbrev pub tables_of : Kept → Tables
tables_of t map = present_rows (finite.entries (chains_of t map))

-- The number of keys that the map has.
abbrev pub count_of : Kept → List ℕ → ℕ
count_of t map = size_of (tables_of t) map

-- How these are stored.
abbrev pub version_code : Coded Version
version_code =
    code_by (ℕ × Option (List ℕ)) (coded× coded_ℕ (coded_option (coded_list coded_ℕ)))
    (λ v. (v.place, v.value)) (λ p. record { place = p.0; value = p.1 }) (λ _. refl)

abbrev pub chains_code : Coded Chains
chains_code = finite.code (coded_list coded_ℕ) (coded_list version_code)

abbrev pub kept_code : Coded Kept
kept_code =
    code_by (ℕ × (ℕ × FinMap (slice_cmp nat_cmp) Chains))
    (coded× coded_ℕ (coded× coded_ℕ (finite.code (coded_list coded_ℕ) chains_code)))
    (λ t. (t.base, (t.compacted, t.maps)))
    (λ p. record { base = p.0; compacted = p.1.0; maps = p.1.1 }) (λ _. refl)
