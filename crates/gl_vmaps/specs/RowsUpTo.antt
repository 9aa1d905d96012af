-- The rows of a map as they were at a place.
use Rattle.std.specs.Prelude.{ℕ, List, [], ◌∷◌, ◌++◌, Option, None, Some}
use Rattle.gl_vmaps.specs.Kept.{last_value}
use Rattle.gl_vmaps.specs.Standing.{versions_up_to}
use Rattle.gl_vmaps.specs.declared.row.Row.{Row}
use Rattle.gl_vmaps.specs.declared.table.Version.{Version}

-- The row of a key that has a value.
abbrev pub row_with : List ℕ → List ℕ → Option (List ℕ) → List Row
row_with name key None = []
row_with name key (Some value) = record { map = name; key = key; value = value } ∷ []

-- The row with the value that it had at a place, if it had one.
abbrev pub row_up_to : ℕ → List ℕ → List ℕ → List Version → List Row
row_up_to to name key vs = row_with name key (last_value (versions_up_to to vs))

-- Those of all keys of a map.
abbrev pub rows_up_to : ℕ → List ℕ → List (List ℕ × List Version) → List Row
rows_up_to to name [] = []
rows_up_to to name (row ∷ rows) = row_up_to to name row.0 row.1 ++ rows_up_to to name rows
