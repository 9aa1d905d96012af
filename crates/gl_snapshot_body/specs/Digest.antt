-- The digest of a body's bytes, and what is said of the rows that tables leave.
use Rattle.std.specs.Prelude.{◌≡◌, ℕ, ◌+◌, List, ◌++◌, Result, Ok, Err, IsTrue, nat_lt, length, if◌then◌else◌}
use Rattle.std.specs.List.{flat_map}
use Rattle.sha2.specs.Hashers.{Holds256}
use Rattle.sha2.specs.Sha256.{sha256}
use Rattle.sha2.specs.declared.Sha256.{Sha256}
use Rattle.gl_vmaps.specs.Kept.{Kept}
use Rattle.gl_vmaps.specs.Rows.{row_writes, are_ascending, rows_over}
use Rattle.gl_vmaps.specs.Standing.{StandsFor}
use Rattle.gl_vmaps.specs.Versions.{Placed, placed_at, writes_up_to}
use Rattle.gl_vmaps.specs.declared.row.Row.{Row}
use Rattle.gl_snapshot_body.specs.Body.{row_bytes, snapshot_limit}

-- The digest of a snapshot with these bytes; or how many they are, where no snapshot has so many.
abbrev pub digest_within : List ℕ → Result (List ℕ) ℕ
digest_within bytes =
    if nat_lt snapshot_limit (length bytes) then Err (length bytes) else Ok (sha256 bytes)

-- This holds of the rows of tables at a place: of what the writes up to it leave of the rows before
-- them, whichever rows and writes the tables stand for.
abbrev pub ForRows : Kept → ℕ → (List Row → Type 0) → Type 0
ForRows tables to holds =
    (before : List Row) (ps : List Placed) → IsTrue (are_ascending before) →
    StandsFor tables (placed_at 0 (row_writes before) ++ ps) →
    holds (rows_over before (writes_up_to to ps))

-- The first counts, of rows and of their bytes, grew by those of these rows to the second.
abbrev pub Counted : ℕ × ℕ → List Row → ℕ × ℕ → Type 0
Counted old rows new =
    (new.0 ≡ old.0 + length rows) × (new.1 ≡ old.1 + length (flat_map row_bytes rows))

-- The hasher was fed with these bytes after what it held.
abbrev pub Feeds : Sha256 → Sha256 → List ℕ → Type 0
Feeds old new bytes = (message : List ℕ) → Holds256 old message → Holds256 new (message ++ bytes)
