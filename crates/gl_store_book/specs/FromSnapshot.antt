-- A node's file that begins from a snapshot that comes from outside, and which bytes from outside
-- are one.
use Rattle.std.specs.Prelude.{◌≡◌, ◌≤◌, ℕ, List, [], Option, None, Some, Result, Ok, Err, ◌==◌, is_ok, length, if◌then◌else◌}
use Rattle.gl_base.specs.Steps.{◌>>=◌}
use Rattle.gl_entry.specs.Parsing.{first_entry}
use Rattle.gl_gov_rules.specs.GovernedRows.{governed_rows}
use Rattle.gl_gov_rules.specs.declared.row.GovernedRows.{GovernedRows}
use Rattle.gl_gov_rules.specs.declared.row.ServiceRow.{ServiceRow}
use Rattle.gl_journal.specs.Durable.{Durable, raised}
use Rattle.gl_ledger.specs.Behind.{IsBaseBody}
use Rattle.gl_snapshot.specs.Parsing.{decoded}
use Rattle.gl_snapshot.specs.Verdict.{verified}
use Rattle.gl_snapshot.specs.declared.fault.SnapshotFault.{SnapshotFault}
use Rattle.gl_snapshot.specs.declared.fault.SnapshotFault.TheVariants.{Shape}
use Rattle.gl_snapshot.specs.declared.snapshot.Snapshot.{Snapshot}
use Rattle.gl_snapshot_body.specs.Body.{body_bytes, snapshot_limit}
use Rattle.gl_snapshot_body.specs.declared.body.Body.{Body}
use Rattle.gl_snapshot_body.specs.declared.fault.ShapeFault.{ShapeFault}
use Rattle.gl_store_book.specs.Frames.{frames_of, snapshot_in}
use Rattle.gl_store_book.specs.declared.node_file.from_snapshot.Behind.{Behind}
use Rattle.gl_store_book.specs.declared.node_file.from_snapshot.SourceKind.{SourceKind}
use Rattle.gl_store_book.specs.declared.node_file.from_snapshot.SourceKind.TheVariants as kinds

-- ---- a snapshot that its own rows of governance vouch for

abbrev pub identity_of_row : Option ServiceRow → List ℕ
identity_of_row None = []
identity_of_row (Some service) = service.identity

abbrev pub identity_of_rows : Result GovernedRows ℕ → List ℕ
identity_of_rows (Ok g) = identity_of_row g.service
identity_of_rows (Err index) = []

-- The key of the service in the rows of governance of a body, where they spell.
abbrev pub identity_in : Body → List ℕ
identity_in b = identity_of_rows (governed_rows b.base b.rows)

-- What bytes are read as, whose fault is one of a snapshot's form.
abbrev pub by_shape : {X : Type 0} → Result X ShapeFault → Result X SnapshotFault
by_shape (Ok x) = Ok x
by_shape (Err fault) = Err (Shape fault.at)

-- The snapshot that is all of the bytes, verified under the key of the service in its own rows of
-- governance. Else the first thing that is wrong.
unfoldable pub verified_snapshot : List ℕ → Result Snapshot SnapshotFault
verified_snapshot bytes = do
  s ← by_shape (decoded bytes)
  id ← verified (identity_in s.body) s
  Ok s

-- ---- the file then

-- What a file without a ledger holds with the body of a snapshot: its view is no earlier one than
-- the body's.
abbrev pub installed_state : Body → Durable → Durable
installed_state body d =
    record (raised body.view d) { base = body.base; snapshot = Some (body_bytes body) }

-- ---- what is made ready before the file keeps it

-- What the record of a snapshot with this body tells, the bytes of the body, and a ledger of no
-- entries behind it.
pub record IsBehind (body : Body) (b : Behind) : Type 0 where
  pub at : b.at ≡ record { base = body.base; view = body.view }
  pub bytes : b.body.items ≡ body_bytes body
  pub frames : frames_of b.log.ledger ≡ []
  pub snapshot : snapshot_in b.log.ledger ≡ Some (body_bytes body)

-- The same of the snapshot that is all of these bytes.
pub record IsReadBehind (bytes : List ℕ) (b : Behind) : Type 0 where
  pub snapshot : Snapshot
  pub verified : verified_snapshot bytes ≡ Ok snapshot
  pub read : IsBaseBody snapshot.body
  pub within : length (body_bytes snapshot.body) ≤ snapshot_limit
  pub behind : IsBehind snapshot.body b

-- ---- bytes from outside

-- There are none; or a frame that reads stands first, as in a ledger; or else they can be a
-- snapshot alone.
abbrev pub source_of : List ℕ → SourceKind
source_of bytes =
    if length bytes == 0 then kinds.Nothing
    else (if is_ok (first_entry bytes) then kinds.Ledger else kinds.Snapshot)
