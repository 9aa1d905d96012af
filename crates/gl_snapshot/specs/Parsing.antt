-- A snapshot read from bytes, and the place of the first fault from the left.
use Rattle.std.specs.Prelude.{ℕ, ◌+◌, ◌-◌, ◌^◌, List, Result, Ok, Err, Bool, length, ◌==◌, if◌then◌else◌}
use Rattle.gl_base.specs.Bytes.{same_bytes}
use Rattle.gl_base.specs.Code.{ended, field, unread_of}
use Rattle.gl_base.specs.Cut.{Unread, string_at}
use Rattle.gl_base.specs.Steps.{◌>>=◌}
use Rattle.gl_entry.specs.Parsing.{entry_at}
use Rattle.gl_entry.specs.declared.entry.Entry.{Entry}
use Rattle.gl_entry.specs.declared.fault.EntryFault.{EntryFault}
use Rattle.gl_entry.specs.declared.fault.EntryFault.TheVariants.{Code, Version, Flags, Kind, Size, Writes}
use Rattle.gl_gov_rules.specs.GovernedRows.{governed_rows}
use Rattle.gl_gov_rules.specs.declared.row.GovernedRows.{GovernedRows}
use Rattle.gl_receipt.specs.Form.{receipt_from}
use Rattle.gl_receipt.specs.declared.components.Receipt.{Receipt}
use Rattle.gl_snapshot_body.specs.Body.{row_place, snapshot_limit}
use Rattle.gl_snapshot_body.specs.Parsing.{by_place, place_of, shape_of}
use Rattle.gl_snapshot_body.specs.declared.body.Body.{Body}
use Rattle.gl_snapshot_body.specs.declared.fault.ShapeFault.{ShapeFault}
use Rattle.gl_snapshot.specs.Snapshot.{is_evidence_of, receipt_text}
use Rattle.gl_snapshot.specs.declared.snapshot.Snapshot.{Snapshot}

-- What was read, where a condition on it holds, or else this place.
abbrev pub required : {X : Type 0} → Bool → ℕ → X → Result X ShapeFault
required holds place x = if holds then Ok x else Err (record { at = place })

-- What a reading gives, whose faults are all told at this place.
abbrev pub at_place : {X F : Type 0} → ℕ → Result X F → Result X ShapeFault
at_place place (Ok x) = Ok x
at_place place (Err fault) = Err (record { at = place })

-- The bytes of a part after their length in four bytes, with this limit.
unfoldable pub part_at : ℕ → Unread → Result (List ℕ × Unread) ShapeFault
part_at limit unread = by_place (field (string_at 4 limit unread))

-- The longest that four bytes can tell.
abbrev pub no_limit : ℕ
no_limit = 2 ^ 32 - 1

-- The body

-- A body that begins at a place, where its rows of governance spell. Else the place of the first
-- row that doesn't, or of the body's end where one lacks.
abbrev pub governed_by : ℕ → Body → Result GovernedRows ℕ → Result Body ShapeFault
governed_by at b (Ok g) = Ok b
governed_by at b (Err index) = Err (record { at = row_place at b index })

-- The body in these bytes, of which the first stands at a place, with rows of governance that
-- spell.
unfoldable pub body_of : ℕ → List ℕ → Result Body ShapeFault
body_of at bytes = shape_of at bytes >>= λ b. governed_by at b (governed_rows b.base b.rows)

-- The receipt

-- The receipt of which this is the text, whose length stands at a place: all faults of a text are
-- told there. A text of the same receipt with spaces, or in another order, is none.
unfoldable pub receipt_in_text : ℕ → List ℕ → Result Receipt ShapeFault
receipt_in_text place text = do
  receipt ← at_place place (receipt_from text)
  required (same_bytes text (receipt_text receipt)) place receipt

-- The entry

-- The place of a fault of a frame whose length stands at a place: that of the field that is at
-- fault, and that of the length where none is told.
abbrev pub fault_place : ℕ → EntryFault → ℕ
fault_place place (Code fault) = place_of fault
fault_place place Version = place
fault_place place Flags = place
fault_place place Kind = place
fault_place place (Size size) = place
fault_place place (Writes index) = place

abbrev pub by_frame : {X : Type 0} → ℕ → Result X EntryFault → Result X ShapeFault
by_frame place (Ok x) = Ok x
by_frame place (Err fault) = Err (record { at = fault_place place fault })

-- The evidence of a snapshot with this base, of which these bytes are the frame. Their length
-- stands at a place, at which another entry is told, and the first of them four places further.
unfoldable pub evidence_in : ℕ → ℕ → List ℕ → Result Entry ShapeFault
evidence_in base place bytes = do
  read ← by_frame place (entry_at (place + 4) bytes)
  entry ← required (is_evidence_of base read.0) place read.0
  required (length bytes == read.1) (place + 4 + read.1) entry

-- All of it

-- The three parts, one after the other.
unfoldable pub snapshot_at : Unread → Result (Snapshot × Unread) ShapeFault
snapshot_at unread = do
  raw ← part_at snapshot_limit unread
  body ← body_of (unread.at + 4) raw.0
  text ← part_at no_limit raw.1
  receipt ← receipt_in_text raw.1.at text.0
  frame ← part_at no_limit text.1
  entry ← evidence_in body.base text.1.at frame.0
  Ok (record { body = body; receipt = receipt; entry = entry }, frame.1)

-- The snapshot that is all of the bytes, or the place of the first fault.
abbrev pub decoded : List ℕ → Result Snapshot ShapeFault
decoded bytes = snapshot_at (unread_of bytes) >>= λ read. by_place (ended read)
