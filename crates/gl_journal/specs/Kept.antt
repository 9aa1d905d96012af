-- A journal whose file is kept, and its room.
use Rattle.std.specs.Prelude.{◌≡◌, ℕ, ◌+◌, ◌≤◌, List, vec_capacity}
use Rattle.gl_outside.specs.Disk.{LeavesOnly, Step}
use Rattle.gl_journal.specs.Parts.{HasGate}
use Rattle.gl_journal.specs.Stops.{IsOpen, HasPayloadRoom}
use Rattle.gl_journal.specs.Durable.{journal_header}
use Rattle.gl_journal.specs.declared.journal.Journal.{Journal}

-- Over a disk with these bytes and this history: the file is a settled journal, and the next batch
-- goes after its closed gate.
pub record IsKept {D : Type 0} (bytes : D → List ℕ) (past : D → List Step) (journal : Journal D)
    : Type 0 where
  pub header : journal.gated.header ≡ journal_header
  pub settled : IsOpen bytes past journal.gated

-- The bytes have their closed gate, and a stop leaves them and no others.
pub record IsAtRest (bytes : List ℕ) (past : List Step) : Type 0 where
  pub gate : HasGate journal_header bytes
  pub only : LeavesOnly past bytes

-- There is memory for a batch of so many bytes, with its length and a gate, over a disk with this
-- room.
pub record HasBatchRoom {D : Type 0} (room_end room_calls : D → ℕ) (journal : Journal D) (size : ℕ)
    : Type 0 where
  pub buffer : size + 5 ≤ vec_capacity journal.buffer
  pub disk : HasPayloadRoom room_end room_calls journal.gated size
