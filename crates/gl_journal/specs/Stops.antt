-- What a stop leaves of a file of payloads.
use Rattle.std.specs.Prelude.{◌≡◌, ◌≢◌, ◌⊎◌, ℕ, ◌+◌, ◌^◌, ◌<◌, ◌≤◌, List, ◌∷◌, ◌++◌, length, Result, Err}
use Rattle.gl_base.specs.declared.or_no_memory.OrNoMemory.{OrNoMemory}
use Rattle.gl_base.specs.declared.or_no_memory.OrNoMemory.TheVariants.{Fault}
use Rattle.gl_outside.specs.Disk.{Step, IsImage, LeavesOnly}
use Rattle.gl_outside.specs.Fault.{Rose}
use Rattle.gl_journal.specs.Gates.{batches, FitLengths, payloads_of, with_last}
use Rattle.gl_journal.specs.Parts.{HasGate}
use Rattle.gl_journal.specs.declared.fault.JournalFault.{JournalFault}
use Rattle.gl_journal.specs.declared.fault.JournalFault.TheVariants.{DiskFault}
use Rattle.gl_journal.specs.declared.gated.Gated.{Gated}

-- The file is the header, batches after open gates, and at this place a closed gate; and a stop
-- leaves it so.
pub record IsSettled (header : List ℕ) (place : ℕ) (bytes : List ℕ) (past : List Step)
    : Type 0 where
  pub payloads : List (List ℕ)
  pub gate : ℕ
  pub tail : List ℕ
  pub file : bytes ≡ header ++ batches payloads ++ gate ∷ tail
  pub closed : gate ≢ 1
  pub fit : FitLengths payloads
  pub current : place ≡ length (header ++ batches payloads)
  pub kept : LeavesOnly past bytes

-- Over a disk with these bytes and this history: the file is settled, and the next payload goes
-- after its closed gate.
abbrev pub IsOpen : {D : Type 0} → (D → List ℕ) → (D → List Step) → Gated D → Type 0
IsOpen bytes past gated = IsSettled gated.header gated.place (bytes gated.disk) (past gated.disk)

-- An image has its closed gate, and opens to the payloads of these bytes, or to them and this one.
abbrev pub OpensTo : List ℕ → List ℕ → List ℕ → List ℕ → Type 0
OpensTo header bytes payload image =
    HasGate header image
    × ((payloads_of header image ≡ payloads_of header bytes)
    ⊎ (payloads_of header image ≡ with_last payload (payloads_of header bytes)))

-- An image that a stop might have left before a file was begun, or one with at most the nine bytes
-- of a header and a gate.
abbrev pub IsBegun : List Step → List ℕ → Type 0
IsBegun past image = IsImage past image ⊎ (length image ≤ 9)

-- There is room on the disk for one more payload of so many bytes, whose gate stands at this place.
pub record HasRoom (place size room_end room_calls : ℕ) : Type 0 where
  pub within : place + size + 6 < 2 ^ 64
  pub end : place + size + 6 ≤ room_end
  pub calls : 4 ≤ room_calls

-- The same of a file over a disk with this room.
abbrev pub HasPayloadRoom : {D : Type 0} → (D → ℕ) → (D → ℕ) → Gated D → ℕ → Type 0
HasPayloadRoom room_end room_calls gated size =
    HasRoom gated.place size (room_end gated.disk) (room_calls gated.disk)

-- The disk's fault is answered only where its count rose, and else the count is as it was.
pub record HasCause {T : Type 0} (before now : ℕ) (result : Result T (OrNoMemory JournalFault))
    : Type 0 where
  pub never_falls : before ≤ now
  pub failed : result ≡ Err (Fault DiskFault) → Rose before now
  pub quiet : (result ≡ Err (Fault DiskFault) → ⊥) → now ≡ before
