-- The record that a disk in memory keeps: what it held at first, its writes and syncs, the oldest
-- first, and the pieces of all writes, one after the other.
use Rattle.std.specs.Prelude.{◌≡◌, ℕ, ◌+◌, ◌-◌, max, List, [], ◌∷◌, length, slice_range}
use Rattle.gl_outside.specs.Disk.{Step, Kept, Touched, Torn, written}
use Rattle.gl_outside.specs.declared.sure_disk.Call.{Call}
use Rattle.gl_outside.specs.declared.sure_disk.Call.TheVariants.{Wrote, Lost, Synced}

-- What reads give after a call.
abbrev pub done_by : List ℕ → List ℕ → Call → List ℕ
done_by pieces bytes (Wrote at start count) =
    written bytes at (slice_range pieces start (start + count))
done_by pieces bytes (Lost at start count) = bytes
done_by pieces bytes Synced = bytes

-- The step of a call, where reads gave these bytes.
abbrev pub step_of : List ℕ → Call → Step
step_of bytes (Wrote at start count) = Touched at count
step_of bytes (Lost at start count) = Touched at count
step_of bytes Synced = Kept bytes

abbrev pub reads_after : List ℕ → List ℕ → List Call → List ℕ
reads_after pieces bytes [] = bytes
reads_after pieces bytes (call ∷ calls) = reads_after pieces (done_by pieces bytes call) calls

abbrev pub steps_after : List ℕ → List ℕ → List Step → List Call → List Step
steps_after pieces bytes past [] = past
steps_after pieces bytes past (call ∷ calls) =
    steps_after pieces (done_by pieces bytes call) (step_of bytes call ∷ past) calls

-- The steps of the calls on record. What was held at first, a stop leaves.
abbrev pub past_of : List ℕ → List ℕ → List Call → List Step
past_of first pieces calls = steps_after pieces first (Kept first ∷ []) calls

-- By how much a write began past the end of what reads gave.
abbrev pub gap_of : List ℕ → Call → ℕ
gap_of bytes (Wrote at start count) = at - length bytes
gap_of bytes (Lost at start count) = 0
gap_of bytes Synced = 0

abbrev pub gaps_of : List ℕ → List ℕ → List Call → ℕ
gaps_of pieces bytes [] = 0
gaps_of pieces bytes (call ∷ calls) =
    gap_of bytes call + gaps_of pieces (done_by pieces bytes call) calls

-- How far into the pieces the calls reach.
abbrev pub piece_end : Call → ℕ
piece_end (Wrote at start count) = start + count
piece_end (Lost at start count) = start + count
piece_end Synced = 0

abbrev pub pieces_end : List Call → ℕ
pieces_end [] = 0
pieces_end (call ∷ calls) = max (piece_end call) (pieces_end calls)

-- A step may lead from one image to another.
abbrev pub Leads : Step → List ℕ → List ℕ → Type 0
Leads (Kept bytes) old new = new ≡ bytes
Leads (Touched at count) old new = Torn at count old new
