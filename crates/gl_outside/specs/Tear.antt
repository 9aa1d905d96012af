-- What a stop leaves of writes that it tears in one way.
use Rattle.std.specs.Prelude.{ℕ, ◌+◌, ◌/◌, List, [], ◌∷◌, length, take, replicate, slice_range, nat_le, if◌then◌else◌}
use Rattle.gl_outside.specs.Disk.{written}
use Rattle.gl_outside.specs.Record.{done_by}
use Rattle.gl_outside.specs.declared.sure_disk.Call.{Call}
use Rattle.gl_outside.specs.declared.sure_disk.Call.TheVariants.{Wrote, Lost, Synced}
use Rattle.gl_outside.specs.declared.tear.Tear.{Tear}
use Rattle.gl_outside.specs.declared.tear.Tear.TheVariants.{Old, Whole, Half, Filled}

-- What stands in a piece's range, from its start, where the rest is as it was.
abbrev pub left_of : Tear → List ℕ → List ℕ
left_of Old piece = []
left_of Whole piece = piece
left_of Half piece = take (length piece / 2) piece
left_of (Filled byte) piece = replicate (length piece) byte

-- A torn write does nothing to an image that ends before its place.
abbrev pub torn_write : Tear → List ℕ → ℕ → List ℕ → List ℕ
torn_write tear image at piece =
    if nat_le at (length image) then written image at (left_of tear piece) else image

-- What a call leaves of an image, where reads gave these bytes: a failed write is torn as one that
-- was done, and a sync leaves what reads give.
abbrev pub left_by : List ℕ → Tear → List ℕ → List ℕ → Call → List ℕ
left_by pieces tear bytes image (Wrote at start count) =
    torn_write tear image at (slice_range pieces start (start + count))
left_by pieces tear bytes image (Lost at start count) =
    torn_write tear image at (slice_range pieces start (start + count))
left_by pieces tear bytes image Synced = bytes

abbrev pub left_after : List ℕ → Tear → List ℕ → List ℕ → List Call → List ℕ
left_after pieces tear bytes image [] = image
left_after pieces tear bytes image (call ∷ calls) =
    left_after pieces tear (done_by pieces bytes call) (left_by pieces tear bytes image call) calls
