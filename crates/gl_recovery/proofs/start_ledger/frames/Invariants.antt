use Rattle.std.proofs.Common.{◌≡◌, take}
use Rattle.std.specs.List.{flat_map}
use Rattle.gl_entry.specs.Entry.{frame_bytes}
use Rattle.gl_recovery.proofs.start_ledger.frames.Given as goal

-- the frames of the entries so far
abbrev pub invariant-loop-entry : goal.invariant-loop-entry
invariant-loop-entry l = l.reported.items ≡ flat_map frame_bytes (take l.entry-index l.entries)
