use Rattle.std.proofs.Common.{◌≡◌, take}
use Rattle.std.specs.List.{flat_map}
use Rattle.gl_entry.specs.Entry.{frame_bytes}
use Rattle.ccfg.proofs.schedule_nodes.start.frames_of.Given as goal

-- the frames of the entries so far
abbrev pub invariant-loop-entry : goal.invariant-loop-entry
invariant-loop-entry l = l.bytes.items ≡ flat_map frame_bytes (take l.entry-index l.entries)
