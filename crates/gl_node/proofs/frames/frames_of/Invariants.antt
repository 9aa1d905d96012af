use Rattle.std.proofs.Common.{◌≡◌, map, take}
use Rattle.gl_journal.specs.Parts.{items_of}
use Rattle.gl_node.specs.Frames.{frame_if_fits}
use Rattle.gl_node.proofs.frames.frames_of.Given as goal

abbrev pub invariant-loop-entry : goal.invariant-loop-entry
invariant-loop-entry l = items_of l.frames.items ≡ map frame_if_fits (take l.entry-index l.entries)
