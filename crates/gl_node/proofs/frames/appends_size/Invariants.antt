use Rattle.std.proofs.Common.{◌≡◌, take}
use Rattle.gl_journal.specs.Parts.{items_of}
use Rattle.gl_node.specs.Frames.{appends_size}
use Rattle.gl_node.proofs.frames.appends_size.Given as goal

abbrev pub invariant-loop-frame : goal.invariant-loop-frame
invariant-loop-frame l = l.size ≡ appends_size (items_of (take l.frame-index l.frames))
