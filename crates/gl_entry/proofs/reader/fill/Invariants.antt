use Rattle.std.proofs.Common.{◌≡◌, ◌-◌, length}
use Rattle.std.specs.Io.KnownBytes.{Keeps}
use Rattle.gl_entry.specs.Stream.{to_read}
use Rattle.gl_entry.proofs.reader.fill.Given as goal

-- what is still to be read is what it was, and no read failed
abbrev pub invariant-loop-kept : goal.invariant-loop-kept
invariant-loop-kept g l = record {
  kept : Keeps (to_read l.fn.kept (g.S.Source.left l.fn.source)) (to_read l.kept (g.S.Source.left l.source));
  quiet : g.S.Source.faults l.source ≡ g.S.Source.faults l.fn.source;
}

abbrev pub decreases-loop-kept : goal.decreases-loop-kept
decreases-loop-kept g l = 1048584 - length l.kept
