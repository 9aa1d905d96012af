use Rattle.std.proofs.Common.{length}
use Rattle.gl_system.specs.Outgoing.{Moves}
use Rattle.gl_system.proofs.outgoing.write_out.Given as goal

abbrev pub invariant-loop-to : goal.invariant-loop-to
invariant-loop-to g l = Moves l.initial.waiting.items l.waiting.items
    (g.W.Write.contents l.initial.to) (g.W.Write.contents l.to)

abbrev pub decreases-loop-to : goal.decreases-loop-to
decreases-loop-to g l = length l.waiting.items
