use Rattle.gl_system.proofs.Moving.{moves_more}
use Rattle.gl_system.proofs.outgoing.write_out.Goals as goal

pub loop-to-preserved : goal.loop-to-preserved
loop-to-preserved g c =
    rw c.advance.ensures.items (moves_more c.in_ok-count.count c.loop-to.invariant
    (rw c.as_slice.ensures at c.in_ok-count.ensures.bytes))
