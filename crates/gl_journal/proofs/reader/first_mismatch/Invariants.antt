use Rattle.std.proofs.Common.{◌≡◌, drop}
use Rattle.gl_journal.specs.Gates.{mismatch}
use Rattle.gl_journal.proofs.Headers.{further}
use Rattle.gl_journal.proofs.reader.first_mismatch.Given as goal

abbrev pub invariant-loop-i : goal.invariant-loop-i
invariant-loop-i l = mismatch l.header l.bytes ≡ further l.i (mismatch (drop l.i l.header) (drop l.i l.bytes))
