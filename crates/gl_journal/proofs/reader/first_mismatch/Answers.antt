use Rattle.std.proofs.Common.{arith}
use Rattle.gl_journal.proofs.Headers.{lacks_byte, other_byte}
use Rattle.gl_journal.proofs.reader.first_mismatch.Goals as goal
use Rattle.gl_journal.proofs.reader.first_mismatch.Goals.{then-i-bytes-via-then-i-bytes, then-i-bytes-via-else-i-bytes+then-bytes-i}

pub returns-then-i-bytes : goal.returns-then-i-bytes
returns-then-i-bytes c = elim c.then-i-bytes.branch [
  | then-i-bytes-via-then-i-bytes w ↦ lacks_byte c.args.header.now c.args.bytes.now c.loop-i.i (omega arith) (omega arith) c.loop-i.invariant
  | then-i-bytes-via-else-i-bytes+then-bytes-i w ↦ other_byte c.args.header.now c.args.bytes.now c.loop-i.i (omega arith) (omega arith) (λ e. omega arith) c.loop-i.invariant
]
