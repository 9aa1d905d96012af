use Rattle.std.proofs.Common.{length}
use Rattle.gl_vmaps.proofs.journal.+push_writes.Given as goal

abbrev pub decreases-push_writes : goal.decreases-push_writes
decreases-push_writes l = length l.writes.now
