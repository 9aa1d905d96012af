use Rattle.std.proofs.Common.{length}
use Rattle.gl_replication.proofs.holders.+held.Given as goal

abbrev pub decreases-held : goal.decreases-held
decreases-held l = length l.pairs.now
