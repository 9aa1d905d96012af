use Rattle.std.proofs.Common.{length}
use Rattle.gl_replication.proofs.progress.+index_of.Given as goal

abbrev pub decreases-index_of : goal.decreases-index_of
decreases-index_of l = length l.pairs.now
