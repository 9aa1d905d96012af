use Rattle.std.proofs.Common.{length}
use Rattle.gl_replication.proofs.progress.+tried.Given as goal

abbrev pub decreases-tried : goal.decreases-tried
decreases-tried l = length l.pairs.now
