use Rattle.std.proofs.Common.{length}
use Rattle.gl_merkle.proofs.tree.+root.Given as goal

abbrev pub decreases-root : goal.decreases-root
decreases-root l = length l.leaves.now
