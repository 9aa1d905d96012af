use Rattle.std.proofs.Common.{length}
use Rattle.gl_replication.proofs.node.Core.+matching_prefix_len.Given as goal

abbrev pub decreases-matching_prefix_len : goal.decreases-matching_prefix_len
decreases-matching_prefix_len g l = length l.entries.now
