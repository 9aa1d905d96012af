use Rattle.std.proofs.Common.{◌≡◌, ◌≤◌, length}
use Rattle.gl_rules.specs.Replication.{greatest_to_commit}
use Rattle.gl_replication.specs.Stands.{Reports}
use Rattle.gl_replication.proofs.node.Core.greatest_to_commit.Given as goal

abbrev pub invariant-loop-seqno : goal.invariant-loop-seqno
invariant-loop-seqno g l = Reports g.B.Book.stands l.self (λ b x n. (l.seqno ≤ length n.log) × (greatest_to_commit b x n (length n.log) ≡ greatest_to_commit b x n l.seqno))

abbrev pub decreases-loop-seqno : goal.decreases-loop-seqno
decreases-loop-seqno g l = l.seqno
