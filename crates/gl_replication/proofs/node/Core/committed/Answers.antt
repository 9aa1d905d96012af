use Rattle.std.proofs.Common.{rules}
use Rattle.gl_replication.proofs.NodeReadings.{committed_is}
use Rattle.gl_replication.proofs.node.Core.committed.Goals as goal

pub returns : goal.returns
returns g c = λ b x n s.
    committed_is g.B.Book.stands s c.base.result c.saturating_sub-count.result c.entries-entries.result.now (c.base.ensures b _ s.ledger) (search rules) (c.entries-entries.ensures b _ s.ledger)
