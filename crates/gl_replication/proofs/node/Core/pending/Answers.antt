use Rattle.std.proofs.Common.{◌≤◌, arith}
use Rattle.gl_replication.proofs.NodeReadings.{pending_is}
use Rattle.gl_replication.proofs.node.Core.pending.Goals as goal

pub returns : goal.returns
returns g c = λ b x n s.
    let low : n.base ≤ c.ledger_len-len.result = omega (arith, c.ledger_len-len.ensures.value b _ s.ledger, c.ledger_len-len.ensures.base b _ s.ledger) in
    pending_is g.B.Book.stands s c.ledger_len-len.result c.count_above.result c.configurations.result.now (c.ledger_len-len.ensures.value b _ s.ledger) c.count_above.ensures (c.configurations.ensures.above b _ s.ledger low)
