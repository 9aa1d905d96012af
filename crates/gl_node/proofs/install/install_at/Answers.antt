use Rattle.std.proofs.Common.{arith}
use Rattle.gl_node.proofs.Offering.{no_entry, stays_idle, stays_without}
use Rattle.gl_node.proofs.install.install_at.Goals as goal

pub pass-requires-clause-stays : goal.pass-requires-clause-stays
pass-requires-clause-stays g c b x n s m offered =
    stays_idle b m n (omega (arith, c.if-ledger_len-gt0.true, c.ledger_len.ensures.value b _ s.ledger))

pub pass-requires-in-NoLaterSignature-clause-stays : goal.pass-requires-in-NoLaterSignature-clause-stays
pass-requires-in-NoLaterSignature-clause-stays g c b x n s m offered =
    stays_without b m n (omega (arith, c.if-ledger_len-gt0.false, c.ledger_len.ensures.value b _ s.ledger)) offered.0

pub begin_from-requires-clause-empty : goal.begin_from-requires-clause-empty
begin_from-requires-clause-empty g c b h stands =
    no_entry h.log (omega (arith, c.if-ledger_len-gt0.false, c.ledger_len.ensures.value b h stands))
