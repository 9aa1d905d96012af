use Rattle.std.proofs.Common.{arith}
use Rattle.gl_recovery.proofs.OldLedgers.{valid_named}
use Rattle.gl_recovery.proofs.old_ledger.next_seqno.Goals as goal

pub returns : goal.returns
returns c = omega (arith, c.ledger_len.ensures.len, valid_named c.args.store.now.ledger c.ledger_len.ensures.valid, c.saturating_add.ensures)
