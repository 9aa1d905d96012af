use Rattle.std.proofs.Common.{◌≡◌, ◌-◌, length}
use Rattle.gl_base.specs.TxId.{last_seqno}
use Rattle.gl_entry.specs.Stream.{to_read}
use Rattle.gl_recovery.proofs.OldLedgers.{IsReadTo}
use Rattle.gl_recovery.proofs.old_ledger.read_ledger.Given as goal

-- the ledger is what was read, and none of it breaks a rule
abbrev pub invariant-loop-entry : goal.invariant-loop-entry
invariant-loop-entry g l = record {
  read : IsReadTo (g.S.Source.left l.fn.source) (to_read l.kept (g.S.Source.left l.source)) l.store.ledger;
  uncommitted : l.store.commit ≡ 0;
  quiet : g.S.Source.faults l.source ≡ g.S.Source.faults l.fn.source;
}

abbrev pub decreases-loop-entry : goal.decreases-loop-entry
decreases-loop-entry g l = last_seqno - length l.store.ledger
