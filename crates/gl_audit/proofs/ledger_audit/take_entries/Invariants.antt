use Rattle.std.proofs.Common.{◌≡◌, ◌-◌}
use Rattle.gl_base.specs.TxId.{last_seqno}
use Rattle.gl_entry.specs.Stream.{to_read}
use Rattle.gl_audit.proofs.Steps.{IsAt}
use Rattle.gl_audit.proofs.ledger_audit.take_entries.Given as goal

-- what was added is what was read, and none of it breaks a rule
abbrev pub invariant-loop-kept : goal.invariant-loop-kept
invariant-loop-kept g l = record {
  at : IsAt (g.S.Source.left l.fn.source) (to_read l.kept (g.S.Source.left l.source)) l.state;
  quiet : g.S.Source.faults l.source ≡ g.S.Source.faults l.fn.source;
}

abbrev pub decreases-loop-kept : goal.decreases-loop-kept
decreases-loop-kept g l = last_seqno - l.state.end.len
