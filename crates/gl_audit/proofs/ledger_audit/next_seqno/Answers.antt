use Rattle.std.proofs.Common.{◌≡◌, length, arith, ap}
use Rattle.gl_snapshot_body.specs.Body.{no_body}
use Rattle.gl_audit.specs.declared.ledger_end.LedgerEnd.{LedgerEnd}
use Rattle.gl_audit.proofs.ledger_audit.next_seqno.Goals as goal

pub returns : goal.returns
returns c = λ ledger k.
    let len : c.end.result.len ≡ length ledger = ap (λ (end : LedgerEnd). end.len) (c.end.ensures no_body ledger k) in
    let named = k.named in
    let most = c.saturating_add.ensures in
    omega (arith, len, named, most)
