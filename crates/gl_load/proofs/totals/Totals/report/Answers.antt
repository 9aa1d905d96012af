use Rattle.std.proofs.Common.{◌≡◌, length, ap, arith}
use Rattle.gl_ledger.specs.Tree.{writes_of}
use Rattle.gl_audit.specs.declared.ledger_end.LedgerEnd.{LedgerEnd}
use Rattle.gl_load.proofs.Auditing.{reported}
use Rattle.gl_load.proofs.totals.Totals.report.Goals as goal

pub root-requires-clause-state : goal.root-requires-clause-state
root-requires-clause-state c = (_, c.requires.0, c.requires.1.state)

pub root-requires-clause-some : goal.root-requires-clause-some
root-requires-clause-some c =
    let t = c.args.self.now in
    let len : t.state.end.len ≡ length c.requires.0 = ap (λ (end : LedgerEnd). end.len) c.requires.1.state.ends in
    omega (arith, len, c.requires.2)

pub returns : goal.returns
returns c = λ ledger at.
    reported ledger c.args.self.now _ _ _ _ at (c.end-end.ensures _ ledger at.state) (c.size.ensures.stands (writes_of ledger) (c.tables.ensures _ ledger at.state)) c.id_or_none.ensures
    (c.root.ensures _ ledger at.state)
