use Rattle.std.proofs.Common.{refl, arith, ◌∙◌}
use Rattle.gl_ledger.specs.Tree.{writes_of}
use Rattle.gl_audit.proofs.PastOver.{count_kept}
use Rattle.gl_audit.proofs.Snapshots.{rows_ascending, snapshot_cut}
use Rattle.gl_audit.proofs.ledger_state.LedgerState.snapshot_up_to.Goals as goal

pub peaks-requires-clause-within : goal.peaks-requires-clause-within
peaks-requires-clause-within c =
    let s = c.requires.state in
    let count = count_kept s.0 s.1 c.args.self.now s.2 in
    let within = c.requires.within in
    omega (arith, count, within)

pub returns-clause-body : goal.returns-clause-body
returns-clause-body c = λ before es k ends.
    snapshot_cut before es c.args.self.now _ c.args.to c.args.end k c.requires.from_base c.requires.within ends refl c.view_of.ensures c.greatest_commit.ensures (c.from.ensures ∙ c.in_ok-starts_up_to.ensures)
    (c.from-2.ensures ∙ c.in_ok-peaks.ensures.over) (c.in_ok-rows.ensures.behind before.rows (writes_of es) (rows_ascending before k.read) k.tables_are)
