use Rattle.std.proofs.Common.{[]}
use Rattle.std.proofs.lemmas.Result.{err_from_is_err_and}
use Rattle.gl_tx.specs.Run.{run_from}
use Rattle.gl_tx.proofs.RunLaws.{aborted_next}
use Rattle.gl_tx.proofs.runs.answers_to.Goals as goal

pub returns-in_err-step-clause-aborted : goal.returns-in_err-step-clause-aborted
returns-in_err-step-clause-aborted g c =
    let p = err_from_is_err_and c.from_residual.result c.from_residual.ensures.1 in
    rw (p.1, p.2) (aborted_next c.loop-i.answers.items c.args.operations.now c.index-operations-i.result c.loop-i.i (g.L.Lookup.sees c.loop-i.overlay.base.now) c.loop-i.overlay.writes
    (run_from 1 c.args.operations.now (g.L.Lookup.sees c.args.overlay.now.base.now) []) c.in_err-step.field-0.0 c.loop-i-test.true c.index-operations-i.is c.loop-i.invariant.reported c.in_err-step.ensures.aborted)
