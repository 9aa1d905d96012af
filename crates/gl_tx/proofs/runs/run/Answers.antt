use Rattle.gl_tx.proofs.Writing.{run-stands}
use Rattle.gl_tx.proofs.runs.run.Goals as goal

pub returns-clause-stands : goal.returns-clause-stands
returns-clause-stands c = λ ps stands.
    run-stands c.run_seeing.result c.args.request.now c.args.tables.now ps stands c.run_seeing.ensures.exact
