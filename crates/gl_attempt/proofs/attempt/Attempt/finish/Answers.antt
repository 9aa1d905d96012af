use Rattle.gl_attempt.proofs.AttemptLaws.{finish-stands, finish-noted}
use Rattle.gl_attempt.proofs.attempt.Attempt.finish.Goals as goal

pub returns-clause-stands : goal.returns-clause-stands
returns-clause-stands c = λ ps stands.
    finish-stands c.run_if_unchanged.result c.args.self.now c.args.tables.now ps c.args.cuts stands c.run_if_unchanged.ensures.exact

pub returns-clause-noted : goal.returns-clause-noted
returns-clause-noted c = λ ps stands since.
    finish-noted c.run_if_unchanged.result c.args.self.now ps c.args.cuts c.requires.ready since
    (finish-stands c.run_if_unchanged.result c.args.self.now c.args.tables.now ps c.args.cuts stands c.run_if_unchanged.ensures.exact)
