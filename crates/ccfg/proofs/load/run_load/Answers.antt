use Rattle.std.proofs.Common.{◌<◌, arith}
use Rattle.std.proofs.lemmas.Bool.Decides.{nat_tests}
use Rattle.ccfg.specs.ExpectedOutput.{requests_limit}
use Rattle.ccfg.proofs.ExpectedOutputLaws.{refused_load}
use Rattle.ccfg.proofs.load.run_load.Goals as goal

pub returns-then-task-from : goal.returns-then-task-from
returns-then-task-from g c =
    let limit = c.from.ensures in
    let passed = c.if-task-from.true in
    let over : requests_limit < c.args.task.now.count = grind (arith, nat_tests) in
    refused_load _ _ c.args.task.now over c.refuse.ensures
