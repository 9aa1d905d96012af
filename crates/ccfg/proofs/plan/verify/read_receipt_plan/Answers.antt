use Rattle.std.proofs.Common.{Err, ap}
use Rattle.ccfg.proofs.ExpectedOutputLaws.{long_receipts}
use Rattle.ccfg.proofs.plan.verify.read_receipt_plan.Goals as goal

pub returns-in-Err-TooLong-clause-output : goal.returns-in-Err-TooLong-clause-output
returns-in-Err-TooLong-clause-output g c = long_receipts c.args.identity.now _ (c.in-Err-TooLong.ensures.long (ap Err c.in-Err-TooLong.field-0-is))
