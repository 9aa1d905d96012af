use Rattle.std.proofs.Common.{Err, ap}
use Rattle.ccfg.proofs.DealingLemmas.{long_dealings}
use Rattle.ccfg.proofs.plan.deal.read_dealing_plan.Goals as goal

pub returns-in-Err-TooLong-clause-output : goal.returns-in-Err-TooLong-clause-output
returns-in-Err-TooLong-clause-output g c =
    long_dealings c.args.threshold c.args.members.now _ (c.in-Err-TooLong.ensures.long (ap Err c.in-Err-TooLong.field-0-is))
