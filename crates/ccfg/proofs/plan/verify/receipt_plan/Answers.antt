use Rattle.std.proofs.Common.{refl}
use Rattle.ccfg.proofs.plan.verify.receipt_plan.Goals as goal

pub returns-in-Ok-verify-clause-sound : goal.returns-in-Ok-verify-clause-sound
returns-in-Ok-verify-clause-sound c = (c.in-Ok.receipt, c.in-Ok.ensures, (c.in-Ok-verify.ensures.accepts c.in-Ok-verify.id).0 refl)
