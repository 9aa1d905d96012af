use Rattle.std.proofs.Common.{ap, Err}
use Rattle.ccfg.proofs.output.play_service.Goals as goal

pub returns-in-Err-Failed : goal.returns-in-Err-Failed
returns-in-Err-Failed g c = (c.in-Err-Failed.ensures.failed (ap Err c.in-Err-Failed.field-0-is), c.in-Err-Failed.ensures.prefix)
