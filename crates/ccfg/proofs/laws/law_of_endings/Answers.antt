use Rattle.ccfg.proofs.ExpectedOutputLaws.{as_due}
use Rattle.ccfg.proofs.laws.law_of_endings.Goals as goal

pub returns : goal.returns
returns g c r e output exits = as_due r e output exits
