use Rattle.gl_recovery.proofs.RecoveredOutput.{is_recovered}
use Rattle.gl_recovery.proofs.laws.law_of_recover.Goals as goal

pub returns : goal.returns
returns c = λ state given reported is. is_recovered state.key state.reserved given reported is
