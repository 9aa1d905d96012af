use Rattle.gl_ledger.proofs.Governed.{governed}
use Rattle.gl_ledger.proofs.laws.is_governed.Goals as goal

pub returns : goal.returns
returns c = record { governed = λ layers ledger sound. governed layers ledger sound }
