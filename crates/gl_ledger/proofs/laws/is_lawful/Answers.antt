use Rattle.gl_ledger.proofs.Lawful.{lawful}
use Rattle.gl_ledger.proofs.Retiring.{retiring}
use Rattle.gl_ledger.proofs.laws.is_lawful.Goals as goal

pub returns : goal.returns
returns c = record {
  lawful = λ layers keys. lawful layers keys;
  retiring = λ layers keys. retiring layers keys;
}
