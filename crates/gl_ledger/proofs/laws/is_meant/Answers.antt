use Rattle.gl_ledger.proofs.SignatureMeanings.{signature_means}
use Rattle.gl_ledger.proofs.laws.is_meant.Goals as goal

pub returns : goal.returns
returns c = record {
  signature = λ identity x message signature long bytes signed. signature_means identity x message signature long bytes signed;
}
