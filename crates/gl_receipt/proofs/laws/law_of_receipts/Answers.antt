use Rattle.gl_receipt.proofs.EvidenceLemmas.{one_transaction}
use Rattle.gl_receipt.proofs.LawLemmas.{same_root}
use Rattle.gl_receipt.proofs.laws.law_of_receipts.Goals as goal

pub returns-clause-one : goal.returns-clause-one
returns-clause-one c = one_transaction

pub returns-clause-bound : goal.returns-clause-bound
returns-clause-bound c = same_root
