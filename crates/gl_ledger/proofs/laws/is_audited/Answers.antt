use Rattle.std.proofs.Common.{ap}
use Rattle.gl_ledger.specs.LedgerBook.{by_rule}
use Rattle.gl_ledger.proofs.Lawful.{unbroken}
use Rattle.gl_ledger.proofs.Commits.{commits_kept}
use Rattle.gl_ledger.proofs.Auditing.{audited_none, audited_some, audited_all}
use Rattle.gl_ledger.proofs.Valid.{valid_sound}
use Rattle.gl_ledger.proofs.laws.is_audited.Goals as goal

pub returns : goal.returns
returns c = record {
  valid = λ layers keys ledger. (λ h i e at. ap by_rule (audited_none layers ledger h i e at), λ each. audited_all layers ledger (λ i e at. unbroken layers keys _ e (each i e at)));
  fault = λ layers ledger fault h. audited_some layers ledger fault h;
  sound = λ layers ledger h. valid_sound layers ledger h;
  commits = λ layers keys ledger h. (commits_kept layers keys ledger (λ i e at. ap by_rule (audited_none layers ledger h i e at))).greatest;
}
