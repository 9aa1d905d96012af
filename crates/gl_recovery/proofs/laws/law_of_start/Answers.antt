use Rattle.gl_recovery.proofs.Accepted.{refused_so}
use Rattle.gl_recovery.proofs.RecoveredLedgers.{is_refounded}
use Rattle.gl_recovery.proofs.laws.law_of_start.Goals as goal

pub returns : goal.returns
returns c = record {
  refounded = λ r by leaf bytes ledger fits own form low is. is_refounded r by leaf bytes ledger fits own form low is;
  refusals = λ r ledger why is. refused_so r ledger why is;
}
