use Rattle.gl_ledger_base.proofs.LedgersHeld.{held_alike, held_audited, held_back, held_broken, held_governance, held_valid}
use Rattle.gl_ledger_base.proofs.ledgers.law_of_pasts.Goals as goal

pub returns : goal.returns
returns c = record {
  alike = held_alike;
  broken = held_broken;
  audited = λ layers body es ledger holds. (held_audited layers body es ledger holds, held_back layers body es ledger holds);
  valid = held_valid;
  governance = held_governance;
}
