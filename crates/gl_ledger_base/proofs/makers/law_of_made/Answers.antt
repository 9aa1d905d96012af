use Rattle.std.proofs.Common.{ap, Option}
use Rattle.gl_ledger.specs.Past.{Last, is_begun, past_of, past_over}
use Rattle.gl_ledger_base.proofs.LedgersGuarded.{last_told, made_alike, may_make}
use Rattle.gl_ledger_base.proofs.LedgersMakers.{same_accepted, same_entry, same_govern, same_made_evidence, same_message, same_request, same_sign, same_status}
use Rattle.gl_ledger_base.proofs.makers.law_of_made.Goals as goal

pub returns : goal.returns
returns c = record {
  requests = λ layers body es ledger holds valid. same_request (past_over body es) (past_of ledger) (made_alike layers body es ledger holds valid);
  governance = λ layers body es ledger holds valid. same_govern (past_over body es) (past_of ledger) (made_alike layers body es ledger holds valid);
  accepted = λ layers body es ledger holds valid. same_accepted (past_over body es) (past_of ledger) (made_alike layers body es ledger holds valid);
  entries = λ layers body es ledger holds valid view g fits accepted. same_entry (past_over body es) (past_of ledger) (made_alike layers body es ledger holds valid) g fits accepted view;
  statuses = λ layers body es ledger holds valid. same_status (past_over body es) (past_of ledger) (made_alike layers body es ledger holds valid);
  evidence = λ layers body es ledger holds valid. same_made_evidence (past_over body es) (past_of ledger) (made_alike layers body es ledger holds valid);
  messages = λ layers body es ledger holds valid. same_message (past_over body es) (past_of ledger) (made_alike layers body es ledger holds valid);
  signatures = λ layers body es ledger holds valid. same_sign (past_over body es) (past_of ledger) (made_alike layers body es ledger holds valid);
  last = last_told;
  unopened = λ layers body es ledger holds valid. ap (λ (o : Option Last). is_begun o) (last_told layers body es ledger holds valid);
  may_make = may_make;
}
