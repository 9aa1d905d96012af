use Rattle.gl_ledger_base.proofs.LedgersMakers.{of_alike, same_accepted, same_entry, same_govern, same_message, same_request, same_sign, same_status}
use Rattle.gl_ledger_base.proofs.makers.law_of_makers.Goals as goal

pub returns : goal.returns
returns c = record {
  requests = λ p q x. same_request p q (of_alike p q x);
  governance = λ p q x. same_govern p q (of_alike p q x);
  accepted = λ p q x. same_accepted p q (of_alike p q x);
  entries = λ p q x view g fits accepted. same_entry p q (of_alike p q x) g fits accepted view;
  statuses = λ p q x. same_status p q (of_alike p q x);
  messages = λ p q x. same_message p q (of_alike p q x);
  signatures = λ p q x. same_sign p q (of_alike p q x);
}
