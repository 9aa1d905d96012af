use Rattle.gl_ledger.specs.NodeKeys.{service_layers}
use Rattle.gl_receipt.specs.Receipt.{root_of}
use Rattle.gl_audit.proofs.Binding.{bound}
use Rattle.gl_audit.proofs.OfService.{valid_of_service}
use Rattle.gl_audit.proofs.UniqueEncodings.{same_roots}
use Rattle.gl_audit.proofs.receipt_laws.law_of_receipts_in_ledgers.Goals as goal

pub returns-clause-bound : goal.returns-clause-bound
returns-clause-bound c = bound service_layers

pub returns-clause-message : goal.returns-clause-message
returns-clause-message c = λ e s r. same_roots (root_of r) s.root r.signed.view r.signed.seqno r.signed.commit e.view e.seqno s.commit

pub returns-clause-service : goal.returns-clause-service
returns-clause-service c = valid_of_service
