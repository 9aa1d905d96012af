use Rattle.std.proofs.Common.{◌≡◌, ◌↔◌, Ok, Result, subst}
use Rattle.gl_base.specs.declared.tx_id.TxId.{TxId}
use Rattle.gl_receipt.specs.Receipt.{Accepts}
use Rattle.gl_receipt.specs.declared.fault.ReceiptFault.{ReceiptFault}
use Rattle.gl_snapshot.proofs.verdict.check_receipt.Goals as goal

pub returns-in-Ok-clause-accepts : goal.returns-in-Ok-clause-accepts
returns-in-Ok-clause-accepts c id =
    subst (λ (r : Result TxId ReceiptFault). (r ≡ Ok id) ↔ Accepts c.args.identity.now c.args.receipt.now id) c.verify.ensures.exact
    (c.verify.ensures.accepts id)
