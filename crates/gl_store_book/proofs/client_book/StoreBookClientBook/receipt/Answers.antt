use Rattle.std.proofs.Common.{ℕ, sym, subst}
use Rattle.gl_answers.specs.Receipts.{receipts_of}
use Rattle.gl_base.specs.Answers.{Answers}
use Rattle.gl_receipt.specs.Made.{receipt_of}
use Rattle.gl_ledger.specs.NodeKeys.{service_layers}
use Rattle.gl_ledger_base.specs.Ledgers.{HoldsLedger}
use Rattle.gl_store_book.specs.BasedLedgers.{body_of}
use Rattle.gl_store_book.specs.Stands.{NodeStore}
use Rattle.gl_store_book.proofs.client_book.StoreBookClientBook.receipt.Goals as goal

pub returns : goal.returns
returns c = λ b h s.
    let here = s.holding in
    subst (λ (base : ℕ). Answers (λ r. r) c.receipt_by.result (receipt_of (receipts_of base h.log c.args.commit) c.args.id)) (sym here.base)
    (subst (λ (n : NodeStore). HoldsLedger service_layers (body_of n.ledger.snapshot) n.ledger.entries h.log → Answers (λ r. r) c.receipt_by.result (receipt_of (receipts_of (body_of n.ledger.snapshot).base h.log c.args.commit) c.args.id)) c.self.view_is
    (λ holds. c.receipt_by.ensures h.log holds) here.holds)
