use Rattle.std.proofs.Common.{◌≡◌, Result, Ok, Err, IfOk, IfErr, refl}
use Rattle.gl_answers.specs.Receipts.{receipts_of}
use Rattle.gl_base.specs.Answers.{Answers, Fails}
use Rattle.gl_base.specs.declared.or_no_memory.OrNoMemory.{OrNoMemory}
use Rattle.gl_receipt.specs.Made.{receipt_of}
use Rattle.gl_receipt.specs.declared.components.Receipt.{Receipt}
use Rattle.gl_receipt.specs.declared.make_fault.MakeFault.{MakeFault}
use Rattle.gl_store_book.specs.BasedLedgers.{base_of}
use Rattle.gl_store_book.proofs.client_book.receipt_by.Goals as goal

-- what is made or refused is what is answered
answered : (made : Result Receipt MakeFault) (o : Result Receipt (OrNoMemory MakeFault)) → IfOk o (λ r. made ≡ Ok r) → IfErr o (λ e. Fails e made) → Answers (λ r. r) o made
answered made (Ok r) found fails = found
answered made (Err e) found fails = fails

pub returns : goal.returns
returns c = λ log holds.
    let l = receipts_of (base_of c.args.ledger.now.ledger.now) log c.args.ledger.now.commit in
    answered (receipt_of l c.args.id) c.make.result (c.make.ensures.made l (log, holds, refl)) (c.make.ensures.refused l (log, holds, refl))
