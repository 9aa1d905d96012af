use Rattle.std.proofs.Common.{sym, ap}
use Rattle.gl_receipt.specs.Made.{Ledger}
use Rattle.gl_store_book.specs.BasedLedgers.{body_of}
use Rattle.gl_store_book.proofs.client_book.CommittedBookCommittedLedger.base.Goals as goal

pub returns-clause-base : goal.returns-clause-base
returns-clause-base c = c.base.ensures.base (body_of c.args.self.now.ledger.now.snapshot) c.tail.ensures.stands

pub returns-clause-stands : goal.returns-clause-stands
returns-clause-stands c = λ l s. sym (ap (λ (m : Ledger). m.base) s.2)
