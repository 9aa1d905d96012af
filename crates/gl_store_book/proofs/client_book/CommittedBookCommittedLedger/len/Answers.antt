use Rattle.std.proofs.Common.{length, sym, ap, ◌∙◌}
use Rattle.gl_ledger.specs.NodeKeys.{service_layers}
use Rattle.gl_ledger_base.proofs.LedgersHeld.{held_length}
use Rattle.gl_receipt.specs.Made.{Ledger}
use Rattle.gl_store_book.specs.BasedLedgers.{body_of}
use Rattle.gl_store_book.proofs.client_book.CommittedBookCommittedLedger.len.Goals as goal

pub returns-clause-stands : goal.returns-clause-stands
returns-clause-stands c = λ l s.
    let b = c.args.self.now.ledger.now in
    sym (ap (λ (m : Ledger). length m.entries) s.2 ∙ held_length service_layers (body_of b.snapshot) b.entries s.0 s.1)
