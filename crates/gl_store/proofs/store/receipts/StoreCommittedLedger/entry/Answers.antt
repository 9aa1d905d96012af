use Rattle.std.proofs.Common.{◌∙◌, sym, ap}
use Rattle.gl_receipt.specs.Made.{Ledger, entry_at}
use Rattle.gl_receipt.proofs.OrderLemmas.{held_whole}
use Rattle.gl_store.proofs.store.receipts.StoreCommittedLedger.entry.Goals as goal

pub returns-clause-entry : goal.returns-clause-entry
returns-clause-entry c = λ l s.
    c.entry.ensures.entry ∙ sym (held_whole l c.args.seqno (ap (λ (m : Ledger). m.base) s) ∙ ap (λ (m : Ledger). entry_at m.entries c.args.seqno) s)
