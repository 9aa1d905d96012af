use Rattle.std.proofs.Common.{◌-◌, List, ap, ◌∙◌}
use Rattle.gl_entry.specs.declared.entry.Entry.{Entry}
use Rattle.gl_receipt.specs.Made.{Ledger}
use Rattle.gl_rules.specs.Log.{entry_at}
use Rattle.gl_store_book.specs.BasedLedgers.{body_of}
use Rattle.gl_store_book.proofs.CommittedBooks.{entry_held, entry_within}
use Rattle.gl_store_book.proofs.client_book.CommittedBookCommittedLedger.entry.Goals as goal

pub returns-clause-entry : goal.returns-clause-entry
returns-clause-entry c = λ l s.
    let b = c.args.self.now.ledger.now in
    let body = body_of b.snapshot in
    c.entry.ensures.entry body c.tail.ensures.stands
    ∙ ap (λ (es : List Entry). entry_at es (c.args.seqno - body.base)) c.tail.ensures.entries
    ∙ entry_held body b.entries s.0 s.1 l c.args.seqno (ap (λ (m : Ledger). m.base) s.2) (ap (λ (m : Ledger). m.entries) s.2)

pub returns-clause-within : goal.returns-clause-within
returns-clause-within c =
    let b = c.args.self.now.ledger.now in
    let body = body_of b.snapshot in
    entry_within body b.entries c.args.seqno c.entry.result
    (c.entry.ensures.entry body c.tail.ensures.stands ∙ ap (λ (es : List Entry). entry_at es (c.args.seqno - body.base)) c.tail.ensures.entries)
