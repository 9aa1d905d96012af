use Rattle.std.proofs.Common.{List, sym, ap, ◌∙◌}
use Rattle.gl_entry.specs.declared.entry.Entry.{Entry}
use Rattle.gl_ledger.specs.Snapshot as snapshots
use Rattle.gl_receipt.specs.Made.{Ledger, view_at}
use Rattle.gl_store_book.specs.BasedLedgers.{body_of}
use Rattle.gl_store_book.proofs.CommittedBooks.{view_held}
use Rattle.gl_store_book.proofs.client_book.CommittedBookCommittedLedger.view_at.Goals as goal

pub returns : goal.returns
returns c = λ l s.
    let b = c.args.self.now.ledger.now in
    let body = body_of b.snapshot in
    view_held body b.entries s.0 s.1 c.args.seqno c.view_at.result
    (λ some. c.view_at.ensures.view body c.tail.ensures.stands some ∙ ap (λ (es : List Entry). snapshots.view_at body es c.args.seqno) c.tail.ensures.entries)
    c.view_at.ensures.zero
    ∙ sym (ap (λ (m : Ledger). view_at m.entries c.args.seqno) s.2)
