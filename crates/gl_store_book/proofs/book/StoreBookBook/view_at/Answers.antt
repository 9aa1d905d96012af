use Rattle.std.proofs.Common.{◌≡◌, List, ap, ◌∙◌}
use Rattle.gl_rules.specs.Log.{view_at}
use Rattle.gl_entry.specs.declared.entry.Entry.{Entry}
use Rattle.gl_ledger.specs.Snapshot as snapshots
use Rattle.gl_store_book.specs.BasedLedgers.{body_of}
use Rattle.gl_store_book.specs.Stands.{NodeStore}
use Rattle.gl_store_book.proofs.AllLedgers.{reports}
use Rattle.gl_store_book.proofs.BookTold.{entries_shown, tail_shown, view_told}
use Rattle.gl_store_book.proofs.book.StoreBookBook.view_at.Goals as goal

pub returns : goal.returns
returns c =
    let node = c.args.self.now in
    let l = c.self.inside.ledger in
    let t = c.tail.result.now in
    let body = body_of node.ledger.snapshot in
    let same : l ≡ node.ledger = ap (λ (n : NodeStore). n.ledger) c.self.view_is in
    let shown = tail_shown l node.ledger t same c.tail.ensures.entries c.tail.ensures.stands in
    let all = entries_shown l node.ledger t same c.tail.ensures.entries c.tail.ensures.stands in
    reports node (λ b h. c.unwrap_or.result ≡ view_at b h.log c.args.seqno) (λ keys has log spelled holds.
    c.unwrap_or.ensures
    ∙ view_told keys body node.ledger.entries log holds c.args.seqno c.view_at.result
    (λ some. c.view_at.ensures.view body shown some ∙ ap (λ (xs : List Entry). snapshots.view_at body xs c.args.seqno) all) c.view_at.ensures.zero)
