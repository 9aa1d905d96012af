use Rattle.std.proofs.Common.{◌≡◌, ℕ, ◌+◌, ◌-◌, List, option_map, ap, ap₂, ◌∙◌}
use Rattle.gl_rules.specs.Replication.{greatest_evidence}
use Rattle.gl_entry.specs.declared.entry.Entry.{Entry}
use Rattle.gl_store_book.specs.BasedLedgers.{body_of}
use Rattle.gl_store_book.specs.Stands.{NodeStore}
use Rattle.gl_store_book.proofs.AllLedgers.{book, reports}
use Rattle.gl_store_book.proofs.BookTold.{entries_shown, evidence_told, tail_shown}
use Rattle.gl_store_book.proofs.book.StoreBookBook.evidence_upto.Goals as goal

pub returns : goal.returns
returns c =
    let node = c.args.self.now in
    let l = c.self.inside.ledger in
    let t = c.tail-tail.result.now in
    let body = body_of node.ledger.snapshot in
    let es = node.ledger.entries in
    let same : l ≡ node.ledger = ap (λ (n : NodeStore). n.ledger) c.self.view_is in
    let shown = tail_shown l node.ledger t same c.tail-tail.ensures.entries c.tail-tail.ensures.stands in
    let all = c.entries.ensures.entries ∙ entries_shown l node.ledger t same c.tail-tail.ensures.entries c.tail-tail.ensures.stands in
    reports node (λ b h. c.last_evidence.result ≡ greatest_evidence b h.log h.base c.args.seqno) (λ keys has log spelled holds.
    c.last_evidence.ensures keys
    ∙ ap₂ (λ (m : ℕ) (xs : List Entry). option_map (λ (n : ℕ). m + n) (greatest_evidence (book keys) xs 0 (c.args.seqno - m))) (c.base.ensures.base body shown) all
    ∙ evidence_told keys body es log holds c.args.seqno)
