use Rattle.std.proofs.Common.{◌≡◌, ◌≤◌, ◌-◌, ℕ, List, drop, ap, ap₂, ◌∙◌}
use Rattle.gl_rules.specs.Replication.{batch}
use Rattle.gl_entry.specs.declared.entry.Entry.{Entry}
use Rattle.gl_replication.proofs.Rows.{if_ok}
use Rattle.gl_store_book.specs.BasedLedgers.{body_of}
use Rattle.gl_store_book.specs.Stands.{NodeStore}
use Rattle.gl_store_book.proofs.AllLedgers.{book, reports}
use Rattle.gl_store_book.proofs.BookTold.{batch_told, entries_shown, rest_all, tail_shown}
use Rattle.gl_store_book.proofs.book.StoreBookBook.batch.Goals as goal

pub returns-clause-value : goal.returns-clause-value
returns-clause-value c =
    let node = c.args.self.now in
    let l = c.self.inside.ledger in
    let t = c.tail-tail.result.now in
    let body = body_of node.ledger.snapshot in
    let same : l ≡ node.ledger = ap (λ (n : NodeStore). n.ledger) c.self.view_is in
    let shown = tail_shown l node.ledger t same c.tail-tail.ensures.entries c.tail-tail.ensures.stands in
    let all = c.entries.ensures.entries ∙ entries_shown l node.ledger t same c.tail-tail.ensures.entries c.tail-tail.ensures.stands in
    if_ok c.batch.result (λ copies is.
    reports node (λ b h. h.base ≤ c.args.after → copies.items ≡ batch b (drop c.args.after h.log)) (λ keys has log spelled holds low.
    is keys ∙ ap (λ (xs : List Entry). batch (book keys) xs) (rest_all c.saturating_sub-skipped.result c.entries.result.now)
    ∙ ap₂ (λ (n : ℕ) (xs : List Entry). batch (book keys) (drop n xs)) (c.saturating_sub-skipped.ensures ∙ ap (λ (n : ℕ). c.args.after - n) (c.base.ensures.base body shown)) all
    ∙ batch_told keys body node.ledger.entries log holds c.args.after low))
    c.batch.ensures.value
