use Rattle.std.proofs.Common.{◌≡◌, List, length, max, ap, ◌∙◌, arith}
use Rattle.gl_rules.specs.Log.{greatest_recorded}
use Rattle.gl_audit.specs.declared.ledger_end.LedgerEnd.{LedgerEnd}
use Rattle.gl_entry.specs.declared.entry.Entry.{Entry}
use Rattle.gl_store_book.specs.BasedLedgers.{body_of}
use Rattle.gl_store_book.specs.Stands.{NodeStore}
use Rattle.gl_store_book.proofs.AllLedgers.{reports}
use Rattle.gl_store_book.proofs.BookTold.{commit_told, commit_within, entries_shown, state_shown, tail_shown}
use Rattle.gl_store_book.proofs.book.StoreBookBook.known_commit.Goals as goal

pub returns : goal.returns
returns c =
    let node = c.args.self.now in
    let l = c.self.inside.ledger in
    let body = body_of node.ledger.snapshot in
    let es = node.ledger.entries in
    let t = c.tail-tail.result.now in
    let same : l ≡ node.ledger = ap (λ (n : NodeStore). n.ledger) c.self.view_is in
    let shown = tail_shown l node.ledger t same c.tail-tail.ensures.entries c.tail-tail.ensures.stands in
    let all = ap (λ (xs : List Entry). length xs) (entries_shown l node.ledger t same c.tail-tail.ensures.entries c.tail-tail.ensures.stands) in
    let state = state_shown l node.ledger t same c.tail-tail.ensures.entries c.tail-tail.ensures.stands c.state.result.now c.state.ensures.state in
    reports node (λ b h. c.max.result ≡ max h.base (greatest_recorded b h.log)) (λ keys has log spelled holds.
    let told = ap (λ (end : LedgerEnd). end.commit) (c.end.ensures body es state) ∙ commit_told keys body es log holds state.valid in
    let within = commit_within keys body es log holds state.valid in
    let len = c.ledger_len.ensures.len body shown in
    let base = c.base.ensures.base body shown in
    let least = c.min-recorded.ensures in
    let greatest = c.max.ensures in
    omega (arith, told, within, len, base, least, greatest, all))
