use Rattle.std.proofs.Common.{◌≡◌, ◌≤◌, ◌+◌, ℕ, List, length, refl, ap, ap₂, ◌∙◌, arith}
use Rattle.gl_base.specs.declared.tx_id.TxId.{TxId}
use Rattle.gl_rules.specs.Log.{last_signature, view_at}
use Rattle.gl_entry.specs.declared.entry.Entry.{Entry}
use Rattle.gl_ledger.specs.Snapshot as snapshots
use Rattle.gl_store_book.specs.BasedLedgers.{body_of}
use Rattle.gl_store_book.specs.Stands.{NodeStore}
use Rattle.gl_store_book.proofs.AllLedgers.{book, reports}
use Rattle.gl_store_book.proofs.BookTold.{entries_shown, signed_between, signed_told, state_shown, tail_shown, view_told}
use Rattle.gl_store_book.proofs.book.StoreBookBook.last_signature.Goals as goal

pub prove-unreachable-requires : goal.prove-unreachable-requires
prove-unreachable-requires c =
    let l = c.self.inside.ledger in
    let t = c.tail-tail.result.now in
    let body = body_of l.snapshot in
    let state = state_shown l l t refl c.tail-tail.ensures.entries c.tail-tail.ensures.stands c.state.result.now c.state.ensures.state in
    let high : c.last_signed-seqno.result ≤ body.base + length l.entries = (signed_between body l.entries c.last_signed-seqno.result (c.last_signed-seqno.ensures body l.entries state)).1 in
    let len : c.ledger_len.result ≡ body.base + length t.entries = c.ledger_len.ensures.len body c.tail-tail.ensures.stands in
    let same : length t.entries ≡ length l.entries = ap (λ (xs : List Entry). length xs) c.tail-tail.ensures.entries in
    let above = c.if-prove.true in
    omega (arith, high, len, same, above)

abbrev id : ℕ → ℕ → TxId
id view seqno = record { view = view; seqno = seqno }

pub returns-clause-value : goal.returns-clause-value
returns-clause-value c =
    let node = c.args.self.now in
    let l = c.self.inside.ledger in
    let t = c.tail-tail.result.now in
    let body = body_of node.ledger.snapshot in
    let es = node.ledger.entries in
    let same : l ≡ node.ledger = ap (λ (n : NodeStore). n.ledger) c.self.view_is in
    let shown = tail_shown l node.ledger t same c.tail-tail.ensures.entries c.tail-tail.ensures.stands in
    let all = entries_shown l node.ledger t same c.tail-tail.ensures.entries c.tail-tail.ensures.stands in
    let state = state_shown l node.ledger t same c.tail-tail.ensures.entries c.tail-tail.ensures.stands c.state.result.now c.state.ensures.state in
    reports node (λ b h. id c.unwrap_or.result c.last_signed-seqno.result ≡ id (view_at b h.log (last_signature b h.log)) (last_signature b h.log)) (λ keys has log spelled holds.
    let seqno : c.last_signed-seqno.result ≡ last_signature (book keys) log = signed_told keys body es log holds c.last_signed-seqno.result (c.last_signed-seqno.ensures body es state) in
    ap₂ id
    (c.unwrap_or.ensures ∙ view_told keys body es log holds c.last_signed-seqno.result c.view_at.result (λ some. c.view_at.ensures.view body shown some ∙ ap (λ (xs : List Entry). snapshots.view_at body xs c.last_signed-seqno.result) all) c.view_at.ensures.zero
    ∙ ap (view_at (book keys) log) seqno)
    seqno)
