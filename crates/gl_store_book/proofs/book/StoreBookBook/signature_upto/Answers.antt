use Rattle.std.proofs.Common.{◌≡◌, max, take, ap, ◌∙◌}
use Rattle.gl_rules.specs.Log.{last_signature}
use Rattle.gl_store_book.specs.BasedLedgers.{body_of}
use Rattle.gl_store_book.specs.Stands.{NodeStore}
use Rattle.gl_store_book.proofs.AllLedgers.{reports}
use Rattle.gl_store_book.proofs.BookTold.{state_shown, tail_shown, upto_told}
use Rattle.gl_store_book.proofs.book.StoreBookBook.signature_upto.Goals as goal

pub returns : goal.returns
returns c =
    let node = c.args.self.now in
    let l = c.self.inside.ledger in
    let t = c.tail-tail.result.now in
    let body = body_of node.ledger.snapshot in
    let es = node.ledger.entries in
    let same : l ≡ node.ledger = ap (λ (n : NodeStore). n.ledger) c.self.view_is in
    let shown = tail_shown l node.ledger t same c.tail-tail.ensures.entries c.tail-tail.ensures.stands in
    let state = state_shown l node.ledger t same c.tail-tail.ensures.entries c.tail-tail.ensures.stands c.state.result.now c.state.ensures.state in
    reports node (λ b h. max h.base c.last_signed_up_to.result ≡ max h.base (last_signature b (take c.args.seqno h.log))) (λ keys has log spelled holds.
    upto_told keys body es log holds c.args.seqno c.max-high.result c.last_signed_up_to.result (c.max-high.ensures ∙ ap (max c.args.seqno) (c.base.ensures.base body shown))
    (c.last_signed_up_to.ensures body es state))
