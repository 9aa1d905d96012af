use Rattle.std.proofs.Common.{◌≡◌, ◌+◌, List, length, ap, ◌∙◌}
use Rattle.gl_entry.specs.declared.entry.Entry.{Entry}
use Rattle.gl_store_book.specs.BasedLedgers.{base_of, body_of}
use Rattle.gl_store_book.specs.Stands.{NodeStore}
use Rattle.gl_store_book.proofs.BookSigned.{signed_so}
use Rattle.gl_store_book.proofs.BookTold.{entries_shown, state_shown, tail_shown}
use Rattle.gl_store_book.proofs.store_book.StoreBook.signature_entry.Goals as goal

pub returns-clause-made : goal.returns-clause-made
returns-clause-made c = λ keys has.
    let node = c.args.self.now in
    let l = c.self.inside.ledger in
    let t = c.tail-tail.result.now in
    let body = body_of node.ledger.snapshot in
    let same : l ≡ node.ledger = ap (λ (n : NodeStore). n.ledger) c.self.view_is in
    let shown = tail_shown l node.ledger t same c.tail-tail.ensures.entries c.tail-tail.ensures.stands in
    let all = entries_shown l node.ledger t same c.tail-tail.ensures.entries c.tail-tail.ensures.stands in
    let state = state_shown l node.ledger t same c.tail-tail.ensures.entries c.tail-tail.ensures.stands c.state.result.now c.state.ensures.state in
    signed_so keys node has c.args.leaf c.args.view c.args.commit c.requires.some c.requires.left c.self.inside.me c.self.inside.key c.ledger_len-seqno.result c.root-root.result
    c.endorsement.result.now c.signed_message-message.result c.in_ok-signature.signature c.new.result (ap (λ (n : NodeStore). n.me) c.self.view_is) (ap (λ (n : NodeStore). n.key) c.self.view_is)
    (c.ledger_len-seqno.ensures.len body shown ∙ ap (λ (es : List Entry). base_of node.ledger + length es) all) (c.root-root.ensures body node.ledger.entries state) c.endorsement.ensures
    c.signed_message-message.ensures c.in_ok-signature.ensures c.new.ensures
