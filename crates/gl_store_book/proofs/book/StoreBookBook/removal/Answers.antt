use Rattle.std.proofs.Common.{◌≡◌, None, Some, ap, ◌∙◌}
use Rattle.gl_store_book.specs.BasedLedgers.{body_of}
use Rattle.gl_store_book.specs.Stands.{NodeStore}
use Rattle.gl_store_book.proofs.AllLedgers.{reports}
use Rattle.gl_store_book.proofs.BookTold.{removal_told, state_shown}
use Rattle.gl_store_book.proofs.book.StoreBookBook.removal.Goals as goal

pub returns-in-None : goal.returns-in-None
returns-in-None c =
    let node = c.args.self.now in
    let l = c.self.inside.ledger in
    let same : l ≡ node.ledger = ap (λ (n : NodeStore). n.ledger) c.self.view_is in
    let state = state_shown l node.ledger c.tail.result.now same c.tail.ensures.entries c.tail.ensures.stands c.state.result.now c.state.ensures.state in
    reports node (λ b h. None ≡ b.removal h.log c.args.node.now) (λ keys has log spelled holds.
    removal_told keys (body_of node.ledger.snapshot) node.ledger.entries log holds state.valid c.state.result.now state c.history-past.result.now c.history-past.ensures.history c.args.node.now None c.in-None.ensures)

pub returns-in-Some : goal.returns-in-Some
returns-in-Some c =
    let node = c.args.self.now in
    let l = c.self.inside.ledger in
    let same : l ≡ node.ledger = ap (λ (n : NodeStore). n.ledger) c.self.view_is in
    let state = state_shown l node.ledger c.tail.result.now same c.tail.ensures.entries c.tail.ensures.stands c.state.result.now c.state.ensures.state in
    reports node (λ b h. c.removal.result ≡ b.removal h.log c.args.node.now) (λ keys has log spelled holds.
    c.removal.ensures
    ∙ removal_told keys (body_of node.ledger.snapshot) node.ledger.entries log holds state.valid c.state.result.now state c.history-past.result.now c.history-past.ensures.history c.args.node.now (Some c.in-Some.recorded.now) c.in-Some.ensures)
