use Rattle.std.proofs.Common.{◌≡◌, ◌≤◌, ℕ, ap}
use Rattle.gl_rules.specs.Replication.{is_reached}
use Rattle.gl_store_book.specs.BasedLedgers.{body_of}
use Rattle.gl_store_book.specs.Stands.{NodeStore}
use Rattle.gl_store_book.proofs.AllLedgers.{reports}
use Rattle.gl_store_book.proofs.BookTold.{mark_told, state_shown}
use Rattle.gl_store_book.proofs.book.StoreBookBook.mark.Goals as goal

pub returns : goal.returns
returns c =
    let node = c.args.self.now in
    let l = c.self.inside.ledger in
    let same : l ≡ node.ledger = ap (λ (n : NodeStore). n.ledger) c.self.view_is in
    let state = state_shown l node.ledger c.tail.result.now same c.tail.ensures.entries c.tail.ensures.stands c.state.result.now c.state.ensures.state in
    reports node (λ b h. (commit : ℕ) → h.base ≤ commit → is_reached c.mark.result commit ≡ is_reached (b.mark h.log c.args.node.now) commit) (λ keys has log spelled holds commit low.
    mark_told keys (body_of node.ledger.snapshot) node.ledger.entries log holds state.valid c.state.result.now state c.history.result.now c.history.ensures.history c.args.node.now c.mark.result commit c.mark.ensures low)
