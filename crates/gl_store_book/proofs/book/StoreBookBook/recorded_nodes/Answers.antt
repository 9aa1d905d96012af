use Rattle.std.proofs.Common.{◌≡◌, ◌≤◌, take, refl, sym, ap, subst, ◌∙◌}
use Rattle.gl_audit.specs.GovState.{governed_up_to}
use Rattle.gl_store_book.specs.BasedLedgers.{BasedLedger, base_of, body_of, governed_of}
use Rattle.gl_store_book.specs.Lists.{nodes_of}
use Rattle.gl_store_book.specs.Stands.{NodeStore}
use Rattle.gl_store_book.proofs.AllLedgers.{reports}
use Rattle.gl_store_book.proofs.BookTold.{nodes_told, state_shown}
use Rattle.gl_store_book.proofs.book.StoreBookBook.recorded_nodes.Goals as goal

pub returns : goal.returns
returns c =
    let node = c.args.self.now in
    let l = c.self.inside.ledger in
    let t = c.tail.result.now in
    let same : l ≡ node.ledger = ap (λ (n : NodeStore). n.ledger) c.self.view_is in
    let state = state_shown l node.ledger t same c.tail.ensures.entries c.tail.ensures.stands t.state refl in
    reports node (λ b h. h.base ≤ c.args.upto → c.recorded_nodes.result.now ≡ b.recorded_nodes (take c.args.upto h.log)) (λ keys has log spelled holds low.
    c.recorded_nodes.ensures (subst (λ (x : BasedLedger). base_of x ≤ c.args.upto) (sym same) low)
    ∙ ap (λ (x : BasedLedger). nodes_of (governed_up_to c.args.upto (governed_of x))) same
    ∙ nodes_told keys (body_of node.ledger.snapshot) node.ledger.entries log holds state.valid c.args.upto state.read low)
