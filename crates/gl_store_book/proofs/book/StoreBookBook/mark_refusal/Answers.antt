use Rattle.std.proofs.Common.{rules, ◌≡◌, None, Some, true, ap, ◌∙◌}
use Rattle.gl_base.specs.Bytes.{is_digest}
use Rattle.gl_entry.proofs.Fitting.{is_digest-from}
use Rattle.gl_ledger.specs.LedgerBook.{by_refusal}
use Rattle.gl_ledger.specs.declared.refusal.Refusal.TheVariants as refusals
use Rattle.gl_ledger.specs.declared.response.Rejection.TheVariants.{ByStore}
use Rattle.gl_store_book.specs.BasedLedgers.{body_of}
use Rattle.gl_store_book.specs.Stands.{NodeStore}
use Rattle.gl_store_book.proofs.AllLedgers.{reports}
use Rattle.gl_store_book.proofs.BookTold.{mark_refusal_told, state_shown}
use Rattle.gl_store_book.proofs.book.StoreBookBook.mark_refusal.Goals as goal

pub returns-in-None : goal.returns-in-None
returns-in-None c =
    let node = c.args.self.now in
    let l = c.self.inside.ledger in
    let same : l ≡ node.ledger = ap (λ (n : NodeStore). n.ledger) c.self.view_is in
    let state = state_shown l node.ledger c.tail.result.now same c.tail.ensures.entries c.tail.ensures.stands c.state.result.now c.state.ensures.state in
    let fits : is_digest c.args.node.now ≡ true = is_digest-from c.args.node.now (search rules) (λ i. search rules) in
    reports node (λ b h. None ≡ b.mark_refusal h.log c.args.node.now) (λ keys has log spelled holds.
    ap by_refusal c.in-None.ensures
    ∙ mark_refusal_told keys (body_of node.ledger.snapshot) node.ledger.entries log holds state.valid c.state.result.now state c.history.result.now c.history.ensures.history c.args.node.now fits)

pub returns-in-Some : goal.returns-in-Some
returns-in-Some c =
    let node = c.args.self.now in
    let l = c.self.inside.ledger in
    let same : l ≡ node.ledger = ap (λ (n : NodeStore). n.ledger) c.self.view_is in
    let state = state_shown l node.ledger c.tail.result.now same c.tail.ensures.entries c.tail.ensures.stands c.state.result.now c.state.ensures.state in
    let fits : is_digest c.args.node.now ≡ true = is_digest-from c.args.node.now (search rules) (λ i. search rules) in
    reports node (λ b h. Some (ByStore (refusals.Governance c.in-Some.why)) ≡ b.mark_refusal h.log c.args.node.now) (λ keys has log spelled holds.
    ap by_refusal c.in-Some.ensures
    ∙ mark_refusal_told keys (body_of node.ledger.snapshot) node.ledger.entries log holds state.valid c.state.result.now state c.history.result.now c.history.ensures.history c.args.node.now fits)
