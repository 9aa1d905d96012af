use Rattle.std.proofs.Common.{◌≡◌, ◌≤◌, ℕ, List, length, take, refl, sym, ap, subst, ◌∙◌}
use Rattle.gl_rules.specs.Configuration.{active, configurations_above}
use Rattle.gl_config.specs.declared.configuration.Configuration.{Configuration}
use Rattle.gl_config.specs.Active.{above, active_of, sets_of, upto}
use Rattle.gl_store_book.specs.BasedLedgers.{BasedLedger, base_of, body_of, governed_of}
use Rattle.gl_store_book.specs.Lists.{configurations_behind}
use Rattle.gl_store_book.specs.Stands.{NodeStore}
use Rattle.gl_store_book.proofs.AllLedgers.{reports}
use Rattle.gl_store_book.proofs.BookTold.{state_shown}
use Rattle.gl_store_book.proofs.ConfigurationsTold.{above_told, active_told}
use Rattle.gl_store_book.proofs.book.StoreBookBook.configurations.Goals as goal

-- those of the ledger up to a seqno
shown : (l m : BasedLedger) (seqno : ℕ) (cs : List Configuration) → l ≡ m →
    (base_of l ≤ seqno → cs ≡ upto seqno (configurations_behind (base_of l) (governed_of l) (length l.entries))) →
    base_of m ≤ seqno → cs ≡ upto seqno (configurations_behind (base_of m) (governed_of m) (length m.entries))
shown l m seqno cs same each low =
    each (subst (λ (x : BasedLedger). base_of x ≤ seqno) (sym same) low)
    ∙ ap (λ (x : BasedLedger). upto seqno (configurations_behind (base_of x) (governed_of x) (length x.entries))) same

pub returns-clause-active : goal.returns-clause-active
returns-clause-active c =
    let node = c.args.self.now in
    let l = c.self.inside.ledger in
    let t = c.tail.result.now in
    let same : l ≡ node.ledger = ap (λ (n : NodeStore). n.ledger) c.self.view_is in
    let state = state_shown l node.ledger t same c.tail.ensures.entries c.tail.ensures.stands t.state refl in
    reports node
    (λ b h. h.base ≤ c.args.upto → (commit : ℕ) → h.base ≤ commit → sets_of (active_of c.configurations.result.now commit) ≡ active b (take c.args.upto h.log) commit)
    (λ keys has log spelled holds low commit up.
    active_told keys (body_of node.ledger.snapshot) node.ledger.entries log holds state.valid state.read c.args.upto low c.configurations.result.now
    (shown l node.ledger c.args.upto c.configurations.result.now same c.configurations.ensures.prefix low) commit up)

pub returns-clause-above : goal.returns-clause-above
returns-clause-above c =
    let node = c.args.self.now in
    let l = c.self.inside.ledger in
    let t = c.tail.result.now in
    let same : l ≡ node.ledger = ap (λ (n : NodeStore). n.ledger) c.self.view_is in
    let state = state_shown l node.ledger t same c.tail.ensures.entries c.tail.ensures.stands t.state refl in
    reports node
    (λ b h. h.base ≤ c.args.upto → (commit : ℕ) → h.base ≤ commit →
    sets_of (above commit c.configurations.result.now) ≡ configurations_above b (take c.args.upto h.log) commit (length (take c.args.upto h.log)))
    (λ keys has log spelled holds low commit up.
    above_told keys (body_of node.ledger.snapshot) node.ledger.entries log holds state.valid state.read c.args.upto low c.configurations.result.now
    (shown l node.ledger c.args.upto c.configurations.result.now same c.configurations.ensures.prefix low) commit up)
