use Rattle.std.proofs.Common.{◌≤◌, ◌+◌, ◌-◌, ℕ, subst, arith}
use Rattle.gl_audit.specs.GovState.{governed_up_to}
use Rattle.gl_audit.specs.declared.ledger_state.LedgerState.{LedgerState}
use Rattle.gl_store_book.specs.Lists.{AreListsOf, StandBehind}
use Rattle.gl_store_book.proofs.TailLists.{base_of_each, count_seen, kept_cut, not_cut, with_cut}
use Rattle.gl_store_book.proofs.book_ledger.BookLedger.cut.Goals as goal

pub returns-then-to-ledger_len : goal.returns-then-to-ledger_len
returns-then-to-ledger_len c =
    let t = c.self.inside.tail in
    let k = c.self.invariant in
    let len = c.ledger_len.ensures.len _ k.stands in
    let base = base_of_each _ t c.self.inside.lists c.args.self.now k c.self.view_is _ k.stands in
    let count = count_seen _ t c.self.inside.lists c.args.self.now k c.self.view_is in
    let high = c.if-to-ledger_len.true in
    not_cut c.args.self.now c.args.to (omega (arith, len, base, count, high))

pub cut-requires-2-clause-from_base : goal.cut-requires-2-clause-from_base
cut-requires-2-clause-from_base c = λ body stands.
    let same = base_of_each _ c.self.inside.tail c.self.inside.lists c.args.self.now c.self.invariant c.self.view_is body stands in
    let low = c.requires.from_base in
    omega (arith, same, low)

pub cut-requires-2-clause-within : goal.cut-requires-2-clause-within
cut-requires-2-clause-within c = λ body stands.
    let len = c.ledger_len.ensures.len body stands in
    let below = c.if-to-ledger_len.false in
    omega (arith, len, below)

pub invariant_of-self : goal.invariant_of-self
invariant_of-self c =
    let t = c.self.inside.tail in
    let k = c.self.invariant in
    let len = c.ledger_len.ensures.len _ k.stands in
    let base = base_of_each _ t c.self.inside.lists c.args.self.now k c.self.view_is _ k.stands in
    let low = c.requires.from_base in
    let below = c.if-to-ledger_len.false in
    kept_cut _ t c.self.inside.lists k c.cut-2.new.self c.cut.new.self c.args.to (omega (arith, base, low)) (omega (arith, len, below))
    (c.cut-2.ensures.entries _ k.stands) (c.cut-2.ensures.stands _ k.stands)
    (subst (λ (s : LedgerState). (base count : ℕ) → StandBehind base s.gov count → AreListsOf base s.gov count c.self.inside.lists → base ≤ c.args.to → c.args.to ≤ base + count →
    AreListsOf base (governed_up_to c.args.to s.gov) (c.args.to - base) c.cut.new.self) c.state.ensures.state c.cut.ensures)

pub returns : goal.returns
returns c =
    with_cut _ c.self.inside.tail c.args.self.now c.args.to c.cut-2.new.self.entries c.self.view_is (c.cut-2.ensures.entries _ c.self.invariant.stands)
