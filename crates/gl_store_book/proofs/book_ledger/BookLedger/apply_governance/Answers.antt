use Rattle.std.proofs.Common.{None, ◌≡◌, ◌∙◌, ap, refl}
use Rattle.std.proofs.lemmas.Result.{err_from_is_err_and}
use Rattle.gl_ledger.specs.Broken.{broken_over}
use Rattle.gl_ledger.specs.NodeKeys.{service_layers}
use Rattle.gl_audit.specs.Kept.{Breaks}
use Rattle.gl_store.specs.Tail.{Tail}
use Rattle.gl_store.proofs.Tails.{where_err}
use Rattle.gl_store_book.proofs.TailLists.{after_last, before_last, kept_still, of_each, taken_back, with_more, with_same}
use Rattle.gl_store_book.proofs.book_ledger.BookLedger.apply_governance.Goals as goal

-- refused, or memory ran out: all is as it was

pub invariant_of-self : goal.invariant_of-self
invariant_of-self c =
    let k = c.self.invariant in
    let still = c.in_err-apply.ensures.err in
    kept_still _ c.self.inside.tail c.self.inside.lists k c.apply.new.self c.self.inside.lists still.entries (still.stands _ k.stands) refl refl

pub returns-in_err-apply-clause-refused : goal.returns-in_err-apply-clause-refused
returns-in_err-apply-clause-refused c =
    let p = err_from_is_err_and c.from_residual.result c.from_residual.ensures.1 in
    let refused =
    of_each _ c.self.inside.tail c.self.inside.lists c.args.self.now c.self.invariant c.self.view_is (λ b es. Breaks (broken_over service_layers b es c.args.entry) c.in_err-apply.field-0.0)
    c.in_err-apply.ensures.refused in
    rw (p.1, p.2) refused

pub returns-in_err-apply-clause-err : goal.returns-in_err-apply-clause-err
returns-in_err-apply-clause-err c =
    where_err c.from_residual.result
    (with_same _ c.self.inside.tail c.args.self.now c.apply.new.self.entries c.self.view_is c.in_err-apply.ensures.err.entries)

-- the entry was added

pub list_last-requires : goal.list_last-requires
list_last-requires c =
    let k = c.self.invariant in
    let grown = c.in_ok-apply.ensures.grown in
    record { listed = before_last _ c.self.inside.tail c.self.inside.lists k c.apply.new.self c.args.entry grown.entries (grown.stands _ k.stands) }

-- and taken back where memory ran out

pub invariant_of-self-in_err-list_last : goal.invariant_of-self-in_err-list_last
invariant_of-self-in_err-list_last c =
    let k = c.self.invariant in
    let grown = c.in_ok-apply.ensures.grown in
    let back = c.in_err-list_last.ensures.taken_back in
    kept_still _ c.self.inside.tail c.self.inside.lists k c.list_last.new.tail c.list_last.new.lists
    (back.entries ∙ taken_back c.self.inside.tail.entries c.apply.new.self.entries c.args.entry grown.entries) (back.stands _ (grown.stands _ k.stands))
    c.in_err-list_last.ensures.configurations c.in_err-list_last.ensures.recorded

pub returns-in_err-list_last-clause-err : goal.returns-in_err-list_last-clause-err
returns-in_err-list_last-clause-err c =
    let grown = c.in_ok-apply.ensures.grown in
    let back = c.in_err-list_last.ensures.taken_back in
    where_err c.from_residual-in_err-list_last.result
    (with_same _ c.self.inside.tail c.args.self.now c.list_last.new.tail.entries c.self.view_is
    (back.entries ∙ taken_back c.self.inside.tail.entries c.apply.new.self.entries c.args.entry grown.entries))

-- or listed

pub invariant_of-self-2 : goal.invariant_of-self-2
invariant_of-self-2 c =
    let k = c.self.invariant in
    let grown = c.in_ok-apply.ensures.grown in
    after_last _ c.apply.new.self c.list_last.new.tail c.list_last.new.lists k.spelled (grown.stands _ k.stands) c.in_ok-list_last.ensures.kept c.in_ok-list_last.ensures.listed

pub returns-clause-unbroken : goal.returns-clause-unbroken
returns-clause-unbroken c =
    of_each _ c.self.inside.tail c.self.inside.lists c.args.self.now c.self.invariant c.self.view_is (λ b es. broken_over service_layers b es c.args.entry ≡ None) c.in_ok-apply.ensures.unbroken

pub returns-clause-grown : goal.returns-clause-grown
returns-clause-grown c =
    with_more _ c.self.inside.tail c.args.self.now c.args.entry c.list_last.new.tail.entries c.self.view_is
    (ap (λ (t : Tail). t.entries) c.in_ok-list_last.ensures.kept ∙ c.in_ok-apply.ensures.grown.entries)
