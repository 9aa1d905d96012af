use Rattle.std.proofs.Common.{◌≡◌, ◌∙◌, List, [], ◌∷◌, ◌++◌, None, ap}
use Rattle.std.proofs.lemmas.Result.{err_from_is_err_and}
use Rattle.gl_entry.specs.declared.entry.Entry.{Entry}
use Rattle.gl_ledger.specs.Broken.{broken_over}
use Rattle.gl_ledger.specs.NodeKeys.{service_layers}
use Rattle.gl_audit.specs.Kept.{Breaks}
use Rattle.gl_store.proofs.Tails.{becomes_grown, becomes_still, seen, seen_grown, seen_still, where_err}
use Rattle.gl_store.proofs.ledger_tail.LedgerTail.apply.Goals as goal

pub apply-requires : goal.apply-requires
apply-requires c = let b = c.self.invariant in record { state = (b.0, c.self.inside.entries.items, b.1.stands) }

-- refused, or memory ran out after room was made: the state is as it was

pub invariant_of-self-in_err-apply : goal.invariant_of-self-in_err-apply
invariant_of-self-in_err-apply c =
    let b = c.self.invariant in
    (b.0, (becomes_still _ _ c.apply.new.self c.in_ok-reserve.ensures.items c.in_err-apply.ensures.err c.apply.ensures.whole).stands b.0 b.1)

pub returns-in_err-apply-clause-err : goal.returns-in_err-apply-clause-err
returns-in_err-apply-clause-err c =
    where_err c.from_residual-in_err-apply.result
    (seen_still c.self.view_is (becomes_still _ _ c.apply.new.self c.in_ok-reserve.ensures.items c.in_err-apply.ensures.err c.apply.ensures.whole))

pub returns-in_err-apply-clause-refused : goal.returns-in_err-apply-clause-refused
returns-in_err-apply-clause-refused c =
    let p = err_from_is_err_and c.from_residual-in_err-apply.result c.from_residual-in_err-apply.ensures.1 in
    let refused =
    seen c.self.view_is (λ body t. Breaks (broken_over service_layers body t.entries c.args.entry) c.in_err-apply.field-0.0) (λ body s. c.in_err-apply.ensures.refused body _ s.stands) in
    rw (p.1, p.2) refused

-- the entry was added

pub invariant_of-self-2 : goal.invariant_of-self-2
invariant_of-self-2 c =
    let b = c.self.invariant in (
      b.0,
      (becomes_grown _ _ c.args.entry c.apply.new.self (c.push_reserved.ensures.items ∙ ap (λ (es : List Entry). es ++ c.args.entry ∷ []) c.in_ok-reserve.ensures.items)
          c.in_ok-apply.ensures.grown c.in_ok-apply.ensures.whole).stands b.0 b.1,
    )

pub returns-clause-grown : goal.returns-clause-grown
returns-clause-grown c =
    seen_grown c.args.entry c.self.view_is
    (becomes_grown _ _ c.args.entry c.apply.new.self (c.push_reserved.ensures.items ∙ ap (λ (es : List Entry). es ++ c.args.entry ∷ []) c.in_ok-reserve.ensures.items)
    c.in_ok-apply.ensures.grown c.in_ok-apply.ensures.whole)

pub returns-clause-unbroken : goal.returns-clause-unbroken
returns-clause-unbroken c = seen c.self.view_is (λ body t. broken_over service_layers body t.entries c.args.entry ≡ None) (λ body s. c.in_ok-apply.ensures.unbroken body _ s.stands)
