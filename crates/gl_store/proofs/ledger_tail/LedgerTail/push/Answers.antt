use Rattle.std.proofs.Common.{◌≡◌, ◌∙◌, List, [], ◌∷◌, ◌++◌, None, ap, subst, sym}
use Rattle.gl_ledger.specs.NodeKeys.{service_layers}
use Rattle.gl_ledger.specs.Broken.{broken_over}
use Rattle.gl_entry.specs.declared.entry.Entry.{Entry}
use Rattle.gl_store.specs.Tail.{Tail}
use Rattle.gl_store.proofs.Tails.{becomes_still, behind_with, kept_behind, seen_still, where_err}
use Rattle.gl_store.proofs.ledger_tail.LedgerTail.push.Goals as goal

pub push-requires : goal.push-requires
push-requires c =
    let b = c.requires.unbroken in
    let s = kept_behind c.self.view_is b.0 b.1 in
    record { unbroken = (b.0, c.self.inside.entries.items, s.stands, subst (λ (t : Tail). broken_over service_layers b.0 t.entries c.args.entry ≡ None) (sym c.self.view_is) b.2) }

-- memory ran out after room was made: the state is as it was

pub invariant_of-self-in_err-push : goal.invariant_of-self-in_err-push
invariant_of-self-in_err-push c =
    let b = c.self.invariant in
    (b.0, (becomes_still _ _ c.push.new.self c.in_ok-reserve.ensures.items c.in_err-push.ensures.err c.push.ensures.whole).stands b.0 b.1)

pub returns-in_err-push-clause-err : goal.returns-in_err-push-clause-err
returns-in_err-push-clause-err c =
    where_err c.from_residual-in_err-push.result
    (seen_still c.self.view_is (becomes_still _ _ c.push.new.self c.in_ok-reserve.ensures.items c.in_err-push.ensures.err c.push.ensures.whole))

-- the entry was added

pub invariant_of-self-2 : goal.invariant_of-self-2
invariant_of-self-2 c =
    let b = c.requires.unbroken in
    let s = kept_behind c.self.view_is b.0 b.1 in
    let unbroken = subst (λ (t : Tail). broken_over service_layers b.0 t.entries c.args.entry ≡ None) (sym c.self.view_is) b.2 in (
      b.0,
      behind_with b.0 _ _ _ c.push.new.self s (c.push_reserved.ensures.items ∙ ap (λ (es : List Entry). es ++ c.args.entry ∷ []) c.in_ok-reserve.ensures.items)
          (c.in_ok-push.ensures.grown b.0 c.self.inside.entries.items s.stands unbroken) (c.in_ok-push.ensures.whole s.whole),
    )

pub returns-clause-grown : goal.returns-clause-grown
returns-clause-grown c =
    c.push_reserved.ensures.items ∙ ap (λ (es : List Entry). es ++ c.args.entry ∷ []) (c.in_ok-reserve.ensures.items ∙ ap (λ (t : Tail). t.entries) c.self.view_is)

pub returns-clause-stands : goal.returns-clause-stands
returns-clause-stands c = λ body now unbroken.
    let s = kept_behind c.self.view_is body now in
    behind_with body _ _ _ c.push.new.self s (c.push_reserved.ensures.items ∙ ap (λ (es : List Entry). es ++ c.args.entry ∷ []) c.in_ok-reserve.ensures.items)
    (c.in_ok-push.ensures.grown body c.self.inside.entries.items s.stands (subst (λ (t : Tail). broken_over service_layers body t.entries c.args.entry ≡ None) (sym c.self.view_is) unbroken))
    (c.in_ok-push.ensures.whole s.whole)
