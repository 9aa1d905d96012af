use Rattle.std.proofs.Common.{rules, ◌≡◌, ◌<◌, ◌^◌, ◌∷◌, ◌++◌, [], None, sym, ap, subst, ◌∙◌}
use Rattle.std.proofs.lemmas.Result.{err_from_is_err_and}
use Rattle.gl_entry.specs.declared.entry.Entry.{Entry}
use Rattle.gl_ledger.specs.Makers.{MayMake, govern_after}
use Rattle.gl_ledger.specs.declared.response.Response.{Response}
use Rattle.gl_ledger.specs.declared.response.Response.TheVariants.{Governed}
use Rattle.gl_store_book.specs.BasedLedgers.{BasedLedger, IsAudited, broken_after, past_of, with_entries}
use Rattle.gl_store_book.specs.Taken.{RefusesFor}
use Rattle.gl_store_book.proofs.TakenEntries.{entry_made, governed_unbroken, governed_view, refused_by_rule, refused_first, takes}
use Rattle.gl_store_book.proofs.book_ledger.BookLedger.govern_founded.Goals as goal

pub returns-in-Err-clause-refused : goal.returns-in-Err-clause-refused
returns-in-Err-clause-refused c =
    let l = c.args.self.now in
    let r = govern_after (past_of l) c.args.view c.args.request.now in
    refused_first entry_made l c.by_store.result r (c.by_store.ensures r c.in-Err.ensures.refused)

pub add_governance-requires : goal.add_governance-requires
add_governance-requires c =
    let l = c.args.self.now in
    let view = c.args.view in
    let g = c.args.request.now in
    let low : view < 2 ^ 32 = search rules in
    let made : Entry × Response = (c.in-Ok.made.0, Governed c.in-Ok.made.1.proposal) in
    record {
      made = subst (λ (m : BasedLedger). IsAudited m → m.snapshot ≡ None → MayMake m.entries view → broken_after m made.0 ≡ None) (sym c.entry_of_governance.ensures.kept)
          (λ valid none may. governed_unbroken l view g made c.in-Ok.ensures.made low valid none may);
    }

pub returns-clause-made : goal.returns-clause-made
returns-clause-made c =
    let l = c.args.self.now in
    let view = c.args.view in
    let g = c.args.request.now in
    let kept = c.entry_of_governance.ensures.kept in
    let made : Entry × Response = (c.in-Ok.made.0, Governed c.in-Ok.made.1.proposal) in
    takes l c.add_governance.new.self view made (govern_after (past_of l) view g) c.in-Ok.ensures.made (governed_view l view g made c.in-Ok.ensures.made)
    (subst (λ (m : BasedLedger). broken_after m made.0 ≡ None) kept c.in_ok-add_governance.ensures.unbroken)
    (c.in_ok-add_governance.ensures.grown ∙ ap (λ (m : BasedLedger). with_entries m (m.entries ++ made.0 ∷ [])) kept)

pub returns-in_err-add_governance-clause-refused : goal.returns-in_err-add_governance-clause-refused
returns-in_err-add_governance-clause-refused c =
    let l = c.args.self.now in
    let view = c.args.view in
    let g = c.args.request.now in
    let made : Entry × Response = (c.in-Ok.made.0, Governed c.in-Ok.made.1.proposal) in
    let p = err_from_is_err_and c.from_residual.result c.from_residual.ensures.1 in
    let refused =
    refused_by_rule entry_made l c.in_err-add_governance.field-0.0 made (govern_after (past_of l) view g) c.in-Ok.ensures.made
    (subst (λ (m : BasedLedger). RefusesFor (broken_after m made.0) c.in_err-add_governance.field-0.0) c.entry_of_governance.ensures.kept c.in_err-add_governance.ensures.refused) in
    rw (p.1, p.2) refused
