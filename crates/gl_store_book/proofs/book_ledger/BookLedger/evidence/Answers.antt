use Rattle.std.proofs.Common.{rules, ◌≡◌, ◌<◌, ◌^◌, Ok}
use Rattle.std.proofs.lemmas.Result.{err_from_is_err_and}
use Rattle.gl_base.specs.Answers.{Fails}
use Rattle.gl_ledger.specs.Makers.{evidence_result}
use Rattle.gl_ledger.specs.Past.{Past}
use Rattle.gl_store_book.specs.BasedLedgers.{past_of}
use Rattle.gl_store_book.proofs.TailPasts.{told_of}
use Rattle.gl_store_book.proofs.TakenEntries.{itself, refused_by_rule, refused_first}
use Rattle.gl_store_book.proofs.TakenEvidence.{evidence_quiet, evidence_unbroken, takes_evidence}
use Rattle.gl_store_book.proofs.book_ledger.BookLedger.evidence.Goals as goal

pub returns-in_err-entry-clause-refused : goal.returns-in_err-entry-clause-refused
returns-in_err-entry-clause-refused c =
    let l = c.args.self.now in
    let view = c.args.view in
    let p = err_from_is_err_and c.from_residual.result c.from_residual.ensures.1 in
    let refused =
    refused_first itself l c.in_err-entry.field-0.0 (evidence_result (past_of l) view)
    (told_of l c.tail.result.now (λ (p : Past). Fails c.in_err-entry.field-0.0 (evidence_result p view)) c.tail.ensures.entries c.tail.ensures.stands c.in_err-entry.ensures.refused) in
    rw (p.1, p.2) refused

pub add_quiet-requires-clause-quiet : goal.add_quiet-requires-clause-quiet
add_quiet-requires-clause-quiet c =
    let l = c.args.self.now in
    let view = c.args.view in
    let e = c.in_ok-entry.entry in
    let is = told_of l c.tail.result.now (λ (p : Past). evidence_result p view ≡ Ok e) c.tail.ensures.entries c.tail.ensures.stands c.in_ok-entry.ensures.made in
    (evidence_quiet l view e is).1

pub add_quiet-requires-clause-made : goal.add_quiet-requires-clause-made
add_quiet-requires-clause-made c = λ none may.
    let l = c.args.self.now in
    let view = c.args.view in
    let e = c.in_ok-entry.entry in
    let low : view < 2 ^ 32 = search rules in
    let is = told_of l c.tail.result.now (λ (p : Past). evidence_result p view ≡ Ok e) c.tail.ensures.entries c.tail.ensures.stands c.in_ok-entry.ensures.made in
    evidence_unbroken l view e is low none may

pub returns-clause-made : goal.returns-clause-made
returns-clause-made c =
    let l = c.args.self.now in
    let view = c.args.view in
    let e = c.in_ok-entry.entry in
    let is = told_of l c.tail.result.now (λ (p : Past). evidence_result p view ≡ Ok e) c.tail.ensures.entries c.tail.ensures.stands c.in_ok-entry.ensures.made in
    takes_evidence l view e is c.add_quiet.new.self c.in_ok-add_quiet.ensures.unbroken c.in_ok-add_quiet.ensures.grown

pub returns-in_err-add_quiet-clause-refused : goal.returns-in_err-add_quiet-clause-refused
returns-in_err-add_quiet-clause-refused c =
    let l = c.args.self.now in
    let view = c.args.view in
    let e = c.in_ok-entry.entry in
    let is = told_of l c.tail.result.now (λ (p : Past). evidence_result p view ≡ Ok e) c.tail.ensures.entries c.tail.ensures.stands c.in_ok-entry.ensures.made in
    let p = err_from_is_err_and c.from_residual-in_err-add_quiet.result c.from_residual-in_err-add_quiet.ensures.1 in
    let refused = refused_by_rule itself l c.in_err-add_quiet.field-0.0 e (evidence_result (past_of l) view) is c.in_err-add_quiet.ensures.refused in
    rw (p.1, p.2) refused
