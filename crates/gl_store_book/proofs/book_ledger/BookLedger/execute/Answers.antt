use Rattle.std.proofs.Common.{rules, ◌≡◌, ◌<◌, ◌^◌, Ok}
use Rattle.std.proofs.lemmas.Result.{err_from_is_err_and}
use Rattle.gl_entry.specs.declared.entry.Entry.{Entry}
use Rattle.gl_ledger.specs.Makers.{request_after}
use Rattle.gl_ledger.specs.Past.{Past}
use Rattle.gl_ledger.specs.declared.response.Response.{Response}
use Rattle.gl_ledger.specs.declared.response.Response.TheVariants.{Replied}
use Rattle.gl_store.specs.Calls.{Refuses}
use Rattle.gl_store_book.specs.BasedLedgers.{past_of}
use Rattle.gl_store_book.proofs.TailPasts.{told_of}
use Rattle.gl_store_book.proofs.TakenEntries.{entry_made, refused_by_rule, refused_first, request_quiet, request_unbroken, takes}
use Rattle.gl_store_book.proofs.book_ledger.BookLedger.execute.Goals as goal

pub returns-in-Err-clause-refused : goal.returns-in-Err-clause-refused
returns-in-Err-clause-refused c =
    let l = c.args.self.now in
    let view = c.args.view in
    let q = c.args.request.now in
    refused_first entry_made l c.by_store.result (request_after (past_of l) view q)
    (c.by_store.ensures (request_after (past_of l) view q)
    (told_of l c.tail.result.now (λ (p : Past). Refuses (request_after p view q) c.in-Err.error) c.tail.ensures.entries c.tail.ensures.stands c.in-Err.ensures.refused))

pub add_quiet-requires-clause-quiet : goal.add_quiet-requires-clause-quiet
add_quiet-requires-clause-quiet c =
    let l = c.args.self.now in
    let view = c.args.view in
    let q = c.args.request.now in
    let made : Entry × Response = (c.in-Ok.made.0, Replied c.in-Ok.made.1) in
    let is = told_of l c.tail.result.now (λ (p : Past). request_after p view q ≡ Ok made) c.tail.ensures.entries c.tail.ensures.stands c.in-Ok.ensures.made in
    (request_quiet l view q made is).1

pub add_quiet-requires-clause-made : goal.add_quiet-requires-clause-made
add_quiet-requires-clause-made c = λ none may.
    let l = c.args.self.now in
    let view = c.args.view in
    let q = c.args.request.now in
    let low : view < 2 ^ 32 = search rules in
    let made : Entry × Response = (c.in-Ok.made.0, Replied c.in-Ok.made.1) in
    let is = told_of l c.tail.result.now (λ (p : Past). request_after p view q ≡ Ok made) c.tail.ensures.entries c.tail.ensures.stands c.in-Ok.ensures.made in
    request_unbroken l view q made is low none may

pub returns-clause-made : goal.returns-clause-made
returns-clause-made c =
    let l = c.args.self.now in
    let view = c.args.view in
    let q = c.args.request.now in
    let made : Entry × Response = (c.in-Ok.made.0, Replied c.in-Ok.made.1) in
    let is = told_of l c.tail.result.now (λ (p : Past). request_after p view q ≡ Ok made) c.tail.ensures.entries c.tail.ensures.stands c.in-Ok.ensures.made in
    takes l c.add_quiet.new.self view made (request_after (past_of l) view q) is (request_quiet l view q made is).0 c.in_ok-add_quiet.ensures.unbroken c.in_ok-add_quiet.ensures.grown

pub returns-in_err-add_quiet-clause-refused : goal.returns-in_err-add_quiet-clause-refused
returns-in_err-add_quiet-clause-refused c =
    let l = c.args.self.now in
    let view = c.args.view in
    let q = c.args.request.now in
    let made : Entry × Response = (c.in-Ok.made.0, Replied c.in-Ok.made.1) in
    let is = told_of l c.tail.result.now (λ (p : Past). request_after p view q ≡ Ok made) c.tail.ensures.entries c.tail.ensures.stands c.in-Ok.ensures.made in
    let p = err_from_is_err_and c.from_residual.result c.from_residual.ensures.1 in
    let refused = refused_by_rule entry_made l c.in_err-add_quiet.field-0.0 made (request_after (past_of l) view q) is c.in_err-add_quiet.ensures.refused in
    rw (p.1, p.2) refused
