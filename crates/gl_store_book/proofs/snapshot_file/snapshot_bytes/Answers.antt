use Rattle.std.proofs.Common.{ℕ, ◌≤◌, ◌<◌, Option, Some, None, IsSome, sym, ap, ◌∙◌}
use Rattle.gl_store.proofs.Tails.{if_ok}
use Rattle.gl_store_book.proofs.MadeFiles.{some_received, spelled_right, spelled_some}
use Rattle.gl_store_book.proofs.snapshot_file.snapshot_bytes.Goals as goal

pub returns-in_default-clause-some : goal.returns-in_default-clause-some
returns-in_default-clause-some c = λ log holds above s w.
    let found = c.in_ok-entry.ensures log holds in
    let is = sym c.in_default.is ∙ found ∙ some_received c.args.ledger.now log holds c.args.commit c.args.evidence s above w in
    absurd (cc)

pub returns-clause-made : goal.returns-clause-made
returns-clause-made c =
    if_ok c.spell.result
    (λ file is.
    spelled_right c.args.ledger.now c.args.commit c.args.evidence c.in-Some.entry c.in-Some.receipt c.in_ok-body.body file is c.in_ok-body.ensures
    (λ log holds. sym c.in-Some.is ∙ c.in_ok-entry.ensures log holds))
    c.spell.ensures

pub returns-clause-some : goal.returns-clause-some
returns-clause-some c =
    if_ok c.spell.result
    (λ file is log holds above s w.
    spelled_some c.args.ledger.now log holds c.args.commit c.args.evidence c.in-Some.entry c.in-Some.receipt c.in_ok-body.body (sym c.in-Some.is ∙ c.in_ok-entry.ensures log holds) c.in_ok-body.ensures file is s w)
    c.spell.ensures
