use Rattle.std.proofs.Common.{◌≡◌, [], sym, ap, ◌∙◌}
use Rattle.gl_audit.specs.declared.ledger_state.LedgerState.{LedgerState}
use Rattle.gl_gov_rules.specs.History.{History}
use Rattle.gl_gov_rules.specs.Changes.{history}
use Rattle.gl_gov_rules.specs.Refusals.{refusal}
use Rattle.gl_store_book.proofs.TakenEntries.{refused_unfounded}
use Rattle.gl_store_book.proofs.Unfounded.{unfounded}
use Rattle.gl_store_book.proofs.TailPasts.{history_is}
use Rattle.gl_store_book.proofs.WholeBased.{no_history, no_past}
use Rattle.gl_store_book.proofs.book_ledger.BookLedger.refusal_unfounded.Goals as goal

pub unreachable-requires : goal.unreachable-requires
unreachable-requires c =
    let l = c.args.self.now in
    let past : c.history.result.now ≡ history [] = history_is l c.tail.result.now c.tail.ensures.entries c.tail.ensures.stands _ _ (ap (λ (s : LedgerState). s.gov) c.state.ensures.state) c.history.ensures.history ∙ no_history l c.requires.none in
    unfounded 1 c.args.request.now c.requires.founding c.requires.recovery
    (ap (λ (h : History). refusal h 1 c.args.request.now) (sym past) ∙ sym c.in-Ok-None.ensures.refusal ∙ c.in-Ok-None.field-0-is)

pub returns-in-Ok-Some : goal.returns-in-Ok-Some
returns-in-Ok-Some c =
    let l = c.args.self.now in
    let past : c.history.result.now ≡ history [] = history_is l c.tail.result.now c.tail.ensures.entries c.tail.ensures.stands _ _ (ap (λ (s : LedgerState). s.gov) c.state.ensures.state) c.history.ensures.history ∙ no_history l c.requires.none in
    refused_unfounded l c.args.view c.args.request.now c.in-Ok-Some.why (no_past l c.requires.none) c.requires.fits c.requires.founding c.requires.recovery
    (ap (λ (h : History). refusal h 1 c.args.request.now) (sym past) ∙ sym c.in-Ok-Some.ensures.refusal ∙ c.in-Ok-Some.field-0-is)
