use Rattle.std.proofs.Common.{◌≤◌, ap, subst, sym, ◌∙◌}
use Rattle.gl_base.specs.Answers.{Fails}
use Rattle.gl_store_book.specs.BasedLedgers.{BasedLedger, base_of, cut_to}
use Rattle.gl_store_book.specs.Taken.{appended}
use Rattle.gl_store_book.proofs.book_ledger.BookLedger.append_to_copy.Goals as goal

pub cut-requires : goal.cut-requires
cut-requires c = record { from_base = subst (λ (l : BasedLedger). base_of l ≤ c.args.seqno) (sym c.in_ok-copy.ensures) c.requires.from_base }

pub returns-clause-replaced : goal.returns-clause-replaced
returns-clause-replaced c =
    ap (λ (l : BasedLedger). appended l c.args.entries.now) (sym (c.cut.ensures ∙ ap (cut_to c.args.seqno) c.in_ok-copy.ensures)) ∙ c.in_default.ensures.appended

pub returns-in-Err-clause-refused : goal.returns-in-Err-clause-refused
returns-in-Err-clause-refused c =
    subst (λ (l : BasedLedger). Fails c.in-Err.error (appended l c.args.entries.now))
    (c.cut.ensures ∙ ap (cut_to c.args.seqno) c.in_ok-copy.ensures) c.in-Err.ensures.refused
