use Rattle.std.proofs.Common.{List, ap, subst, sym, ◌∙◌}
use Rattle.gl_entry.specs.declared.entry.Entry.{Entry}
use Rattle.gl_audit.specs.Kept.{IsStateOver}
use Rattle.gl_audit.specs.declared.ledger_end.LedgerEnd.{LedgerEnd}
use Rattle.gl_audit.specs.declared.ledger_state.LedgerState.{LedgerState}
use Rattle.gl_ledger.specs.Past.{is_unopened}
use Rattle.gl_ledger.specs.Recordings.{last_entry}
use Rattle.gl_store_book.specs.BasedLedgers.{body_of}
use Rattle.gl_store_book.proofs.TailPasts.{unopened_over}
use Rattle.gl_store_book.proofs.whole_ledger.WholeLedger.is_unopened.Goals as goal

pub returns : goal.returns
returns c =
    let body = body_of c.self.inside.ledger.snapshot in
    let es = c.tail.result.now.entries in
    let state = subst (λ (s : LedgerState). IsStateOver body es s) (sym c.state.ensures.state) c.tail.ensures.stands.stands in
    ap (λ (end : LedgerEnd). end.is_unopened) (c.end.ensures body es state) ∙ unopened_over body es
    ∙ ap (λ (l : List Entry). is_unopened (last_entry l)) (c.tail.ensures.entries ∙ c.self.view_is)
