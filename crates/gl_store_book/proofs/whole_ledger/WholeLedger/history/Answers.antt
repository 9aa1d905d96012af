use Rattle.std.proofs.Common.{List, ap, ◌∙◌}
use Rattle.gl_entry.specs.declared.entry.Entry.{Entry}
use Rattle.gl_audit.specs.declared.ledger_state.LedgerState.{LedgerState}
use Rattle.gl_gov_rules.specs.Changes.{history}
use Rattle.gl_ledger.specs.Recordings.{requests_of}
use Rattle.gl_store_book.proofs.TailPasts.{history_is}
use Rattle.gl_store_book.proofs.WholeBased.{whole_history}
use Rattle.gl_store_book.proofs.whole_ledger.WholeLedger.history.Goals as goal

pub returns : goal.returns
returns c =
    history_is c.self.inside.ledger c.tail.result.now c.tail.ensures.entries c.tail.ensures.stands _ _ (ap (λ (s : LedgerState). s.gov) c.state.ensures.state) c.history.ensures.history
    ∙ whole_history c.self.inside.ledger c.self.invariant ∙ ap (λ (es : List Entry). history (requests_of es)) c.self.view_is
