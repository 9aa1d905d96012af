use Rattle.std.proofs.Common.{◌≡◌, ap, subst}
use Rattle.gl_ledger.specs.Past.{is_unopened}
use Rattle.gl_ledger.specs.Recordings.{last_entry}
use Rattle.gl_audit.specs.Committed.{Held}
use Rattle.gl_audit.specs.declared.ledger_end.LedgerEnd.{LedgerEnd}
use Rattle.gl_store.proofs.KeptEntries.{state_of}
use Rattle.gl_store.proofs.store.Store.is_unopened.Goals as goal

pub returns : goal.returns
returns c =
    subst (λ (h : Held). c.end.result.is_unopened ≡ is_unopened (last_entry h.ledger)) c.self.view_is
    (ap (λ (end : LedgerEnd). end.is_unopened) (c.end.ensures _ c.self.inside.tail.entries (state_of c.self.inside.tail _ c.state.result.now c.self.invariant c.state.ensures.state)))
