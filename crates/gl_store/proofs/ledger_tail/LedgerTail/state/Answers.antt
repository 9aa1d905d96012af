use Rattle.std.proofs.Common.{subst}
use Rattle.gl_audit.specs.Kept.{IsState}
use Rattle.gl_store.specs.Tail.{Tail}
use Rattle.gl_store.proofs.ledger_tail.LedgerTail.state.Goals as goal

pub returns-clause-stands : goal.returns-clause-stands
returns-clause-stands c = let b = c.self.invariant in subst (λ (t : Tail). IsState t.state) c.self.view_is (b.0, _, b.1.stands)
