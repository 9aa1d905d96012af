use Rattle.std.proofs.Common.{subst}
use Rattle.gl_vmaps.specs.Standing.{StandsFor}
use Rattle.gl_ledger.specs.Tree.{writes_of}
use Rattle.gl_audit.specs.Committed.{Held}
use Rattle.gl_store.proofs.KeptEntries.{state_of}
use Rattle.gl_store.proofs.store.Store.tables.Goals as goal

pub returns-clause-stands : goal.returns-clause-stands
returns-clause-stands c =
    subst (λ (h : Held). StandsFor c.state.result.now.tables (writes_of h.ledger)) c.self.view_is
    (state_of c.self.inside.tail _ c.state.result.now c.self.invariant c.state.ensures.state).tables_are

pub returns-clause-base : goal.returns-clause-base
returns-clause-base c = (state_of c.self.inside.tail _ c.state.result.now c.self.invariant c.state.ensures.state).tables_from
