use Rattle.std.proofs.Common.{◌≡◌, None, subst}
use Rattle.gl_ledger.specs.Recordings.{requests_of}
use Rattle.gl_audit.specs.Committed.{Held}
use Rattle.gl_store.proofs.KeptEntries.{state_of}
use Rattle.gl_store.proofs.store.Store.gov.Goals as goal

pub returns : goal.returns
returns c = record {
  gov = subst (λ (h : Held). c.state.result.now.gov ≡ record { base = None; requests = requests_of h.ledger }) c.self.view_is
      (state_of c.self.inside.tail _ c.state.result.now c.self.invariant c.state.ensures.state).governed;
}
