use Rattle.std.proofs.Common.{◌≡◌, subst}
use Rattle.gl_audit.specs.Committed.{Held}
use Rattle.gl_store.proofs.KeptEntries.{state_of}
use Rattle.gl_store.proofs.store.Store.last_signature.Goals as goal
use Rattle.gl_ledger.specs.Past.{last_signed}

pub returns : goal.returns
returns c = subst (λ (h : Held). c.last_signed.result ≡ last_signed h.ledger) c.self.view_is (c.last_signed.ensures _ c.self.inside.tail.entries (state_of c.self.inside.tail _ c.state.result.now c.self.invariant c.state.ensures.state))
