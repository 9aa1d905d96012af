use Rattle.std.proofs.Common.{◌≡◌, ◌+◌, None, length, ap, subst, arith, ◌∙◌}
use Rattle.gl_ledger.specs.Audit.{audited}
use Rattle.gl_ledger.specs.NodeKeys.{service_layers}
use Rattle.gl_ledger.specs.Sound.{IsSound}
use Rattle.gl_snapshot_body.specs.Body.{no_body}
use Rattle.gl_audit.specs.Committed.{Held}
use Rattle.gl_audit.proofs.KeptLedgers.{state_sound}
use Rattle.gl_store.proofs.store.Store.ledger_len.Goals as goal

pub returns-clause-len : goal.returns-clause-len
returns-clause-len c =
    let len : c.ledger_len.result ≡ 0 + length c.self.inside.tail.entries = c.ledger_len.ensures.len no_body c.self.invariant.stands in
    let same : c.ledger_len.result ≡ length c.self.inside.tail.entries = omega (arith, len) in
    same ∙ ap (λ (h : Held). length h.ledger) c.self.view_is

pub returns-clause-valid : goal.returns-clause-valid
returns-clause-valid c = subst (λ (h : Held). audited service_layers h.ledger ≡ None) c.self.view_is c.self.invariant.stands.stands.valid

pub returns-clause-sound : goal.returns-clause-sound
returns-clause-sound c = subst (λ (h : Held). IsSound service_layers h.ledger) c.self.view_is (state_sound c.self.inside.tail.entries c.self.inside.tail.state c.self.invariant.stands.stands)
