use Rattle.std.proofs.Common.{sym, ◌∙◌, ap}
use Rattle.gl_audit.specs.GovState.{Governed}
use Rattle.gl_audit.proofs.GovStates.{state_same}
use Rattle.gl_audit.proofs.gov_state.GovState.copy.Goals as goal

pub invariant_of-result : goal.invariant_of-result
invariant_of-result c = state_same _ _ _ _ c.self.invariant (c.in_ok-shared_base.ensures ∙ ap (λ (g : Governed). g.base) (sym c.self.view_is)) c.in_ok-copy.ensures
