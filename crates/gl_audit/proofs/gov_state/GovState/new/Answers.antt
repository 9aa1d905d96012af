use Rattle.gl_audit.proofs.GovStates.{state_of_none}
use Rattle.gl_audit.proofs.gov_state.GovState.new.Goals as goal

pub invariant_of-result : goal.invariant_of-result
invariant_of-result c = state_of_none _ c.new.ensures
