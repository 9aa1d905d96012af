use Rattle.gl_audit.proofs.GovStates.{state_bounded}
use Rattle.gl_audit.proofs.gov_state.GovState.selected_rows.Goals as goal

pub selected_rows-requires : goal.selected_rows-requires
selected_rows-requires c = record { bounded = state_bounded _ _ c.self.invariant }
