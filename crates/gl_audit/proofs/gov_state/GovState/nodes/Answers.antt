use Rattle.gl_audit.proofs.GovStates.{state_bounded}
use Rattle.gl_audit.proofs.gov_state.GovState.nodes.Goals as goal

pub node_rows-requires : goal.node_rows-requires
node_rows-requires c = (state_bounded _ _ c.self.invariant).few_nodes
