use Rattle.std.proofs.Common.{subst}
use Rattle.gl_audit.specs.GovState.{IsGoverned}
use Rattle.gl_audit.proofs.gov_state.GovState.len.Goals as goal

pub returns-clause-governed : goal.returns-clause-governed
returns-clause-governed c = subst IsGoverned c.self.view_is c.self.invariant.governed
