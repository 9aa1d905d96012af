use Rattle.gl_gov_base.proofs.RequestsOver.{over_rise}
use Rattle.gl_audit.proofs.GovStates.{view_below, state_cut}
use Rattle.gl_audit.proofs.gov_state.GovState.cut.Goals as goal

pub cut-requires-clause-rising : goal.cut-requires-clause-rising
cut-requires-clause-rising c = over_rise _ _ c.self.invariant.governed.accepted

pub cut-requires-clause-whole : goal.cut-requires-clause-whole
cut-requires-clause-whole c = (_, c.self.invariant.past_is, view_below _ _ _ c.args.to c.self.view_is c.requires.whole)

pub invariant_of-self : goal.invariant_of-self
invariant_of-self c =
    state_cut _ _ _ c.args.to c.self.invariant
    (c.cut.ensures.cut _ c.self.invariant.past_is (view_below _ _ _ c.args.to c.self.view_is c.requires.whole)) c.cut.ensures.requests
