use Rattle.std.proofs.Common.{◌∙◌, ap, arith}
use Rattle.gl_audit.specs.GovState.{governed_up_to}
use Rattle.gl_audit.proofs.GovStates.{below_next, taken_back, state_at_first, taken_at_first}
use Rattle.gl_audit.proofs.gov_state.GovState.take_back.Goals as goal

pub cut-requires : goal.cut-requires
cut-requires c = record { whole = below_next _ c.args.seqno c.in-Some.before (omega (arith, c.in-Some.ensures.0, c.in-Some.ensures.1)) c.requires.above_base }

pub returns-in-Some : goal.returns-in-Some
returns-in-Some c = λ g request later is.
    c.cut.ensures ∙ ap (governed_up_to c.in-Some.before) is
    ∙ taken_back c.args.seqno c.in-Some.before g request (omega (arith, c.in-Some.ensures.0, c.in-Some.ensures.1)) later

pub invariant_of-self : goal.invariant_of-self
invariant_of-self c = state_at_first _ _ _ _ c.args.seqno c.self.view_is c.in-None.ensures c.requires.above_base c.new.ensures

pub returns-in-None : goal.returns-in-None
returns-in-None c = λ g request later is.
    taken_at_first _ _ _ _ g c.args.seqno c.self.view_is c.in-None.ensures c.requires.above_base c.new.ensures later
