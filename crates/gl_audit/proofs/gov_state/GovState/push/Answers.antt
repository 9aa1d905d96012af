use Rattle.std.proofs.Common.{map, sym, ◌∙◌, ap, subst}
use Rattle.gl_gov_rules.specs.History.{History}
use Rattle.gl_gov_rules.specs.Changes.{changes_of, changed_at}
use Rattle.gl_audit.proofs.GovStates.{IsState, past_of, request_follows, state_recorded}
use Rattle.gl_audit.proofs.gov_state.GovState.push.Goals as goal

pub invariant_of-self : goal.invariant_of-self
invariant_of-self c = subst (IsState _) (sym c.in_err-push_recorded.ensures.kept) c.self.invariant

pub invariant_of-self-2 : goal.invariant_of-self-2
invariant_of-self-2 c =
    state_recorded _ c.self.inside.past c.push_recorded.new.self c.args.recorded _ c.self.invariant
    (request_follows _ _ _ c.args.recorded c.self.view_is c.requires.above c.requires.fits c.requires.founding c.requires.accepted)
    (c.requires.brought ∙ ap (λ (h : History). map (changed_at c.args.recorded.seqno) (changes_of h c.args.recorded)) (sym (past_of _ _ _ c.self.invariant c.self.view_is)))
    c.in_ok-push_recorded.ensures.pushed
