use Rattle.std.proofs.Common.{List, ◌<◌, length, ◌-◌, slice_get, sym, ◌∙◌, ap, subst}
use Rattle.gl_gov_rules.specs.declared.change.Recorded.{Recorded}
use Rattle.gl_gov_base.specs.GovernedOver.{base_seqno}
use Rattle.gl_audit.specs.GovState.{Governed, IsLater, seqno_or, last_seqno}
use Rattle.gl_audit.proofs.GovStates.{later_than_base, later_than_last}
use Rattle.gl_audit.proofs.gov_state.GovState.last_seqno.Goals as goal

pub returns-in-Some : goal.returns-in-Some
returns-in-Some c =
    let rs : List Recorded = c.self.inside.past.requests in
    let at = ap (λ (rs : List Recorded). slice_get rs (length rs - 1)) (sym c.requests.ensures) ∙ sym c.in-Some.ensures.value in
    record {
      last = sym (ap last_seqno (sym c.self.view_is) ∙ ap (seqno_or _) at);
      above = λ seqno more. subst (IsLater seqno) c.self.view_is (later_than_last _ rs c.in-Some.last.now seqno c.self.invariant.governed.accepted at more);
    }

pub returns-in-None : goal.returns-in-None
returns-in-None c =
    let rs : List Recorded = c.self.inside.past.requests in
    let at = ap (λ (rs : List Recorded). slice_get rs (length rs - 1)) (sym c.requests.ensures) ∙ sym c.in-None.ensures.value in
    let based = c.base_seqno.ensures ∙ ap (λ (g : Governed). base_seqno g.base) (sym c.self.view_is) in
    record {
      last = based ∙ sym (ap last_seqno (sym c.self.view_is) ∙ ap (seqno_or _) at);
      above = λ seqno more. subst (IsLater seqno) c.self.view_is (later_than_base _ rs seqno at (subst (λ n. n < seqno) based more));
    }
