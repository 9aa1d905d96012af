-- The step by induction: after any accepted list of requests above the base histories stay alike.
use Rattle.std.proofs.Common.{ℕ, List, [], ◌∷◌, sym, ◌∙◌}
use Rattle.gl_gov_rules.specs.declared.change.Recorded.{Recorded}
use Rattle.gl_gov_rules.specs.History.{History}
use Rattle.gl_gov_rules.specs.Changes.{with_request}
use Rattle.gl_gov_base.specs.Alike.{Alike}
use Rattle.gl_gov_base.specs.Law.{AreAccepted, history_after}
use Rattle.gl_gov_base.proofs.SameRefusals.{same_refusal}
use Rattle.gl_gov_base.proofs.SameChanges.{alike_request}
use Rattle.gl_gov_base.proofs.NewRequests.{is_new}

pub alike_after : (base : ℕ) (a b : History) (es : List Recorded) → Alike base a b → AreAccepted base a es → Alike base (history_after a es) (history_after b es)
alike_after base a b [] x all = x
alike_after base a b (r ∷ es) x all =
    alike_after base (with_request a r) (with_request b r) es (alike_request base a b x r (is_new base a r all.0 all.1 all.2)) all.3

-- what is accepted after one is accepted after the other
pub accepted_alike : (base : ℕ) (a b : History) (es : List Recorded) → Alike base a b → AreAccepted base a es → AreAccepted base b es
accepted_alike base a b [] x all = tt
accepted_alike base a b (r ∷ es) x all = (
  all.0,
  all.1,
  sym (same_refusal base a b x r.seqno all.0 r.request all.1) ∙ all.2,
  accepted_alike base (with_request a r) (with_request b r) es (alike_request base a b x r (is_new base a r all.0 all.1 all.2)) all.3,
)
