use Rattle.std.proofs.Common.{ℕ, ◌+◌, ◌∙◌, ap, sym, subst}
use Rattle.gl_gov_rules.specs.History.{History}
use Rattle.gl_gov_rules.specs.Refusals.{refusal}
use Rattle.gl_ledger.specs.Past.{past_over}
use Rattle.gl_audit.specs.GovState.{Refuses, history_of}
use Rattle.gl_audit.proofs.PastOver.{history_kept, later_kept, len_kept}
use Rattle.gl_audit.proofs.RuleTests.{effect_kept, founding_asked, governance_accepted, governance_refused}
use Rattle.gl_audit.proofs.ledger_state.LedgerState.broken_by_governance.Goals as goal

pub effect-requires-clause-above : goal.effect-requires-clause-above
effect-requires-clause-above c =
    later_kept c.requires.state.0 c.requires.state.1 c.args.self.now c.requires.state.2 c.next_seqno-seqno.result c.next_seqno-seqno.ensures

pub effect-requires-clause-founding : goal.effect-requires-clause-founding
effect-requires-clause-founding c =
    let body = c.requires.state.0 in
    let es = c.requires.state.1 in
    let k = c.requires.state.2 in
    founding_asked body es c.args.self.now c.args.request.now c.args.entry.now.view k (c.requires.view body es k) (c.requires.order body es k)

pub returns-in-Ok-clause-broken : goal.returns-in-Ok-clause-broken
returns-in-Ok-clause-broken c = λ body es k.
    let seqno = c.next_seqno-seqno.result in
    let g = c.args.request.now in
    governance_accepted (past_over body es) g c.args.entry.now seqno (c.next_seqno-seqno.ensures ∙ ap (λ (n : ℕ). n + 1) (sym (len_kept body es c.args.self.now k)))
    c.as_slice.result.now c.with_other_writes.result
    (ap (λ (h : History). refusal h seqno g) (history_kept body es c.args.self.now k) ∙ c.in-Ok.ensures.accepted)
    (c.as_slice.ensures.value ∙ c.in-Ok.ensures.writes ∙ sym (effect_kept body es c.args.self.now (record { seqno = seqno; request = g }) k))
    c.with_other_writes.ensures.some c.with_other_writes.ensures.none

pub returns-in-Err-Fault-clause-broken : goal.returns-in-Err-Fault-clause-broken
returns-in-Err-Fault-clause-broken c = λ body es k.
    let seqno = c.next_seqno-seqno.result in
    let g = c.args.request.now in
    governance_refused (past_over body es) g c.args.entry.now seqno (c.next_seqno-seqno.ensures ∙ ap (λ (n : ℕ). n + 1) (sym (len_kept body es c.args.self.now k))) c.in-Err-Fault.why
    (ap (λ (h : History). refusal h seqno g) (history_kept body es c.args.self.now k)
    ∙ subst (Refuses (refusal (history_of c.args.self.now.gov) seqno g)) c.in-Err-Fault.field-0-is c.in-Err-Fault.ensures.refused)
