use Rattle.std.proofs.Common.{◌≡◌, ◌∙◌, ap}
use Rattle.gl_vmaps.specs.Changes.{changes}
use Rattle.gl_requests.specs.declared.request.GovernanceRequest.{GovernanceRequest}
use Rattle.gl_gov_rules.specs.declared.change.Recorded.{Recorded}
use Rattle.gl_gov_rules.specs.History.{History}
use Rattle.gl_gov_rules.specs.Rows.{rows}
use Rattle.gl_gov_base.specs.Law.{writes_over}
use Rattle.gl_gov_base.proofs.RequestsOver.{over_more}
use Rattle.gl_gov.specs.Touched.{touched_by}
use Rattle.gl_gov.proofs.TouchedRows.{reported_writes}
use Rattle.gl_audit.specs.GovState.{Governed, history_of}
use Rattle.gl_audit.proofs.GovStates.{past_of}
use Rattle.gl_audit.proofs.gov_state.GovState.step.Goals as goal

pub returns-in-Ok-clause-writes : goal.returns-in-Ok-clause-writes
returns-in-Ok-clause-writes c =
    let r : Recorded = record { seqno = c.args.seqno; request = c.in_ok-copy.field-0 } in
    let old : Governed = c.args.self.now in
    let past : c.self.inside.past ≡ history_of old = past_of _ _ old c.self.invariant c.self.view_is in
    reported_writes (history_of old) (history_of c.push.new.self) r c.in_ok-touched.touched c.in_ok-before.before _
    (c.in_ok-touched.ensures ∙ ap (λ (h : History). touched_by h r) past) c.in_ok-before.ensures.rows
    (ap history_of c.in_ok-push.ensures.recorded ∙ over_more old.base old.requests r) c.in-Ok.ensures.writes
    ∙ ap (λ (g : Governed). changes (rows (history_of old)) (rows (history_of g))) c.in_ok-push.ensures.recorded
    ∙ ap (λ (q : GovernanceRequest). writes_over old.base old.requests (record { seqno = c.args.seqno; request = q })) c.in_ok-copy.ensures
