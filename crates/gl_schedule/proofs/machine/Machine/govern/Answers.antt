use Rattle.std.proofs.Common.{◌++◌, Bool, ap, subst, sym, ◌∙◌, if◌then◌else◌}
use Rattle.gl_replication.specs.Stands.{Answers as Refused}
use Rattle.gl_requests.specs.declared.request.GovernanceRequest.{GovernanceRequest}
use Rattle.gl_world.specs.declared.event.Event.TheVariants as events
use Rattle.gl_world.specs.Founding.{node_ids}
use Rattle.gl_world.specs.Happened.{answer_to, with_event}
use Rattle.gl_world.specs.Held.{Held}
use Rattle.gl_world.specs.World.{ServiceOutcome}
use Rattle.gl_schedule.specs.Playing.{Playing}
use Rattle.gl_schedule.specs.Text.{outcome_text}
use Rattle.gl_schedule.proofs.EventLemmas.{on_ok_both}
use Rattle.gl_schedule.proofs.RequestLemmas.{governs_err, governs_ok}
use Rattle.gl_schedule.proofs.machine.Machine.govern.Goals as goal

pub returns-in-Ok : goal.returns-in-Ok
returns-in-Ok g c =
    let w = c.self.inside.world in
    let ev = events.Govern c.args.node c.args.request.now in
    let view : Held → Playing = λ h. record { world = h; requests = c.self.inside.requests.items; proposals = c.self.inside.proposals; signed = c.self.inside.members.signed } in
    let mid = ap view (c.in-Ok.ensures.happened.grows ∙ ap (λ (q : GovernanceRequest). with_event w (events.Govern c.args.node q)) c.in_ok-copy.ensures)
    ∙ ap (λ (p : Playing). record p { world = with_event p.world ev }) c.self.view_is in
    let answer = c.in-Ok.ensures.happened.answer ∙ ap (λ (q : GovernanceRequest). answer_to w (events.Govern c.args.node q)) c.in_ok-copy.ensures ∙ ap (λ (p : Playing). answer_to p.world ev) c.self.view_is in
    on_ok_both c.print.result
    (λ noted written. governs_ok c.args.self.now _ c.args.node c.args.request.now mid c.print.new.self _ _ _ answer noted written)
    c.print.ensures.becomes c.print.ensures.written

pub returns-in-Err : goal.returns-in-Err
returns-in-Err g c =
    let w = c.self.inside.world in
    let s = w.settings in
    let ev = events.Govern c.args.node c.args.request.now in
    let view : Held → Playing = λ h. record { world = h; requests = c.self.inside.requests.items; proposals = c.self.inside.proposals; signed = c.self.inside.members.signed } in
    let ids = c.self.invariant.ids ∙ ap node_ids (sym c.self.invariant.world) in
    let copied = ap (λ (q : GovernanceRequest). answer_to w (events.Govern c.args.node q)) c.in_ok-copy.ensures in
    let asked = copied ∙ ap (λ (p : Playing). answer_to p.world ev) c.self.view_is in
    on_ok_both c.put_refusal.result
    (λ reported other.
    let left = c.in-Err.ensures.refused.left ∙ ap (λ (b : Bool). if b then w else with_event w (events.Govern c.args.node c.in_ok-copy.field-0)) other in
    let mid = ap view (left ∙ ap (λ (q : GovernanceRequest). with_event w (events.Govern c.args.node q)) c.in_ok-copy.ensures)
    ∙ ap (λ (p : Playing). record p { world = with_event p.world ev }) c.self.view_is in
    governs_err c.args.self.now _ c.args.node c.args.request.now mid c.in-Err.why _ _ other
    (subst (λ (o : ServiceOutcome). Refused c.in-Err.why o) asked c.in-Err.ensures.refused.answer)
    (reported s (c.deref.ensures.value ∙ ids) _ c.in-Err.ensures.refused.answer
    ∙ ap (λ (o : ServiceOutcome). c.args.out.now.items ++ outcome_text s o) copied ∙ ap (λ (p : Playing). c.args.out.now.items ++ outcome_text p.world.settings (answer_to p.world ev)) c.self.view_is))
    c.put_refusal.ensures.reported c.put_refusal.ensures.other
