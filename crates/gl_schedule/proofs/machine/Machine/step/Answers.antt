use Rattle.std.proofs.Common.{◌≡◌, ◌++◌, true, ap, subst, sym, ◌∙◌}
use Rattle.std.proofs.lemmas.Result.{on_ok_weaker}
use Rattle.gl_world.specs.Founding.{node_ids}
use Rattle.gl_world.specs.Happened.{answer_to}
use Rattle.gl_world.specs.Held.{may_happen}
use Rattle.gl_world.specs.World.{ServiceOutcome}
use Rattle.gl_schedule.specs.Playing.{Playing}
use Rattle.gl_schedule.specs.Text.{outcome_text}
use Rattle.gl_schedule.proofs.machine.Machine.step.Goals as goal
use Rattle.gl_schedule.proofs.machine.Machine.step.Goals.{in-Ok+in-Accepted+in-Replied-1, in-Ok+in-Accepted+in-Governed-1, in-Ok+in-Done-1, in-Err}

pub step-requires : goal.step-requires
step-requires g c = record { here = subst (λ (p : Playing). may_happen p.world c.args.event ≡ true) (sym c.self.view_is) c.requires.here }

pub returns-clause-reported : goal.returns-clause-reported
returns-clause-reported g c =
    let s = c.self.inside.world.settings in
    let held = ap (λ (p : Playing). c.args.out.now.items ++ outcome_text p.world.settings (answer_to p.world c.args.event)) c.self.view_is in
    let ids = c.self.invariant.ids ∙ ap node_ids (sym c.self.invariant.world) in
    let says = λ (o : ServiceOutcome). c.args.out.now.items ++ outcome_text s o in
    elim c.match-step.branch [
      | in-Ok+in-Accepted+in-Replied-1 w ↦ rw (w.result-is, w.out-is) (on_ok_weaker w.put_outcome.result (λ reported. reported s ∙ ap says w.in-Ok.ensures.happened.answer ∙ held) w.put_outcome.ensures)
      | in-Ok+in-Accepted+in-Governed-1 w ↦ rw (w.result-is, w.out-is) (on_ok_weaker w.put_outcome.result (λ reported. reported s ∙ ap says w.in-Ok.ensures.happened.answer ∙ held) w.put_outcome.ensures)
      | in-Ok+in-Done-1 w ↦ rw (w.result-is, w.out-is) (on_ok_weaker w.put_outcome.result (λ reported. reported s ∙ ap says w.in-Ok.ensures.happened.answer ∙ held) w.put_outcome.ensures)
      | in-Err w ↦ rw (w.result-is, w.out-is) (on_ok_weaker w.put_refusal.result (λ reported. reported s (w.deref.ensures.value ∙ ids) _ w.in-Err.ensures.refused.answer ∙ held) w.put_refusal.ensures.reported)
    ]
