use Rattle.std.proofs.lemmas.Result.{on_ok_weaker}
use Rattle.gl_schedule.proofs.EventLemmas.{line_happens}
use Rattle.gl_schedule.proofs.machine.Machine.play.Goals as goal

pub returns-in-Ok : goal.returns-in-Ok
returns-in-Ok g c = record {
  prints = on_ok_weaker c.apply_event.result
      (λ prints. line_happens c.args.self.now _ c.args.number c.args.line c.in-Ok.event _ _ c.apply_event.ensures.group c.in-Ok.ensures.event prints) c.apply_event.ensures.prints;
}
