use Rattle.std.proofs.Common.{◌≡◌, ◌-◌, suc, arith}
use Rattle.std.proofs.lemmas.Result.{on_ok_weaker}
use Rattle.gl_schedule.proofs.EventLemmas.{delivers_one}
use Rattle.gl_schedule.proofs.machine.Machine.deliver.Goals as goal

pub returns : goal.returns
returns g c =
    let some : c.args.message ≡ suc (c.args.message - 1) = omega (arith, c.if-message-eq0.false) in
    record { prints = on_ok_weaker c.apply_event.result (λ prints. delivers_one c.args.self.now _ c.args.message _ _ _ some prints) c.apply_event.ensures.prints }
