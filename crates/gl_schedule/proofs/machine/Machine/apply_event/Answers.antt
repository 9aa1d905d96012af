use Rattle.std.proofs.Common.{ℕ, List, ◌++◌, false, true, ap, sym, ◌∙◌, append_assoc}
use Rattle.std.proofs.lemmas.Result.{on_ok_weaker}
use Rattle.gl_world.specs.Happened.{answer_to}
use Rattle.gl_world.specs.Held.{world_now}
use Rattle.gl_schedule.specs.Playing.{Playing}
use Rattle.gl_schedule.specs.Text.{outcome_text, sent_text}
use Rattle.gl_schedule.proofs.EventLemmas.{group_from, happens_not, happens_printed, may_from, sent_is}
use Rattle.gl_schedule.proofs.machine.Machine.apply_event.Goals as goal

pub returns-then-not-may_happen : goal.returns-then-not-may_happen
returns-then-not-may_happen g c =
    let m = c.args.self.now in
    let held = sym (ap (λ (p : Playing). p.world) c.self.view_is) in
    record {
      group = group_from m _ _ held c.self.invariant.world c.self.invariant.group;
      prints = on_ok_weaker c.put_unnamed.result
          (λ w. happens_not m c.args.event _ _ (may_from m _ c.args.event _ false held c.may_happen.ensures c.if-not-may_happen.true) w) c.put_unnamed.ensures;
    }

pub step-requires : goal.step-requires
step-requires g c =
    let held = sym (ap (λ (p : Playing). p.world) c.self.view_is) in
    record { here = may_from c.args.self.now _ c.args.event _ true held c.may_happen.ensures c.if-not-may_happen.false }

pub returns : goal.returns
returns g c =
    let m = c.args.self.now in
    let held = sym (ap (λ (p : Playing). p.world) c.self.view_is) in
    let new = c.step.new.self in
    let sent = sent_text (world_now m.world) (world_now new.world) in
    record {
      group = group_from m _ _ held c.self.invariant.world c.self.invariant.group;
      prints = on_ok_weaker c.put_sent.result
          (λ w. happens_printed m new c.args.event _ _ (may_from m _ c.args.event _ true held c.may_happen.ensures c.if-not-may_happen.false) c.in_ok-step.ensures.becomes
          (sent_is (world_now m.world) (world_now new.world) c.step.new.out.items _ _ _ c.sent-before.ensures c.sent.ensures w
          ∙ ap (λ (l : List ℕ). l ++ sent) c.in_ok-step.ensures.reported
          ∙ append_assoc c.args.out.now.items (outcome_text m.world.settings (answer_to m.world c.args.event)) sent)) c.put_sent.ensures;
    }
