use Rattle.std.proofs.Common.{◌++◌, [], ◌∷◌, ap, sym, ◌∙◌}
use Rattle.std.proofs.lemmas.Result.{on_ok_weaker}
use Rattle.gl_world.specs.Founding.{id_of}
use Rattle.gl_world.specs.Members.{Signed, next_leaf}
use Rattle.gl_schedule.specs.Playing.{Playing}
use Rattle.gl_schedule.specs.Output.{signs}
use Rattle.gl_schedule.proofs.RequestLemmas.{asked_from, prints_same, prints_spent}
use Rattle.gl_schedule.proofs.machine.Machine.ask.Goals as goal

pub returns-in-Ok : goal.returns-in-Ok
returns-in-Ok g c =
    let view : Signed → Playing = λ k. record { world = c.self.inside.world; requests = c.self.inside.requests.items; proposals = c.self.inside.proposals; signed = k.signed } in
    let became = ap view c.in-Ok.ensures.spent
    ∙ ap (λ (p : Playing). record p { signed = c.self.inside.members.signed ++ c.args.member ∷ [] }) c.self.view_is in
    record {
      prints = on_ok_weaker c.send.result
          (λ sends. asked_from c.args.self.now _ _ c.self.inside.world c.self.inside.members c.self.inside.settings c.args.number c.args.node c.args.member c.args.act c.in-Ok.request _ _
          (ap (λ (p : Playing). p.world) c.self.view_is) c.self.invariant.world c.self.invariant.members (ap (λ (p : Playing). p.signed) c.self.view_is)
          c.in-Ok.ensures.signed c.in-Ok.ensures.left became sends) c.send.ensures;
    }

pub returns-in-Err-Fault : goal.returns-in-Err-Fault
returns-in-Err-Fault g c =
    let m = c.args.self.now in
    let view : Signed → Playing = λ k. record { world = c.self.inside.world; requests = c.self.inside.requests.items; proposals = c.self.inside.proposals; signed = k.signed } in
    let exhausted = rw c.in-Err-Fault.field-0-is at c.in-Err-Fault.ensures.exhausted in
    record {
      prints = on_ok_weaker c.put_spent.result
          (λ w. prints_same m _ c.args.number (λ s t. signs s t (id_of s c.args.node) c.args.member c.args.act) _ _ (ap view c.in-Err-Fault.ensures.err ∙ c.self.view_is)
          (prints_spent m c.args.number c.args.node c.args.member c.args.act _ _ (ap (λ (p : Playing). next_leaf p.signed c.args.member) (sym c.self.view_is) ∙ exhausted.1) w)) c.put_spent.ensures;
    }
