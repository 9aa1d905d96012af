use Rattle.std.proofs.Common.{ℕ, List, false, true, ap, subst, sym, ◌∙◌}
use Rattle.std.proofs.lemmas.Result.{on_ok_weaker}
use Rattle.gl_schedule.specs.declared.line_request.LineRequest.{LineRequest}
use Rattle.gl_schedule.specs.Governed.{request_named}
use Rattle.gl_schedule.specs.Play.{Sends, byte_number}
use Rattle.gl_schedule.specs.Playing.{IsSent, Playing}
use Rattle.gl_schedule.specs.Output.{repeats}
use Rattle.gl_schedule.proofs.EventLemmas.{group_from, node_from, prints_no_node}
use Rattle.gl_schedule.proofs.RequestLemmas.{found_sent, prints_at, prints_not_repeated, prints_repeated}
use Rattle.gl_schedule.proofs.machine.Machine.repeat.Goals as goal

pub returns-then-not-has_node : goal.returns-then-not-has_node
returns-then-not-has_node g c =
    let m = c.args.self.now in
    let held = sym (ap (λ (p : Playing). p.world) c.self.view_is) in
    let group = group_from m _ _ held c.self.invariant.world c.self.invariant.group in
    let none = node_from m _ c.args.node _ _ false held c.node_number-node.ensures c.has_node.ensures c.if-not-has_node.true in
    record { prints = on_ok_weaker c.put_unnamed.result (λ w. prints_no_node m group c.args.node (λ t x. repeats x (request_named t.requests c.args.line)) _ _ none w c.args.number) c.put_unnamed.ensures }

pub send-requires-clause-sent : goal.send-requires-clause-sent
send-requires-clause-sent g c =
    subst IsSent (sym c.in_ok-request-in-Some.ensures)
    (found_sent c.args.line c.self.inside.requests.items c.in-Some.earlier.now c.self.invariant.sent (sym (rw c.deref.ensures.value at c.in-Some.ensures)))

pub returns-in-None : goal.returns-in-None
returns-in-None g c =
    let m = c.args.self.now in
    let held = sym (ap (λ (p : Playing). p.world) c.self.view_is) in
    let group = group_from m _ _ held c.self.invariant.world c.self.invariant.group in
    let some = node_from m _ c.args.node _ _ true held c.node_number-node.ensures c.has_node.ensures c.if-not-has_node.false in
    record {
      prints = on_ok_weaker c.put_unnamed-in-None.result
          (λ w. prints_at m m group c.args.number c.args.node (λ s t x. repeats x (request_named t.requests c.args.line)) _ _ some
          (prints_not_repeated m c.args.number (byte_number c.args.node) c.args.line _ _
          (ap (λ (rs : List LineRequest). request_named rs c.args.line) (sym (ap (λ (p : Playing). p.requests) c.self.view_is)) ∙ sym (rw c.deref.ensures.value at c.in-None.ensures)) w)) c.put_unnamed-in-None.ensures;
    }

pub returns-in_ok-request-in-Some : goal.returns-in_ok-request-in-Some
returns-in_ok-request-in-Some g c =
    let m = c.args.self.now in
    let held = sym (ap (λ (p : Playing). p.world) c.self.view_is) in
    let group = group_from m _ _ held c.self.invariant.world c.self.invariant.group in
    let some = node_from m _ c.args.node _ _ true held c.node_number-node.ensures c.has_node.ensures c.if-not-has_node.false in
    record {
      prints = on_ok_weaker c.send.result
          (λ sends. prints_at m _ group c.args.number c.args.node (λ s t x. repeats x (request_named t.requests c.args.line)) _ _ some
          (prints_repeated m _ c.args.number (byte_number c.args.node) c.args.line c.in-Some.earlier.now _ _ _
          (ap (λ (rs : List LineRequest). request_named rs c.args.line) (sym (ap (λ (p : Playing). p.requests) c.self.view_is)) ∙ sym (rw c.deref.ensures.value at c.in-Some.ensures)) c.in_ok-request-in-Some.ensures (subst (λ (k : ℕ). Sends m c.args.number k c.in_ok-request-in-Some.request c.send.new.self c.args.out.now.items c.send.new.out.items) c.node_number-node.ensures sends))) c.send.ensures;
    }
