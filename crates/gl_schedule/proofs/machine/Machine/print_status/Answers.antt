use Rattle.std.proofs.Common.{◌++◌, false, true, ap, ◌∙◌, sym}
use Rattle.std.proofs.lemmas.Result.{on_ok_weaker}
use Rattle.gl_rules.specs.Safety.{reported_status}
use Rattle.gl_world.specs.Group.{book_of}
use Rattle.gl_world.specs.Held.{node_now}
use Rattle.gl_schedule.specs.Text.{status_text}
use Rattle.gl_schedule.specs.Output.{Answers}
use Rattle.gl_schedule.specs.Playing.{Playing}
use Rattle.gl_schedule.proofs.EventLemmas.{group_from, node_from, prints_no_node, prints_node, seen_from}
use Rattle.gl_schedule.proofs.machine.Machine.print_status.Goals as goal

pub returns-then-not-has_node : goal.returns-then-not-has_node
returns-then-not-has_node g c =
    let m = c.args.self.now in
    let held = sym (ap (λ (p : Playing). p.world) c.self.view_is) in
    let group = group_from m _ _ held c.self.invariant.world c.self.invariant.group in
    let none = node_from m _ c.args.node _ _ false held c.node_number-node.ensures c.has_node.ensures c.if-not-has_node.true in
    record {
      prints = on_ok_weaker c.put_unnamed.result (λ w. prints_no_node m group c.args.node (λ t x. Answers (status_text (reported_status (book_of m.world.settings) (t.world.nodes x) c.args.id))) _ _ none w) c.put_unnamed.ensures;
    }

pub returns : goal.returns
returns g c =
    let m = c.args.self.now in
    let held = sym (ap (λ (p : Playing). p.world) c.self.view_is) in
    let group = group_from m _ _ held c.self.invariant.world c.self.invariant.group in
    let some = node_from m _ c.args.node _ _ true held c.node_number-node.ensures c.has_node.ensures c.if-not-has_node.false in
    record {
      prints = on_ok_weaker c.put_status.result
          (λ w. prints_node m group c.args.node (λ n. status_text (reported_status (book_of m.world.settings) n c.args.id)) _ _ some
          (w ∙ ap (λ x. c.args.out.now.items ++ status_text x) c.status.ensures
          ∙ seen_from m _ _ c.args.node (λ h k. c.args.out.now.items ++ status_text (reported_status (book_of h.settings) (node_now h k) c.args.id)) held c.node_number-node.ensures)) c.put_status.ensures;
    }
