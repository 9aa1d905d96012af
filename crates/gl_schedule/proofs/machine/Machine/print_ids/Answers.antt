use Rattle.std.proofs.Common.{◌++◌, false, true, ap, ◌∙◌, sym}
use Rattle.std.proofs.lemmas.Result.{on_ok_weaker}
use Rattle.gl_world.specs.Held.{node_now}
use Rattle.gl_schedule.specs.Text.{committed_entries, ids_text}
use Rattle.gl_schedule.specs.Output.{Answers}
use Rattle.gl_schedule.specs.Playing.{Playing}
use Rattle.gl_schedule.proofs.EventLemmas.{group_from, node_from, prints_no_node, prints_node, seen_from}
use Rattle.gl_schedule.proofs.machine.Machine.print_ids.Goals as goal

pub returns-then-not-has_node : goal.returns-then-not-has_node
returns-then-not-has_node g c =
    let m = c.args.self.now in
    let held = sym (ap (λ (p : Playing). p.world) c.self.view_is) in
    let group = group_from m _ _ held c.self.invariant.world c.self.invariant.group in
    let none = node_from m _ c.args.node _ _ false held c.node_number-node.ensures c.has_node.ensures c.if-not-has_node.true in
    record {
      prints = on_ok_weaker c.put_unnamed.result (λ w. prints_no_node m group c.args.node (λ t x. Answers (ids_text (committed_entries (t.world.nodes x)))) _ _ none w) c.put_unnamed.ensures;
    }

pub returns : goal.returns
returns g c =
    let m = c.args.self.now in
    let held = sym (ap (λ (p : Playing). p.world) c.self.view_is) in
    let group = group_from m _ _ held c.self.invariant.world c.self.invariant.group in
    let some = node_from m _ c.args.node _ _ true held c.node_number-node.ensures c.has_node.ensures c.if-not-has_node.false in
    record {
      prints = on_ok_weaker c.put_ids.result
          (λ w. prints_node m group c.args.node (λ n. ids_text (committed_entries n)) _ _ some
          (w ∙ ap (λ x. c.args.out.now.items ++ ids_text x) c.committed_entries.ensures
          ∙ seen_from m _ _ c.args.node (λ h k. c.args.out.now.items ++ ids_text (committed_entries (node_now h k))) held c.node_number-node.ensures)) c.put_ids.ensures;
    }
