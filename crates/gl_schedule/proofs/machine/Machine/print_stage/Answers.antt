use Rattle.std.proofs.Common.{◌++◌, false, true, ap, ◌∙◌, sym}
use Rattle.std.proofs.lemmas.Result.{on_ok_weaker}
use Rattle.gl_rules.specs.Retirement.{stage_at}
use Rattle.gl_world.specs.Founding.{id_of}
use Rattle.gl_world.specs.Group.{book_of}
use Rattle.gl_world.specs.Held.{node_now}
use Rattle.gl_schedule.specs.Play.{byte_number}
use Rattle.gl_schedule.specs.Text.{stage_text}
use Rattle.gl_schedule.specs.Output.{Answers, at_node}
use Rattle.gl_schedule.specs.Playing.{Playing}
use Rattle.gl_schedule.proofs.EventLemmas.{group_from, node_from, prints_no_node, prints_no_other, prints_nodes, seen_from}
use Rattle.gl_schedule.proofs.machine.Machine.print_stage.Goals as goal

pub returns-then-not-has_node : goal.returns-then-not-has_node
returns-then-not-has_node g c =
    let m = c.args.self.now in
    let held = sym (ap (λ (p : Playing). p.world) c.self.view_is) in
    let group = group_from m _ _ held c.self.invariant.world c.self.invariant.group in
    let none = node_from m _ c.args.node _ _ false held c.node_number-node.ensures c.has_node.ensures c.if-not-has_node.true in
    record {
      prints = on_ok_weaker c.put_unnamed.result (λ w. prints_no_node m group c.args.node (λ t x. at_node m.world.settings c.args.other (λ y. Answers (stage_text (stage_at (book_of m.world.settings) (t.world.nodes x) y)))) _ _ none w) c.put_unnamed.ensures;
    }

pub returns-then-not-has_node-2 : goal.returns-then-not-has_node-2
returns-then-not-has_node-2 g c =
    let m = c.args.self.now in
    let held = sym (ap (λ (p : Playing). p.world) c.self.view_is) in
    let group = group_from m _ _ held c.self.invariant.world c.self.invariant.group in
    let some = node_from m _ c.args.node _ _ true held c.node_number-node.ensures c.has_node.ensures c.if-not-has_node.false in
    let none = node_from m _ c.args.other _ _ false held c.node_number-other.ensures c.has_node-2.ensures c.if-not-has_node-2.true in
    record {
      prints = on_ok_weaker c.put_unnamed-then-not-has_node-2.result
          (λ w. prints_no_other m group c.args.node c.args.other (λ t x y. Answers (stage_text (stage_at (book_of m.world.settings) (t.world.nodes x) y))) _ _ some none w) c.put_unnamed-then-not-has_node-2.ensures;
    }

pub returns : goal.returns
returns g c =
    let m = c.args.self.now in
    let held = sym (ap (λ (p : Playing). p.world) c.self.view_is) in
    let group = group_from m _ _ held c.self.invariant.world c.self.invariant.group in
    let some = node_from m _ c.args.node _ _ true held c.node_number-node.ensures c.has_node.ensures c.if-not-has_node.false in
    let also = node_from m _ c.args.other _ _ true held c.node_number-other.ensures c.has_node-2.ensures c.if-not-has_node-2.false in
    record {
      prints = on_ok_weaker c.put_stage.result
          (λ w. prints_nodes m group c.args.node c.args.other (λ n y. stage_text (stage_at (book_of m.world.settings) n y)) _ _ some also
          (w ∙ ap (λ x. c.args.out.now.items ++ stage_text x) c.stage.ensures
          ∙ ap (λ j. c.args.out.now.items ++ stage_text (stage_at (book_of c.self.inside.world.settings) (node_now c.self.inside.world c.node_number-node.result) (id_of c.self.inside.world.settings j))) c.node_number-other.ensures
          ∙ seen_from m _ _ c.args.node (λ h k. c.args.out.now.items ++ stage_text (stage_at (book_of h.settings) (node_now h k) (id_of h.settings (byte_number c.args.other)))) held c.node_number-node.ensures)) c.put_stage.ensures;
    }
