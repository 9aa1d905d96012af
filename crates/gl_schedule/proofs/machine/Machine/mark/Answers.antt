use Rattle.std.proofs.Common.{None, false, true, ap, sym, ◌∙◌}
use Rattle.std.proofs.lemmas.Result.{on_ok_weaker}
use Rattle.gl_requests.specs.declared.request.GovernanceRequest.TheVariants as requests
use Rattle.gl_world.specs.Founding.{id_of}
use Rattle.gl_schedule.specs.Playing.{Playing}
use Rattle.gl_schedule.specs.Output.{Governs, at_node}
use Rattle.gl_schedule.proofs.EventLemmas.{group_from, node_from, prints_no_node, prints_no_other, seen_from}
use Rattle.gl_schedule.proofs.RequestLemmas.{prints_pair}
use Rattle.gl_schedule.proofs.machine.Machine.mark.Goals as goal

pub returns-then-not-has_node : goal.returns-then-not-has_node
returns-then-not-has_node g c =
    let m = c.args.self.now in
    let held = sym (ap (λ (p : Playing). p.world) c.self.view_is) in
    let group = group_from m _ _ held c.self.invariant.world c.self.invariant.group in
    let none = node_from m _ c.args.node _ _ false held c.node_number-node.ensures c.has_node.ensures c.if-not-has_node.true in
    record { prints = on_ok_weaker c.put_unnamed.result (λ w. prints_no_node m group c.args.node (λ t x. at_node m.world.settings c.args.marked (λ y. Governs x None (requests.Mark y))) _ _ none w c.args.number) c.put_unnamed.ensures }

pub returns-then-not-has_node-2 : goal.returns-then-not-has_node-2
returns-then-not-has_node-2 g c =
    let m = c.args.self.now in
    let held = sym (ap (λ (p : Playing). p.world) c.self.view_is) in
    let group = group_from m _ _ held c.self.invariant.world c.self.invariant.group in
    let some = node_from m _ c.args.node _ _ true held c.node_number-node.ensures c.has_node.ensures c.if-not-has_node.false in
    let none = node_from m _ c.args.marked _ _ false held c.node_number-marked.ensures c.has_node-2.ensures c.if-not-has_node-2.true in
    record {
      prints = on_ok_weaker c.put_unnamed-then-not-has_node-2.result
          (λ w. prints_no_other m group c.args.node c.args.marked (λ t x y. Governs x None (requests.Mark y)) _ _ some none w c.args.number) c.put_unnamed-then-not-has_node-2.ensures;
    }

pub returns : goal.returns
returns g c =
    let m = c.args.self.now in
    let held = sym (ap (λ (p : Playing). p.world) c.self.view_is) in
    let group = group_from m _ _ held c.self.invariant.world c.self.invariant.group in
    let some = node_from m _ c.args.node _ _ true held c.node_number-node.ensures c.has_node.ensures c.if-not-has_node.false in
    let also = node_from m _ c.args.marked _ _ true held c.node_number-marked.ensures c.has_node-2.ensures c.if-not-has_node-2.false in
    record {
      prints = on_ok_weaker c.send.result
          (λ sends. prints_pair m _ group c.args.number c.args.node c.args.marked _ (λ y. requests.Mark y) _ _ _ c.node_number-node.ensures some also
          (ap requests.Mark (c.id-id.ensures ∙ seen_from m _ _ c.args.marked (λ h k. id_of h.settings k) held c.node_number-marked.ensures)) sends) c.send.ensures;
    }
