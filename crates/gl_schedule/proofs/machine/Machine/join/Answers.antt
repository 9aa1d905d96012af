use Rattle.std.proofs.Common.{ℕ, None, false, true, ap, sym, ◌∙◌}
use Rattle.std.proofs.lemmas.Result.{on_ok_weaker}
use Rattle.gl_requests.specs.declared.request.GovernanceRequest.TheVariants as requests
use Rattle.gl_world.specs.declared.settings.Settings.{Settings}
use Rattle.gl_world.specs.Founding.{node_of}
use Rattle.gl_world.specs.Held.{Held}
use Rattle.gl_schedule.specs.Playing.{Playing}
use Rattle.gl_schedule.specs.Output.{Governs, at_node}
use Rattle.gl_schedule.proofs.EventLemmas.{group_from, node_from, prints_no_node, prints_no_other}
use Rattle.gl_schedule.proofs.NumberLemmas.{number_small, same_byte}
use Rattle.gl_schedule.proofs.RequestLemmas.{prints_pair}
use Rattle.gl_schedule.proofs.machine.Machine.join.Goals as goal

pub returns-then-not-has_node : goal.returns-then-not-has_node
returns-then-not-has_node g c =
    let m = c.args.self.now in
    let held = sym (ap (λ (p : Playing). p.world) c.self.view_is) in
    let group = group_from m _ _ held c.self.invariant.world c.self.invariant.group in
    let none = node_from m _ c.args.node _ _ false held c.node_number-node.ensures c.has_node.ensures c.if-not-has_node.true in
    record { prints = on_ok_weaker c.put_unnamed.result (λ w. prints_no_node m group c.args.node (λ t x. at_node m.world.settings c.args.joiner (λ y. Governs x None (requests.Join (node_of m.world.settings c.args.joiner)))) _ _ none w c.args.number) c.put_unnamed.ensures }

pub returns-then-not-has_node-2 : goal.returns-then-not-has_node-2
returns-then-not-has_node-2 g c =
    let m = c.args.self.now in
    let held = sym (ap (λ (p : Playing). p.world) c.self.view_is) in
    let group = group_from m _ _ held c.self.invariant.world c.self.invariant.group in
    let some = node_from m _ c.args.node _ _ true held c.node_number-node.ensures c.has_node.ensures c.if-not-has_node.false in
    let none = node_from m _ c.args.joiner _ _ false held c.node_number-joiner.ensures c.has_node-2.ensures c.if-not-has_node-2.true in
    record {
      prints = on_ok_weaker c.put_unnamed-then-not-has_node-2.result
          (λ w. prints_no_other m group c.args.node c.args.joiner (λ t x y. Governs x None (requests.Join (node_of m.world.settings c.args.joiner))) _ _ some none w c.args.number) c.put_unnamed-then-not-has_node-2.ensures;
    }

pub joining_node-requires-clause-few : goal.joining_node-requires-clause-few
joining_node-requires-clause-few g c = (number_small c.self.inside.world _ c.self.invariant.world c.self.invariant.group _ (sym c.has_node-2.ensures ∙ c.if-not-has_node-2.false)).1

pub returns : goal.returns
returns g c =
    let m = c.args.self.now in
    let held = sym (ap (λ (p : Playing). p.world) c.self.view_is) in
    let group = group_from m _ _ held c.self.invariant.world c.self.invariant.group in
    let some = node_from m _ c.args.node _ _ true held c.node_number-node.ensures c.has_node.ensures c.if-not-has_node.false in
    let also = node_from m _ c.args.joiner _ _ true held c.node_number-joiner.ensures c.has_node-2.ensures c.if-not-has_node-2.false in
    record {
      prints = on_ok_weaker c.send.result
          (λ sends. prints_pair m _ group c.args.number c.args.node c.args.joiner _ (λ y. requests.Join (node_of m.world.settings c.args.joiner)) _ _ _ c.node_number-node.ensures some also
          (ap requests.Join (c.in_ok-joining.ensures ∙ ap (λ (k : ℕ). node_of c.self.inside.settings k) (c.node_number-joiner.ensures ∙ same_byte _ c.args.joiner also) ∙ ap (λ (u : Settings). node_of u c.args.joiner) (sym c.self.invariant.world ∙ sym (ap (λ (h : Held). h.settings) held)))) sends) c.send.ensures;
    }
