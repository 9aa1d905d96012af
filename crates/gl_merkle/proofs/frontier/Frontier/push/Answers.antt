use Rattle.std.proofs.Common.{ap, ◌∙◌, arith}
use Rattle.std.proofs.lemmas.List.{with_items_is}
use Rattle.gl_merkle.specs.Levels.{nodes_of, rooms_of, with_node}
use Rattle.gl_merkle.proofs.FrontierLemmas.{HasRoom-sized, AreLevels-push}
use Rattle.gl_merkle.proofs.frontier.Frontier.push.Goals as goal

pub push_node-requires : goal.push_node-requires
push_node-requires c =
    let f = c.self.inside in
    let spare = rw (← c.self.view_is) at c.in_ok-make_room.ensures.ok in
    rw c.deref_mut.ensures.value (HasRoom-sized f.levels.items f.base f.len f.limit c.self.invariant.sized c.self.invariant.roomy (omega (arith, spare)))

pub invariant_of-self : goal.invariant_of-self
invariant_of-self c =
    let f = c.self.inside in
    let spare = rw (← c.self.view_is) at c.in_ok-make_room.ensures.ok in
    let items = with_items_is f.levels c.push_node.new.levels (omega arith) in
    let old = c.deref_mut.ensures.value in
    rw items (AreLevels-push f.base f.peaks.items f.len f.limit f.levels.items c.push_node.new.levels c.args.leaf c.self.invariant (omega (arith, spare)) (omega arith)
    (c.push_node.ensures.nodes ∙ ap (λ vs. with_node (nodes_of vs) c.args.leaf) old) (c.push_node.ensures.rooms ∙ ap rooms_of old))
