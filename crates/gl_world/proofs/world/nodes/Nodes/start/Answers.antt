use Rattle.std.proofs.Common.{rules, ◌≡◌, suc, Some, slice_get, sym, ap, ◌∙◌}
use Rattle.std.proofs.lemmas.Option.{slice_get-get_or}
use Rattle.gl_rules.specs.World.{node_at_start}
use Rattle.gl_replication.specs.Stands.{held_by}
use Rattle.gl_world.specs.Founding.{id_of}
use Rattle.gl_world.specs.Group.{book_of}
use Rattle.gl_world.specs.World.{start_of}
use Rattle.gl_world.proofs.Starting.{all_started, one_empty, one_id}
use Rattle.gl_world.proofs.world.nodes.Nodes.start.Goals as goal

pub loop-node-preserved : goal.loop-node-preserved
loop-node-preserved g c =
    let s = c.args.settings.now in
    let i = c.loop-node.node-index in
    let nodes = c.args.nodes.items in
    let node = c.node-item.result in
    let x = id_of s (suc i) in
    let n = node_at_start (start_of s) x in
    let all = c.deref-node-items.result.now in
    let at : slice_get nodes i ≡ Some node =
    ap (λ l. slice_get l i) (sym c.deref-node-items.ensures.value) ∙ slice_get-get_or all i node c.loop-node-test.true ∙ ap (λ m. Some m) (sym c.node-item.is) in
    let stood = c.core.ensures (book_of s) x n (c.requires.nodes.stand i node at) in (
      one_id s i c.loop-node.ids.items c.push.new.self.items c.me.result c.loop-node.invariant.0 (c.me.ensures (book_of s) (held_by x n) stood.ledger) c.in_ok-push.ensures.items,
      one_empty i c.loop-node.below.items _ _ c.loop-node.invariant.1 (search rules) c.in_ok-push-2.ensures.items,
    )

pub returns : goal.returns
returns g c = all_started g.N.WorldNode.stands c.args.settings.now _ c.requires.group c.requires.nodes (search (rules, c.loop-node.invariant.0)) (search (rules, c.loop-node.invariant.1)) (search rules)
