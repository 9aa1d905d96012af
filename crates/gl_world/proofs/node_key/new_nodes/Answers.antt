use Rattle.std.proofs.Common.{◌≡◌, ◌<◌, ℕ, length, map, Some, slice_get, sym, ap, subst, ◌∙◌, arith}
use Rattle.std.proofs.lemmas.Option.{slice_get-get_or}
use Rattle.gl_world.specs.Founding.{node_of, numbers_from}
use Rattle.gl_world.proofs.Numbers.{push-next}
use Rattle.gl_world.proofs.KeysMade.{node_is}
use Rattle.gl_world.proofs.node_key.new_nodes.Goals as goal

pub loop-i-preserved : goal.loop-i-preserved
loop-i-preserved c =
    let k = c.index-keys-from.result in
    let in_time = c.loop-i-test.true in
    let there = c.requires.there in
    let same : c.from.result ≡ c.loop-i.i = c.from.ensures in
    let low : c.from.result < length c.args.keys.now = omega (arith, in_time, there, same) in
    let at = subst (λ (n : ℕ). slice_get c.args.keys.now n ≡ Some k) same (slice_get-get_or c.args.keys.now c.from.result k low ∙ ap Some (sym c.index-keys-from.is)) in
    push-next (node_of c.args.settings.now) c.loop-i.nodes.items c.push.new.self.items (map (node_of c.args.settings.now) (numbers_from 1 c.args.count)) c.in_ok-new_node.field-0
    c.loop-i.i c.args.count c.loop-i-test.true
    (node_is c.args.settings.now c.requires.keys.0 c.args.keys.now c.loop-i.i c.index-keys-from.result c.in_ok-new_node.field-0 c.requires.keys.1 at c.in_ok-new_node.ensures)
    c.in_ok-push.ensures.items c.loop-i.invariant
