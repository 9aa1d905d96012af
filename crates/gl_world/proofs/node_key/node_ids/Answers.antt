use Rattle.std.proofs.Common.{◌≡◌, ◌+◌, ◌<◌, ℕ, length, Some, slice_get, ap, sym, ◌∙◌, arith}
use Rattle.std.proofs.lemmas.Option.{slice_get-get_or}
use Rattle.gl_world.specs.Founding.{id_of, node_ids}
use Rattle.gl_world.proofs.Numbers.{push-next}
use Rattle.gl_world.proofs.KeysMade.{id_is}
use Rattle.gl_world.proofs.node_key.node_ids.Goals as goal

pub loop-i-preserved : goal.loop-i-preserved
loop-i-preserved c =
    let s = c.args.settings.now in
    let i = c.loop-i.i in
    let k = c.index-keys-i.result in
    let in_time : i < s.starting + s.joiners = omega (arith, c.loop-i-test.true, c.from.ensures, c.from-2.ensures) in
    let low : i < length c.args.keys.now = omega (arith, in_time, c.requires.counted) in
    let at : slice_get c.args.keys.now i ≡ Some k = slice_get-get_or c.args.keys.now i k low ∙ ap Some (sym c.index-keys-i.is) in
    push-next (id_of s) c.loop-i.ids.items c.push.new.self.items (node_ids s) c.id.result
    i (s.starting + s.joiners) in_time
    (id_is s (s.starting + s.joiners) c.args.keys.now i k c.id.result c.requires at c.id.ensures)
    c.in_ok-push.ensures.items c.loop-i.invariant
