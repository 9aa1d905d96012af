use Rattle.std.proofs.Common.{◌+◌, ◌∙◌, ap}
use Rattle.gl_world.specs.declared.settings.Settings.{Settings}
use Rattle.gl_world.specs.Founding.{id_of, node_ids}
use Rattle.gl_world.proofs.Numbers.{push-next}
use Rattle.gl_schedule.proofs.NumberLemmas.{number_here}
use Rattle.gl_schedule.proofs.machine.ids_in.Goals as goal

pub id-requires : goal.id-requires
id-requires g c = record { here = number_here c.args.world.now c.args.settings.now c.requires.settings c.loop-i.i c.loop-i-test.true }

pub loop-i-preserved : goal.loop-i-preserved
loop-i-preserved g c =
    let s = c.args.settings.now in
    push-next (id_of s) c.loop-i.ids.items c.push.new.self.items (node_ids s) c.id.result
    c.loop-i.i (s.starting + s.joiners) c.loop-i-test.true (c.id.ensures ∙ ap (λ (u : Settings). id_of u (c.loop-i.i + 1)) c.requires.settings) c.in_ok-push.ensures.items c.loop-i.invariant
