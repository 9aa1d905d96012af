use Rattle.gl_world.proofs.KeysMade.{one_more}
use Rattle.gl_world.proofs.node_key.node_keys.Goals as goal

pub loop-i-preserved : goal.loop-i-preserved
loop-i-preserved c =
    one_more c.args.settings.now c.loop-i.i c.loop-i.keys.items c.push.new.self.items c.in_ok-make.field-0 c.loop-i.invariant c.in_ok-make.ensures c.in_ok-push.ensures.items
