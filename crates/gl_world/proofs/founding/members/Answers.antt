use Rattle.gl_world.specs.Founding.{member_of, genesis_of}
use Rattle.gl_world.proofs.Numbers.{push-next}
use Rattle.gl_world.proofs.founding.members.Goals as goal

pub loop-i-preserved : goal.loop-i-preserved
loop-i-preserved c =
    push-next (member_of c.args.settings.now) c.loop-i.members.items c.push.new.self.items (genesis_of c.args.settings.now).members c.in_ok-member.field-0
    c.loop-i.i c.args.settings.now.members c.loop-i-test.true c.in_ok-member.ensures c.in_ok-push.ensures.items c.loop-i.invariant
