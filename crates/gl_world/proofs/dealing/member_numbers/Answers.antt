use Rattle.std.proofs.Common.{◌+◌, refl}
use Rattle.gl_world.specs.Founding.{numbers_from}
use Rattle.gl_world.proofs.Sharing.{numbers-push}
use Rattle.gl_world.proofs.dealing.member_numbers.Goals as goal

pub loop-i-preserved : goal.loop-i-preserved
loop-i-preserved c =
    numbers-push c.loop-i.numbers.items c.push.new.self.items (numbers_from 1 c.args.settings.now.members) (c.loop-i.i + 1)
    c.loop-i.i c.args.settings.now.members c.loop-i-test.true refl c.in_ok-push.ensures.items c.loop-i.invariant
