use Rattle.std.proofs.Common.{◌∙◌}
use Rattle.gl_world.proofs.MemberSigners.{request_fits}
use Rattle.gl_world.specs.Keys.{member_seed}
use Rattle.gl_world.specs.Members.{next_leaf}
use Rattle.gl_world.proofs.members.Members.sign.Goals as goal

pub returns-clause-fits : goal.returns-clause-fits
returns-clause-fits c =
    request_fits (member_seed c.args.self.now.settings c.args.number) c.deref.result.now c.args.number (next_leaf c.args.self.now.signed c.args.number) c.args.act c.from-2.result
    (c.from-2.ensures ∙ c.in_ok-sign_message.ensures.bytes)
    c.requires.number c.ranges.number.fits c.requires.act c.in_ok-sign_message.ensures.left
