use Rattle.gl_world.proofs.MemberSigners.{kept_none}
use Rattle.gl_world.proofs.members.Members.new.Goals as goal

pub invariant_of-result : goal.invariant_of-result
invariant_of-result c = rw (c.in_ok-no_signers.ensures, c.new.ensures.items) (kept_none c.args.settings c.args.identity c.requires.identity)
