use Rattle.std.proofs.Common.{sym, ◌∙◌}
use Rattle.gl_world.proofs.MemberKeys.{key_of, repeated-next}
use Rattle.gl_world.proofs.founding.is_key_repeated.Goals as goal

pub loop-i-preserved : goal.loop-i-preserved
loop-i-preserved c =
    repeated-next c.args.settings.now (key_of c.args.settings.now c.args.number) c.loop-i.i c.args.settings.now.members c.loop-i-test.true
    (sym c.in_ok-have_one_key.ensures ∙ c.if-branch.false)
    ∙ c.loop-i.invariant
