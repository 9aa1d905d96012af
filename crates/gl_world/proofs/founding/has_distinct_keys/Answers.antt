use Rattle.std.proofs.Common.{sym, ◌∙◌}
use Rattle.gl_world.proofs.MemberKeys.{distinct-found, distinct-passed}
use Rattle.gl_world.proofs.founding.has_distinct_keys.Goals as goal

pub returns-then-branch : goal.returns-then-branch
returns-then-branch c =
    sym (distinct-found c.args.settings.now c.loop-i.i c.args.settings.now.members c.loop-i-test.true (sym c.in_ok-is_key_repeated.ensures ∙ c.if-branch.true))
    ∙ c.loop-i.invariant

pub loop-i-preserved : goal.loop-i-preserved
loop-i-preserved c =
    distinct-passed c.args.settings.now c.loop-i.i c.args.settings.now.members c.loop-i-test.true (sym c.in_ok-is_key_repeated.ensures ∙ c.if-branch.false)
    ∙ c.loop-i.invariant
