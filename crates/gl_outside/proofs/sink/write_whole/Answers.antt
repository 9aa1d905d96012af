use Rattle.std.proofs.Common.{arith, ◌∙◌}
use Rattle.gl_outside.proofs.TextPrefixes.{took_more}
use Rattle.gl_outside.proofs.sink.write_whole.Goals as goal

pub loop-done-preserved : goal.loop-done-preserved
loop-done-preserved g c = (
  took_more _ _ _ _ _ _ _ c.split_at.ensures.back c.loop-done.invariant.0 c.in-Took.ensures.appended,
  omega (arith, c.in-Took.ensures.within, c.split_at.ensures.back_len),
  c.in-Took.ensures.quiet (λ e. cc) ∙ c.loop-done.invariant.2,
)
