use Rattle.std.proofs.Common.{arith}
use Rattle.gl_base.proofs.Numerals.{capped_more}
use Rattle.std.proofs.lemmas.Str.Parse.{digit_at}
use Rattle.gl_base.proofs.tx_id_text.capped_value.Goals as goal

pub overflow_sub-digit : goal.overflow_sub-digit
overflow_sub-digit c = omega (arith, digit_at _ _ c.requires c.loop-digit-test.true)

pub loop-digit-preserved : goal.loop-digit-preserved
loop-digit-preserved c = capped_more _ _ _ _ _ c.requires c.loop-digit-test.true c.loop-digit.invariant cc
