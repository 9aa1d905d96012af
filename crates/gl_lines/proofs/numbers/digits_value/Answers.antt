use Rattle.std.proofs.Common.{arith}
use Rattle.std.proofs.lemmas.Str.Parse.{digit_at}
use Rattle.gl_lines.proofs.NumberLemmas.{value_more, value_over, value_whole}
use Rattle.gl_lines.proofs.numbers.digits_value.Goals as goal

pub with_digit-requires : goal.with_digit-requires
with_digit-requires c = digit_at _ _ c.requires c.loop-digit-test.true

pub returns-in-None : goal.returns-in-None
returns-in-None c =
    value_over c.loop-digit.digit-index c.loop-digit.value c.args.digits.now c.requires c.loop-digit-test.true c.loop-digit.invariant.read c.in-None.ensures

pub loop-digit-preserved : goal.loop-digit-preserved
loop-digit-preserved c = record {
  small = omega (arith, c.in-Some.ensures.0, c.in-Some.ensures.1);
  read = value_more c.loop-digit.digit-index c.loop-digit.value _ c.args.digits.now c.requires c.loop-digit-test.true c.loop-digit.invariant.read c.in-Some.ensures.1;
}

pub returns : goal.returns
returns c = value_whole c.loop-digit.digit-index c.loop-digit.value c.args.digits.now c.loop-digit-test.false c.loop-digit.invariant.small c.loop-digit.invariant.read
