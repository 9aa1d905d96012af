use Rattle.std.proofs.Common.{sym, ◌∙◌}
use Rattle.gl_lines.proofs.NumberLemmas.{decimal_digits}
use Rattle.gl_lines.proofs.numbers.counted_number.Goals as goal

pub digits_value-requires : goal.digits_value-requires
digits_value-requires c = decimal_digits c.args.text.now (sym c.is_decimal.ensures ∙ c.if-is_decimal.true)
