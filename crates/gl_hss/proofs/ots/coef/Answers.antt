use Rattle.std.proofs.Common.{◌/◌, ◌%◌, ◌≡◌, sym, arith}
use Rattle.gl_hss.proofs.Parameters.{width_four, width_eight}
use Rattle.gl_hss.proofs.Digits.{coef_byte, coef_upper, coef_lower}
use Rattle.gl_hss.proofs.ots.coef.Goals as goal

pub returns-in-H5W8-clause-value : goal.returns-in-H5W8-clause-value
returns-in-H5W8-clause-value c =
    rw (width_eight c.args.types c.in-H5W8.is) (sym (coef_byte c.args.bytes.now c.args.i (omega (arith, c.type_inv.bytes c.args.i))))

pub returns-then-i-eq0-clause-value : goal.returns-then-i-eq0-clause-value
returns-then-i-eq0-clause-value c =
    rw (width_four c.args.types c.in-H5W4.is) (sym (coef_upper c.args.bytes.now c.args.i (omega (arith, c.type_inv.bytes (c.args.i / 2))) c.if-i-eq0.true))

pub returns-else-i-eq0-clause-value : goal.returns-else-i-eq0-clause-value
returns-else-i-eq0-clause-value c =
    let odd : c.args.i % 2 ≡ 1 = omega arith in
    rw (width_four c.args.types c.in-H5W4.is) (sym (coef_lower c.args.bytes.now c.args.i odd))
