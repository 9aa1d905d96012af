use Rattle.std.proofs.Common.{arith, sym}
use Rattle.gl_hss.specs.Types.{width}
use Rattle.gl_hss.proofs.Digits.{digit_sum-none, digit_sum-more}
use Rattle.gl_hss.proofs.ots.digit_sum.Goals as goal

pub loop-i-init : goal.loop-i-init
loop-i-init c = (sym (digit_sum-none c.args.digest.now (width c.args.types)), omega arith)

pub loop-i-preserved : goal.loop-i-preserved
loop-i-preserved c =
    let more = digit_sum-more c.args.digest.now (width c.args.types) c.loop-i.i in
    grind (arith, more)
