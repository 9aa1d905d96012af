use Rattle.std.proofs.Common.{◌≡◌, ◌*◌, ◌%◌, ◌∙◌, sym, arith}
use Rattle.gl_shares.proofs.FieldLaws.{product-double, product-reduced}
use Rattle.gl_shares.proofs.field.times_x.Goals as goal

pub returns-then-a-lt128 : goal.returns-then-a-lt128
returns-then-a-lt128 c =
    let fits : c.args.a * 2 % 256 ≡ c.args.a * 2 = omega arith in
    fits ∙ sym (product-double c.args.a (omega arith))

pub returns-else-a-lt128 : goal.returns-else-a-lt128
returns-else-a-lt128 c = product-reduced c.args.a (omega arith) (omega arith)
