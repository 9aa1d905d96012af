use Rattle.std.proofs.Common.{◌≡◌, bit_xor}
use Rattle.gl_shares.specs.Field.{field_product}
use Rattle.gl_shares.proofs.field.gf_mul.Given as goal

abbrev pub invariant-loop-rest : goal.invariant-loop-rest
invariant-loop-rest l = bit_xor l.product (field_product l.multiple l.rest) ≡ field_product l.fn.a l.fn.b

abbrev pub decreases-loop-rest : goal.decreases-loop-rest
decreases-loop-rest l = l.rest
