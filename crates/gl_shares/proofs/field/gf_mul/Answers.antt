use Rattle.std.proofs.Common.{◌≡◌, ℕ, ◌*◌, ◌/◌, ◌%◌, bit_xor, sym, ◌∙◌, ap, arith}
use lib.Bits.{xor_zero_r}
use Rattle.gl_shares.specs.Field.{field_product}
use Rattle.gl_shares.proofs.FieldLaws.{product_round, product-zero_right}
use Rattle.gl_shares.proofs.field.gf_mul.Goals as goal
use Rattle.gl_shares.proofs.field.gf_mul.Goals.{then-rest-eq1, else-rest-eq1}

pub loop-rest-preserved : goal.loop-rest-preserved
loop-rest-preserved c =
    let a : ℕ = c.loop-rest.multiple in
    let b : ℕ = c.loop-rest.rest in
    let sum : ℕ = c.loop-rest.product in
    let next : c.if-rest-eq1.product ≡ bit_xor sum (b % 2 * a) =
    elim c.if-rest-eq1.branch [
      | then-rest-eq1 w ↦ (
          let odd : b % 2 ≡ 1 = omega arith in
          let one : 1 * a ≡ a = omega arith in
          w.product-is ∙ ap (bit_xor sum) (sym (ap (λ (x : ℕ). x * a) odd ∙ one)))
      | else-rest-eq1 w ↦ (
          let even : b % 2 ≡ 0 = omega arith in
          let none : 0 * a ≡ 0 = omega arith in
          w.product-is ∙ sym (ap (bit_xor sum) (ap (λ (x : ℕ). x * a) even ∙ none) ∙ xor_zero_r sum))
    ] in
    ap (λ (x : ℕ). bit_xor c.if-rest-eq1.product (field_product x (b / 2))) c.times_x-multiple.ensures
    ∙ product_round sum a b c.if-rest-eq1.product (field_product c.args.a c.args.b) (omega arith) (omega arith) next c.loop-rest.invariant

pub returns : goal.returns
returns c =
    let none : c.loop-rest.rest ≡ 0 = omega arith in
    sym (ap (λ (x : ℕ). bit_xor c.loop-rest.product (field_product c.loop-rest.multiple x)) none
    ∙ ap (bit_xor c.loop-rest.product) (product-zero_right c.loop-rest.multiple) ∙ xor_zero_r c.loop-rest.product) ∙ c.loop-rest.invariant
