use Rattle.std.proofs.Common.{◌≡◌, ℕ, ◌∙◌, refl, sym, ap, ap₂, arith}
use Rattle.gl_shares.specs.Field.{field_product}
use Rattle.gl_shares.proofs.FieldLaws.{raised, raised-more, product-power, inverse_of-power}
use Rattle.gl_shares.proofs.field.gf_inv.Goals as goal

pub loop-init : goal.loop-init
unfolding raised
loop-init c = refl

pub loop-preserved : goal.loop-preserved
loop-preserved c =
    c.gf_mul-power.ensures
    ∙ ap (λ (x : ℕ). field_product x c.args.a) (c.gf_mul.ensures ∙ ap₂ field_product c.loop.invariant c.loop.invariant)
    ∙ sym (raised-more c.args.a c.loop.counter)

pub returns-clause-value : goal.returns-clause-value
returns-clause-value c =
    let end : c.loop.counter ≡ 7 = omega arith in
    let power : c.loop.power ≡ raised c.args.a 7 = c.loop.invariant ∙ ap (raised c.args.a) end in
    c.gf_mul-2.ensures ∙ ap₂ field_product power power ∙ inverse_of-power c.args.a (omega arith)

pub returns-clause-one : goal.returns-clause-one
returns-clause-one c = λ some.
    let end : c.loop.counter ≡ 7 = omega arith in
    let power : c.loop.power ≡ raised c.args.a 7 = c.loop.invariant ∙ ap (raised c.args.a) end in
    ap (field_product c.args.a) (c.gf_mul-2.ensures ∙ ap₂ field_product power power) ∙ product-power c.args.a some (omega arith)
