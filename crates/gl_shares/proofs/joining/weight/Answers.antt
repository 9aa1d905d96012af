use Rattle.std.proofs.Common.{ℕ, ◌<◌, ◌^◌, List, refl, sym, ◌∙◌, ap, ap₂, take, arith}
use Rattle.gl_shares.specs.declared.share.Share.{Share}
use Rattle.gl_shares.specs.Field.{field_product}
use Rattle.gl_shares.specs.Joining.{quotient, weight, members_of}
use Rattle.gl_shares.proofs.FieldLaws.{product-one_right}
use Rattle.gl_shares.proofs.Lagrange.{quotient-own, quotient-other}
use Rattle.gl_shares.proofs.Steps.{weight-more}
use Rattle.gl_shares.proofs.joining.weight.Goals as goal
use Rattle.gl_shares.proofs.joining.weight.Goals.{then-other-member, else-other-member}

pub loop-other-init : goal.loop-other-init
unfolding weight
loop-other-init c = (omega arith, refl)

pub loop-other-preserved : goal.loop-other-preserved
loop-other-preserved c =
    let point : ℕ = c.args.member in
    let shares : List Share = c.args.shares.now in
    let i : ℕ = c.loop-other.other-index in
    let before : ℕ = weight point (members_of (take i shares)) in
    let small : before < 2 ^ 8 = rw (← c.loop-other.invariant.1) c.loop-other.invariant.0 in
    elim c.if-other-member.branch [
      | then-other-member w ↦ (
        omega (arith, w.weight-is, w.gf_mul-weight.type_inv),
        w.weight-is ∙ w.gf_mul-weight.ensures
            ∙ ap₂ field_product c.loop-other.invariant.1
            (w.gf_mul-quotient.ensures ∙ ap (field_product _) w.gf_inv.ensures.value ∙ sym (quotient-other point _ w.if-other-member.true))
            ∙ sym (weight-more point shares i _ c.loop-other-test.true),
      )
      | else-other-member w ↦ (
        omega (arith, w.weight-is, c.loop-other.invariant.0),
        w.weight-is ∙ c.loop-other.invariant.1
            ∙ sym (weight-more point shares i _ c.loop-other-test.true
            ∙ ap (field_product before) (ap (quotient point) w.if-other-member.false ∙ quotient-own point)
            ∙ product-one_right before small),
      )
    ]
