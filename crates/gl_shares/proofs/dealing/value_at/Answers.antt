use Rattle.std.proofs.Common.{rules, ◌≡◌, reverse, fold, bit_xor, sym, ◌∙◌}
use Rattle.gl_shares.specs.Field.{field_product}
use Rattle.gl_shares.proofs.Steps.{value_at-reverse}
use Rattle.gl_shares.proofs.dealing.value_at.Goals as goal

pub returns : goal.returns
returns c =
    let folded : c.fold.result ≡ fold (λ value coefficient. bit_xor coefficient (field_product c.args.x value)) 0 (reverse c.args.coefficients.now) = search rules in
    folded ∙ sym (value_at-reverse c.args.coefficients.now c.args.x)
