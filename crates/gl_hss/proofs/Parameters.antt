-- What an arm of a match on the parameter sets says of them.
use Rattle.std.proofs.Common.{◌≡◌, ◌⊎◌, inl, inr, ap}
use Rattle.gl_hss.specs.declared.types.Types.{Types}
use Rattle.gl_hss.specs.declared.types.Types.TheVariants.{H5W4, H5W8, H10W4, H10W8}
use Rattle.gl_hss.specs.Types.{width}

pub width_eight : (t : Types) → (t ≡ H5W8) ⊎ (t ≡ H10W8) → width t ≡ 8
width_eight t (inl e) = ap width e
width_eight t (inr e) = ap width e

pub width_four : (t : Types) → (t ≡ H5W4) ⊎ (t ≡ H10W4) → width t ≡ 4
width_four t (inl e) = ap width e
width_four t (inr e) = ap width e
