use Rattle.gl_base.proofs.Names.{value-valid, string_at_within}
use Rattle.gl_base.proofs.cut.Cut.value_field.Goals as goal

pub returns-clause-valid : goal.returns-clause-valid
returns-clause-valid c =
    rw c.in_ok-value.ensures.ok.0 (
    value-valid _ _ c.in_ok-value.ensures.each (string_at_within 4 _ _ _ _ c.in_ok-bytes.ensures.exact)
    )
