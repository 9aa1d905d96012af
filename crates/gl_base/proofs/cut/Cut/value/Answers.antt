use Rattle.gl_base.proofs.RowLaws.{value-only}
use Rattle.gl_base.proofs.cut.Cut.value.Goals as goal

pub returns-clause-only : goal.returns-clause-only
returns-clause-only c = value-only _ (λ s. s.now) _ _ _ c.requires c.value_field.ensures.exact
