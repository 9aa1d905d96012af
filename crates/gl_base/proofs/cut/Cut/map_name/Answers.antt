use Rattle.gl_base.proofs.RowLaws.{map_name-only}
use Rattle.gl_base.proofs.cut.Cut.map_name.Goals as goal

pub returns-clause-only : goal.returns-clause-only
returns-clause-only c = map_name-only (λ s. s.now) _ _ _ c.map_name_field.ensures.exact
