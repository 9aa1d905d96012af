use Rattle.gl_base.proofs.RowLaws.{key-only}
use Rattle.gl_base.proofs.cut.Cut.key.Goals as goal

pub returns-clause-only : goal.returns-clause-only
returns-clause-only c = key-only (λ s. s.now) _ _ _ c.key_field.ensures.exact
