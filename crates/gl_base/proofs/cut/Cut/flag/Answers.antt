use Rattle.gl_base.proofs.RowLaws.{flag-only}
use Rattle.gl_base.proofs.cut.Cut.flag.Goals as goal

pub returns-clause-only : goal.returns-clause-only
returns-clause-only c = flag-only (λ b. b) _ _ _ c.flag_field.ensures.exact
