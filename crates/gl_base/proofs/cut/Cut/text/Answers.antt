use Rattle.gl_base.proofs.Fields.{text_only}
use Rattle.gl_base.proofs.cut.Cut.text.Goals as goal

pub returns-clause-only : goal.returns-clause-only
returns-clause-only c = text_only (λ s. s.now) _ _ _ _ c.name.ensures.exact
