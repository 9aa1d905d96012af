use Rattle.gl_base.proofs.Fields.{plain_encoded, plain_only, string_only}
use Rattle.gl_base.proofs.cut.Cut.bytes.Goals as goal

pub returns-then-width-eq0-clause-encoded : goal.returns-then-width-eq0-clause-encoded
returns-then-width-eq0-clause-encoded c = plain_encoded (λ s. s.now) _ _ _ _ _ c.if-width-eq0.true c.take.ensures

pub returns-then-width-eq0-clause-only : goal.returns-then-width-eq0-clause-only
returns-then-width-eq0-clause-only c = plain_only (λ s. s.now) _ _ _ _ _ c.if-width-eq0.true c.take.ensures

pub returns-else-width-eq0-clause-only : goal.returns-else-width-eq0-clause-only
returns-else-width-eq0-clause-only c = string_only (λ s. s.now) _ _ _ _ _ c.if-width-eq0.false c.string.ensures.exact
