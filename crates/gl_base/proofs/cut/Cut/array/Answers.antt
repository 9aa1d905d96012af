use Rattle.std.proofs.Common.{refl}
use Rattle.gl_base.proofs.Fields.{plain_encoded, plain_only}
use Rattle.gl_base.proofs.cut.Cut.array.Goals as goal

pub returns-clause-encoded : goal.returns-clause-encoded
returns-clause-encoded g c = plain_encoded (λ s. s.now) 0 _ _ _ _ refl c.chunk.ensures

pub returns-clause-only : goal.returns-clause-only
returns-clause-only g c xs rest sized e =
    plain_only (λ s. s.now) 0 _ _ _ _ refl c.chunk.ensures xs rest (record { counted = λ _. sized; within = λ h. absurd (h refl) }) e
