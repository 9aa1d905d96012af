use Rattle.std.proofs.Common.{ℕ, List, ◌++◌, Ok, sym, ap, ◌∙◌}
use Rattle.gl_base.proofs.Numbers.{number_from, number_fault}
use Rattle.gl_base.proofs.Fields.{bytes_at-encoded, number_only, number_not_refused}
use Rattle.gl_base.proofs.cut.Cut.u64.Goals as goal

pub returns-in-Ok-clause-encoded : goal.returns-in-Ok-clause-encoded
returns-in-Ok-clause-encoded c =
    bytes_at-encoded 8 _ _ _ c.in-Ok.ensures
    ∙ ap (λ (xs : List ℕ). xs ++ c.chunk.new.self.bytes) (sym c.u64_of.ensures.encoded)

pub returns-in-Ok-clause-only : goal.returns-in-Ok-clause-only
returns-in-Ok-clause-only c = λ n rest small encoded.
    ap (λ (m : ℕ). Ok m) (number_only 8 n _ _ _ rest (number_from 8 _ _ _ _ c.in-Ok.ensures c.u64_of.ensures.value) small encoded)

pub returns-in-Err-clause-only : goal.returns-in-Err-clause-only
returns-in-Err-clause-only c = λ n rest small encoded.
    absurd (number_not_refused 8 n _ _ rest (number_fault 8 _ _ c.in-Err.ensures.0) small encoded)
