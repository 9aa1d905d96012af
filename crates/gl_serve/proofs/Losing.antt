-- Lost frames and the link's count of failed sends.
use Rattle.std.proofs.Common.{inl, inr, ℕ, refl, ◌∙◌, arith}
use Rattle.gl_outside.proofs.Faults.{Rose-after, Rose-before}
use Rattle.gl_serve.specs.Outbox.{Loses}

pub loses_same : (l f : ℕ) → Loses l l f f
loses_same l f = record { never_falls = omega arith; cause = inl refl }

pub loses_then : (l m n f g h : ℕ) → Loses l m f g → Loses m n g h → Loses l n f h
loses_then l m n f g h p q = record {
  never_falls = omega (arith, p.never_falls, q.never_falls);
  cause = elim p.cause [
    | inl e ↦ elim q.cause [ inl d ↦ inl (e ∙ d) | inr rose ↦ inr (Rose-after f g h p.never_falls rose) ]
    | inr rose ↦ inr (Rose-before f g h rose q.never_falls)
  ];
}
