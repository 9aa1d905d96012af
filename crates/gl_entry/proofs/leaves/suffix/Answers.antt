use Rattle.std.proofs.Common.{◌≡◌, ℕ, ◌+◌, List, ◌++◌, length, take, drop, Bool, true, false, Option, None, Some, MatchOption, IfSome, IfNone, ◌≢◌, ap, ap₂, sym, ◌∙◌, true≢false}
use Rattle.std.specs.Prelude.{nat_eq}
use Rattle.std.specs.Cmp.Lexicographic.{pointwise, bytes_decides}
use Rattle.std.proofs.Math.Seq.{take-append_seam}
use Rattle.std.proofs.lemmas.List.{take-append-drop}
use Rattle.gl_entry.proofs.leaves.suffix.Goals as goal

some_after : {X : Type 0} → (now : X → List ℕ) (text piece : List ℕ) (found : Option X)
    → MatchOption found (pointwise nat_eq (take (length piece) text) piece ≡ false)
    (λ x. (pointwise nat_eq (take (length piece) text) piece ≡ true) × (now x ≡ drop (length piece) text) × (length (now x) + length piece ≡ length text))
    → IfSome found (λ x. text ≡ piece ++ now x)
some_after now text piece None h = tt
some_after now text piece (Some x) h =
    sym (take-append-drop (length piece) text) ∙ ap₂ (λ (a b : List ℕ). a ++ b) ((bytes_decides (take (length piece) text) piece).0 h.0) (sym h.1)

none_after : {X : Type 0} → (now : X → List ℕ) (text piece : List ℕ) (found : Option X)
    → MatchOption found (pointwise nat_eq (take (length piece) text) piece ≡ false)
    (λ x. (pointwise nat_eq (take (length piece) text) piece ≡ true) × (now x ≡ drop (length piece) text) × (length (now x) + length piece ≡ length text))
    → IfNone found ((rest : List ℕ) → text ≢ piece ++ rest)
none_after now text piece None h = λ rest e.
    true≢false (sym ((bytes_decides (take (length piece) text) piece).1 (ap (take (length piece)) e ∙ take-append_seam piece rest)) ∙ h)
none_after now text piece (Some x) h = tt

pub returns-clause-some : goal.returns-clause-some
returns-clause-some c = some_after (λ x. x.now) c.args.text.now c.args.piece.now c.strip_prefix.result c.strip_prefix.ensures.cases

pub returns-clause-none : goal.returns-clause-none
returns-clause-none c = none_after (λ x. x.now) c.args.text.now c.args.piece.now c.strip_prefix.result c.strip_prefix.ensures.cases
