-- What stands after one text and then another.
use Rattle.std.proofs.Common.{◌≡◌, ◌≢◌, ◌↔◌, ℕ, Bool, List, ◌++◌, Option, None, Some, IsTrue, IfNone, sym, ap, ◌∙◌, append_assoc}
use Rattle.std.proofs.lemmas.List.{append_cancel_left}

pub some_then : (a b mid rest text : List ℕ) → text ≡ a ++ mid → mid ≡ b ++ rest → text ≡ (a ++ b) ++ rest
some_then a b mid rest text e f = e ∙ ap (λ (xs : List ℕ). a ++ xs) f ∙ sym (append_assoc a b rest)

pub not_then : (a b mid text : List ℕ) → text ≡ a ++ mid → ((rest : List ℕ) → mid ≢ b ++ rest) → (rest : List ℕ) → text ≢ (a ++ b) ++ rest
not_then a b mid text e other = λ rest f. other rest (append_cancel_left a mid (b ++ rest) (sym e ∙ f ∙ append_assoc a b rest))

pub none_is : {X : Type 0} → (found : Option X) (P : Type 0) → P → IfNone found P
none_is None P p = p
none_is (Some x) P p = tt

pub none_then : {X : Type 0} → (found : Option X) (a b mid text : List ℕ) → text ≡ a ++ mid → IfNone found ((rest : List ℕ) → mid ≢ b ++ rest)
    → IfNone found ((rest : List ℕ) → text ≢ (a ++ b) ++ rest)
none_then None a b mid text e other = not_then a b mid text e other
none_then (Some x) a b mid text e other = tt

-- After the same prefix, the wholes are the same exactly where the ends are.
pub same_end : (prefix rest digits end text : List ℕ) (same : Bool) → text ≡ prefix ++ rest → (IsTrue same ↔ (rest ≡ digits)) → digits ≡ end → IsTrue same ↔ (text ≡ prefix ++ end)
same_end prefix rest digits end text same e both d = (
  λ t. e ∙ ap (λ (xs : List ℕ). prefix ++ xs) (both.0 t ∙ d),
  λ f. both.1 (append_cancel_left prefix rest end (sym e ∙ f) ∙ sym d),
)
