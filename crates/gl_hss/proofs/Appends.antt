-- What stands in a list after one text is written after another.
use Rattle.std.proofs.Common.{◌≡◌, ℕ, List, ◌++◌, ap, ◌∙◌, append_assoc}

-- after base and front, y is written
pub push_next : (base prefix : List ℕ) {o o' x y : List ℕ} → o ≡ base ++ prefix → o' ≡ o ++ x → x ≡ y → o' ≡ base ++ (prefix ++ y)
push_next base prefix {o} {o'} {x} {y} before added e =
    added ∙ ap (λ (l : List ℕ). l ++ x) before ∙ append_assoc base prefix x ∙ ap (λ (l : List ℕ). base ++ (prefix ++ l)) e
