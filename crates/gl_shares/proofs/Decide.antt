-- Facts on all numbers below a bound, by trying them.
use Rattle.std.proofs.Common.{◌≡◌, ◌&&◌, ℕ, zero, suc, ◌<◌, Bool, true, inl, inr, arith}
use Rattle.std.proofs.lemmas.Bool.{and_parts, cases_eq}

-- the test holds of each number below n
unfoldable pub all_below : (ℕ → Bool) → ℕ → Bool
all_below p zero = true
all_below p (suc n) = p n && all_below p n

pub all_below_at : (p : ℕ → Bool) (n k : ℕ) → all_below p n ≡ true → k < n → p k ≡ true
unfolding all_below
all_below_at p zero k h lt = absurd (omega arith)
all_below_at p (suc n) k h lt =
    let both = and_parts (p n) (all_below p n) h in
    elim (cases_eq k n) [
      | inl same ↦ rw same both.0
      | inr other ↦ all_below_at p n k both.1 (omega arith)
    ]
