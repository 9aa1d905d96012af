-- Strings of 32 bytes, one after the other.
use Rattle.std.proofs.Common.{◌≡◌, ℕ, zero, suc, ◌+◌, ◌*◌, ◌<◌, ◌≤◌, List, [], ◌++◌, length, take, drop, sym, ap, ◌∙◌, add-one, arith, inl, inr}
use Rattle.std.proofs.lemmas.Bool.{cases_eq}
use Rattle.std.proofs.lemmas.List.{take_all, drop_at, take-append-le, drop-append-le, length-append, length-drop}
use Rattle.gl_hss.specs.Bytes.{block}

block_prefix : (xs ys : List ℕ) (i : ℕ) → 32 * i + 32 ≤ length xs → block (xs ++ ys) i ≡ block xs i
block_prefix xs ys i room =
    ap (take 32) (drop-append-le (32 * i) xs ys (omega arith)) ∙ take-append-le 32 (drop (32 * i) xs) ys (omega (arith, length-drop (32 * i) xs))

block_last : (xs y : List ℕ) (i : ℕ) → length xs ≡ 32 * i → length y ≡ 32 → block (xs ++ y) i ≡ y
block_last xs y i at len = ap (take 32) (drop_at xs y (32 * i) at) ∙ take_all 32 y (omega arith)

-- all n is item 0, item 1, .. up to item n - 1
pub record AreBlocks (all : ℕ → List ℕ) (item : ℕ → List ℕ) : Type 0 where
  pub none : all 0 ≡ []
  pub more : (n : ℕ) → all (n + 1) ≡ all n ++ item n
  pub sized : (n : ℕ) → length (item n) ≡ 32

pub length-blocks : (all item : ℕ → List ℕ) → AreBlocks all item → (n : ℕ) → length (all n) ≡ 32 * n
length-blocks all item h zero = ap length h.none
length-blocks all item h (suc n) =
    let step : all (suc n) ≡ all n ++ item n = ap all (sym (add-one n)) ∙ h.more n in
    omega (arith, ap length step, length-append (all n) (item n), length-blocks all item h n, h.sized n)

pub block-blocks : (all item : ℕ → List ℕ) → AreBlocks all item → (n i : ℕ) → i < n → block (all n) i ≡ item i
block-blocks all item h zero i below = absurd (omega arith)
block-blocks all item h (suc n) i below =
    let step : all (suc n) ≡ all n ++ item n = ap all (sym (add-one n)) ∙ h.more n in
    let len = length-blocks all item h n in
    ap (λ (s : List ℕ). block s i) step ∙ elim (cases_eq i n) [
      | inl last ↦ block_last (all n) (item n) i (omega arith) (h.sized n) ∙ ap item (sym last)
      | inr other ↦ block_prefix (all n) (item n) i (omega arith) ∙ block-blocks all item h n i (omega arith)
    ]
