-- Sums of polynomials over bits.
use Rattle.std.proofs.Common.{◌≡◌, ◌⊎◌, ℕ, zero, suc, ◌+◌, ◌*◌, ◌%◌, ◌<◌, ◌^◌, bit_xor, refl, sym, ◌∙◌, ap, ap₂, add-zero, inl, inr, arith}
use Rattle.std.proofs.lemmas.Nat.{pow_pos, xor_block, xor_comm}
use Rattle.std.proofs.lemmas.Nat.Bits.{bit_at_xor}
use lib.Bits.{xor_assoc, xor_self, xor_zero_l, xor_zero_r}
use Rattle.gl_shares.specs.Field.{coefficient}

-- the two inner ones of four change places
pub xor-middle : (a b c d : ℕ) → bit_xor (bit_xor a b) (bit_xor c d) ≡ bit_xor (bit_xor a c) (bit_xor b d)
xor-middle a b c d =
    xor_assoc a b (bit_xor c d)
    ∙ ap (λ (x : ℕ). bit_xor a x) (sym (xor_assoc b c d) ∙ ap (λ (x : ℕ). bit_xor x d) (xor_comm b c) ∙ xor_assoc c b d)
    ∙ sym (xor_assoc a c (bit_xor b d))

-- what stands twice goes
pub xor-twice : (a b : ℕ) → bit_xor a (bit_xor a b) ≡ b
xor-twice a b = sym (xor_assoc a a b) ∙ ap (λ (x : ℕ). bit_xor x b) (xor_self a) ∙ xor_zero_l b

-- what has the sum 0 is the same
pub same_from_xor : (a b : ℕ) → bit_xor a b ≡ 0 → a ≡ b
same_from_xor a b e = sym (xor_zero_r a) ∙ ap (λ (x : ℕ). bit_xor a x) (sym e) ∙ xor-twice a b

-- a sum that is moved up
pub moved-xor : (a b n : ℕ) → bit_xor a b * 2 ^ n ≡ bit_xor (a * 2 ^ n) (b * 2 ^ n)
moved-xor a b n =
    let whole = xor_block n a b 0 0 (pow_pos n) (pow_pos n) in
    sym (add-zero (bit_xor a b * 2 ^ n)) ∙ sym whole ∙ ap₂ bit_xor (add-zero (a * 2 ^ n)) (add-zero (b * 2 ^ n))

pub digit_cases : (c : ℕ) → c < 2 → (c ≡ 0) ⊎ (c ≡ 1)
digit_cases zero h = inl refl
digit_cases (suc c) h = inr (omega arith)

pub none : (v : ℕ) → 0 * v ≡ 0
none v = omega arith

pub once : (v : ℕ) → 1 * v ≡ v
once v = omega arith

digit-times : (c d v : ℕ) → c < 2 → d < 2 → (c + d) % 2 * v ≡ bit_xor (c * v) (d * v)
digit-times c d v hc hd =
    elim (digit_cases c hc) [
      | inl p ↦ elim (digit_cases d hd) [
        | inl q ↦ rw (p, q) (none v ∙ sym (ap₂ bit_xor (none v) (none v)))
        | inr q ↦ rw (p, q) (once v ∙ sym (ap₂ bit_xor (none v) (once v) ∙ xor_zero_l v))
      ]
      | inr p ↦ elim (digit_cases d hd) [
        | inl q ↦ rw (p, q) (once v ∙ sym (ap₂ bit_xor (once v) (none v) ∙ xor_zero_r v))
        | inr q ↦ rw (p, q) (none v ∙ sym (xor_self (1 * v)))
      ]
    ]

-- a polynomial's multiple by a coefficient of a sum
pub coefficient-xor : (a b i v : ℕ) → coefficient (bit_xor a b) i * v ≡ bit_xor (coefficient a i * v) (coefficient b i * v)
coefficient-xor a b i v = ap (λ (c : ℕ). c * v) (bit_at_xor a b i) ∙ digit-times (coefficient a i) (coefficient b i) v (omega arith) (omega arith)

-- the multiple of a sum by a coefficient
pub times-xor : (a i v w : ℕ) → coefficient a i * bit_xor v w ≡ bit_xor (coefficient a i * v) (coefficient a i * w)
times-xor a i v w =
    elim (digit_cases (coefficient a i) (omega arith)) [
      | inl p ↦ rw p (none (bit_xor v w) ∙ sym (ap₂ bit_xor (none v) (none w)))
      | inr p ↦ rw p (once (bit_xor v w) ∙ sym (ap₂ bit_xor (once v) (once w)))
    ]
