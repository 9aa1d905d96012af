-- The remainder is one: a polynomial is a multiple of the modulus, and its remainder.
use Rattle.std.proofs.Common.{◌≡◌, ℕ, zero, suc, ◌+◌, ◌*◌, ◌%◌, ◌<◌, ◌≤◌, ◌^◌, bit_xor, refl, sym, ◌∙◌, ap, ap₂, inl, inr, arith}
use Rattle.std.proofs.Math.Nat.{div-eq_of_lt, pow-suc}
use Rattle.std.proofs.lemmas.Nat.{xor_lt, xor_comm}
use Rattle.std.proofs.lemmas.Nat.Bits.{bit_at-pow_same, bit_at-pow_other}
use lib.Bits.{xor_assoc, xor_zero_l, xor_zero_r}
use Rattle.gl_shares.specs.Field.{coefficient, product, modulus, remainder, field_product}
use Rattle.gl_shares.proofs.Xor.{xor-twice, digit_cases, none, once}
use Rattle.gl_shares.proofs.Bilinear.{product-xor_right}

-- no terms below x^m of x^n, and its own
terms_below : (p n m : ℕ) → m ≤ n → product p (2 ^ n) m ≡ 0
unfolding product
terms_below p n zero h = refl
terms_below p n (suc m) h =
    ap₂ bit_xor (terms_below p n m (omega arith)) (ap (λ (c : ℕ). c * (p * 2 ^ m)) (bit_at-pow_other n m (λ (e : m ≡ n). omega arith)) ∙ none (p * 2 ^ m))

own_term : (p n : ℕ) → product p (2 ^ n) (suc n) ≡ p * 2 ^ n
unfolding product
own_term p n =
    ap₂ bit_xor (terms_below p n n (omega arith)) (ap (λ (c : ℕ). c * (p * 2 ^ n)) (bit_at-pow_same n) ∙ once (p * 2 ^ n))
    ∙ xor_zero_l (p * 2 ^ n)

-- a polynomial without terms from x^n on
no_term : (p q n : ℕ) → q < 2 ^ n → product p q (suc n) ≡ product p q n
unfolding product
no_term p q n h =
    let high : coefficient q n ≡ 0 = ap (λ (x : ℕ). x % 2) (div-eq_of_lt h) in
    ap (λ (c : ℕ). bit_xor (product p q n) (c * (p * 2 ^ n))) high
    ∙ ap (bit_xor (product p q n)) (none (p * 2 ^ n)) ∙ xor_zero_r (product p q n)

pub divides : (n p : ℕ) → (q : ℕ) × (q < 2 ^ n) × (p ≡ bit_xor (product modulus q n) (remainder p n))
unfolding remainder product
divides zero p = (0, omega arith, sym (xor_zero_l p))
divides (suc n) p =
    let v : ℕ = modulus * 2 ^ n in
    let c : ℕ = coefficient p (8 + n) in
    let left : ℕ = bit_xor p (c * v) in
    let rest = divides n left in
    let q : ℕ = rest.0 in
    let r : ℕ = remainder left n in
    let two = pow-suc 2 n in
    elim (digit_cases c (omega arith)) [
      | inl even ↦ (
          let same : p ≡ left = sym (ap (λ (d : ℕ). bit_xor p (d * v)) even ∙ ap (bit_xor p) (none v) ∙ xor_zero_r p) in
          (q, omega (arith, rest.1), same ∙ rest.2 ∙ ap (λ (x : ℕ). bit_xor x r) (sym (no_term modulus q n rest.1))))
      | inr odd ↦ (
          let taken : left ≡ bit_xor v p = ap (λ (d : ℕ). bit_xor p (d * v)) odd ∙ ap (bit_xor p) (once v) ∙ xor_comm p v in
          let same : p ≡ bit_xor v left = sym (ap (bit_xor v) taken ∙ xor-twice v p) in
          let multiple : product modulus (bit_xor (2 ^ n) q) (suc n) ≡ bit_xor v (product modulus q n) =
          product-xor_right modulus (2 ^ n) q (suc n) ∙ ap₂ bit_xor (own_term modulus n) (no_term modulus q n rest.1) in (
            bit_xor (2 ^ n) q,
            xor_lt (suc n) (2 ^ n) q (omega arith) (omega (arith, rest.1)),
            same ∙ ap (bit_xor v) rest.2 ∙ sym (xor_assoc v (product modulus q n) r) ∙ ap (λ (x : ℕ). bit_xor x r) (sym multiple),
          ))
    ]

pub field_product-remainder : (a b : ℕ) → (q : ℕ) × (q < 2 ^ 8) × (product a b 8 ≡ bit_xor (product modulus q 8) (field_product a b))
unfolding field_product
field_product-remainder a b = divides 8 (product a b 8)
