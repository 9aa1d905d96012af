-- The field's product is additive on both sides. So what is said of additive functions holds where
-- it holds of the terms x^i.
use Rattle.std.proofs.Common.{◌≡◌, ℕ, zero, suc, ◌+◌, ◌-◌, ◌*◌, ◌<◌, ◌≤◌, ◌^◌, bit_xor, refl, sym, ◌∙◌, ap, ap₂, inl, inr, arith}
use Rattle.std.proofs.lemmas.Bool.{cases_lt}
use Rattle.std.proofs.Math.Nat.{pow-suc}
use lib.Bits.{xor_self, xor_shifted}
use Rattle.gl_shares.specs.Field.{coefficient, product, modulus, remainder, field_product}
use Rattle.gl_shares.proofs.Xor.{xor-middle, moved-xor, coefficient-xor, times-xor}

pub product-xor_right : (p q r n : ℕ) → product p (bit_xor q r) n ≡ bit_xor (product p q n) (product p r n)
unfolding product
product-xor_right p q r zero = refl
product-xor_right p q r (suc n) =
    ap₂ bit_xor (product-xor_right p q r n) (coefficient-xor q r n (p * 2 ^ n))
    ∙ xor-middle (product p q n) (product p r n) (coefficient q n * (p * 2 ^ n)) (coefficient r n * (p * 2 ^ n))

product-xor_left : (p q r n : ℕ) → product (bit_xor p q) r n ≡ bit_xor (product p r n) (product q r n)
unfolding product
product-xor_left p q r zero = refl
product-xor_left p q r (suc n) =
    ap₂ bit_xor (product-xor_left p q r n) (ap (λ (x : ℕ). coefficient r n * x) (moved-xor p q n) ∙ times-xor r n (p * 2 ^ n) (q * 2 ^ n))
    ∙ xor-middle (product p r n) (product q r n) (coefficient r n * (p * 2 ^ n)) (coefficient r n * (q * 2 ^ n))

remainder-xor : (p q n : ℕ) → remainder (bit_xor p q) n ≡ bit_xor (remainder p n) (remainder q n)
unfolding remainder
remainder-xor p q zero = refl
remainder-xor p q (suc n) =
    let v : ℕ = modulus * 2 ^ n in
    ap (λ (x : ℕ). remainder x n) (
    ap (λ (x : ℕ). bit_xor (bit_xor p q) x) (coefficient-xor p q (8 + n) v)
    ∙ xor-middle p q (coefficient p (8 + n) * v) (coefficient q (8 + n) * v))
    ∙ remainder-xor (bit_xor p (coefficient p (8 + n) * v)) (bit_xor q (coefficient q (8 + n) * v)) n

-- the product distributes over the sum
pub field_product-xor_right : (a b c : ℕ) → field_product a (bit_xor b c) ≡ bit_xor (field_product a b) (field_product a c)
unfolding field_product
field_product-xor_right a b c = ap (λ (x : ℕ). remainder x 8) (product-xor_right a b c 8) ∙ remainder-xor (product a b 8) (product a c 8) 8

pub field_product-xor_left : (a b c : ℕ) → field_product (bit_xor a b) c ≡ bit_xor (field_product a c) (field_product b c)
unfolding field_product
field_product-xor_left a b c = ap (λ (x : ℕ). remainder x 8) (product-xor_left a b c 8) ∙ remainder-xor (product a c 8) (product b c 8) 8

-- the function of a sum is the sum of its values
pub record IsAdditive (f : ℕ → ℕ) : Type 0 where
  pub at : (x y : ℕ) → f (bit_xor x y) ≡ bit_xor (f x) (f y)

IsAdditive-zero : (f : ℕ → ℕ) → IsAdditive f → f 0 ≡ 0
IsAdditive-zero f h = h.at 0 0 ∙ xor_self (f 0)

split_top : (n a : ℕ) → 2 ^ n ≤ a → a < 2 ^ suc n → (a ≡ bit_xor (2 ^ n) (a - 2 ^ n)) × (a - 2 ^ n < 2 ^ n)
split_top n a low high =
    let two = pow-suc 2 n in
    let small : a - 2 ^ n < 2 ^ n = omega arith in
    let whole = xor_shifted 1 n (a - 2 ^ n) small in
    let one : 1 * 2 ^ n ≡ 2 ^ n = omega arith in
    let back : 1 * 2 ^ n + (a - 2 ^ n) ≡ a = omega arith in
    (sym back ∙ sym whole ∙ ap (λ (x : ℕ). bit_xor x (a - 2 ^ n)) one, small)

-- additive functions that agree on the terms below x^n agree on all polynomials of these
pub same_below : (f g : ℕ → ℕ) → IsAdditive f → IsAdditive g → (n : ℕ) → ((i : ℕ) → i < n → f (2 ^ i) ≡ g (2 ^ i)) → (a : ℕ) → a < 2 ^ n → f a ≡ g a
same_below f g hf hg zero same a lt =
    let none : a ≡ 0 = omega arith in
    rw none (IsAdditive-zero f hf ∙ sym (IsAdditive-zero g hg))
same_below f g hf hg (suc n) same a lt =
    let fewer = λ (i : ℕ) (h : i < n). same i (omega arith) in
    elim (cases_lt a (2 ^ n)) [
      | inl low ↦ same_below f g hf hg n fewer a low
      | inr high ↦ (
          let parts = split_top n a high lt in
          let rest = same_below f g hf hg n fewer (a - 2 ^ n) parts.1 in
          ap f parts.0 ∙ hf.at (2 ^ n) (a - 2 ^ n)
          ∙ ap₂ bit_xor (same n (omega arith)) rest
          ∙ sym (hg.at (2 ^ n) (a - 2 ^ n)) ∙ ap g (sym parts.0))
    ]
