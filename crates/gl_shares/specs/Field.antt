-- The field GF(2^8) of the polynomial x^8 + x^4 + x^3 + x + 1 (FIPS 197, section 4.2). A number
-- stands for the polynomial over bits in which the coefficient of x^i is its bit i. The sum of two
-- polynomials is bit_xor.
use Rattle.std.specs.Prelude.{ℕ, zero, suc, ◌+◌, ◌*◌, ◌/◌, ◌%◌, ◌^◌, bit_xor, nat_eq, if◌then◌else◌}

-- the coefficient of x^i
abbrev pub coefficient : ℕ → ℕ → ℕ
coefficient p i = p / 2 ^ i % 2

-- the product of p and of q's terms below x^n: for each term of q, p moved up by as many places
unfoldable pub product : ℕ → ℕ → ℕ → ℕ
product p q zero = 0
product p q (suc n) = bit_xor (product p q n) (coefficient q n * (p * 2 ^ n))

-- x^8 + x^4 + x^3 + x + 1
abbrev pub modulus : ℕ
modulus = 0x11b

-- the remainder by the modulus of a polynomial without terms from x^(8 + n) on: each term from x^8
-- on is taken away, the highest first, with the multiple of the modulus that it heads
unfoldable pub remainder : ℕ → ℕ → ℕ
remainder p zero = p
remainder p (suc n) = remainder (bit_xor p (coefficient p (8 + n) * (modulus * 2 ^ n))) n

-- the product in the field: the remainder of the product of two polynomials without terms from x^8
-- on
unfoldable pub field_product : ℕ → ℕ → ℕ
field_product a b = remainder (product a b 8) 8

-- the greatest number below n whose product with a is 1, or 0 if there is none
unfoldable pub inverse_below : ℕ → ℕ → ℕ
inverse_below a zero = 0
inverse_below a (suc n) = if nat_eq (field_product a n) 1 then n else inverse_below a n

-- the inverse in the field, and 0 for 0
unfoldable pub inverse_of : ℕ → ℕ
inverse_of a = inverse_below a 256
