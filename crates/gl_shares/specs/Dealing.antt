-- Shares of a secret of 32 bytes (A. Shamir, "How to share a secret", Communications of the ACM 22,
-- 1979), each byte by itself, over GF(2^8). The coefficients are drawn by ChaCha20 (RFC 8439) from
-- a seed.
use Rattle.std.specs.Prelude.{◌≡◌, ℕ, ◌-◌, ◌*◌, ◌%◌, ◌^◌, ◌<◌, ◌≤◌, List, [], ◌∷◌, length, map, bit_xor, slice_index_or, All}
use Rattle.std.specs.List.{range_with_len}
use Rattle.rand_chacha.specs.ChaCha.{word_at, key_of}
use Rattle.gl_shares.specs.declared.share.Share.{Share}
use Rattle.gl_shares.specs.Field.{field_product}

-- the 32 bytes of which each is this function's value at its place, counted from 0
unfoldable pub each_byte : (ℕ → ℕ) → List ℕ
each_byte f = map f (range_with_len 0 32)

-- the value at x of the polynomial with these coefficients, that of x^0 first
unfoldable pub value_at : List ℕ → ℕ → ℕ
value_at [] x = 0
value_at (c ∷ cs) x = bit_xor c (field_product x (value_at cs x))

-- a member's share: of each polynomial the value at the member's number
abbrev pub share_of : List (List ℕ) → ℕ → Share
share_of polynomials member = record {
  member = member;
  value
      = map (λ p. value_at p member) polynomials;
}

-- the low byte of a word that is drawn, counted from 0
abbrev pub drawn : List ℕ → ℕ → ℕ
drawn seed n = word_at 10 (key_of seed) 0 n % 256

-- The polynomial of a byte, counted from 0: the secret's byte stands at 0, and the coefficients
-- above it are drawn, that of x first. So each byte has k - 1 of the drawn ones, in the order of
-- the bytes.
abbrev pub polynomial_of : List ℕ → ℕ → List ℕ → ℕ → List ℕ
polynomial_of secret k seed byte = slice_index_or secret byte 0
    ∷ map (drawn seed) (range_with_len (byte * (k - 1)) (k - 1))

-- the polynomials of a secret's 32 bytes
unfoldable pub polynomials_of : List ℕ → ℕ → List ℕ → List (List ℕ)
polynomials_of secret k seed = map (polynomial_of secret k seed) (range_with_len 0 32)

-- a polynomial over the field, of degree below k
pub record IsPolynomial (k : ℕ) (p : List ℕ) : Type 0 where
  pub degree : length p ≤ k
  pub coefficients : All (λ c. c < 2 ^ 8) p

-- the share is the one that its member has
pub record IsShareOf (polynomials : List (List ℕ)) (share : Share) : Type 0 where
  pub member : share.member < 2 ^ 8
  pub value : share ≡ share_of polynomials share.member
