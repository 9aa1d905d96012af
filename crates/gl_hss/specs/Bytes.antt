-- Strings of bytes, as lists of numbers (RFC 8554, 3.1).
use Rattle.std.specs.Prelude.{ℕ, ◌*◌, List, [], ◌∷◌, take, drop}
use Rattle.std.specs.Int.{w16, w32, to_be_bytes, from_be_bytes}

-- a number as one byte, as two and as four, the high byte first (3.1.1)
unfoldable pub u8str : ℕ → List ℕ
u8str n = n ∷ []

unfoldable pub u16str : ℕ → List ℕ
u16str n = to_be_bytes w16 n

unfoldable pub u32str : ℕ → List ℕ
u32str n = to_be_bytes w32 n

-- the n bytes of s from place `at` on
abbrev pub bytes_at : List ℕ → ℕ → ℕ → List ℕ
bytes_at s at n = take n (drop at s)

-- the number that four bytes from place `at` on encode
unfoldable pub number_at : List ℕ → ℕ → ℕ
number_at s at = from_be_bytes w32 (bytes_at s at 4)

-- the i-th of the 32-byte strings that make up s
abbrev pub block : List ℕ → ℕ → List ℕ
block s i = bytes_at s (32 * i) 32
