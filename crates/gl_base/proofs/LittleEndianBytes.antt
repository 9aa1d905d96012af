-- std's bytes of a number are the bytes of a number here.
use Rattle.std.proofs.Common.{get_or, ◌≡◌, ℕ, List, [], ◌∷◌, length, arith, w16, w32, w64}
use Rattle.std.specs.Int.{from_le_bytes}
use Rattle.gl_base.specs.LittleEndian.{from_little_endian}

pub from_bytes_1 : (xs : List ℕ) → length xs ≡ 1 → get_or xs 0 0 ≡ from_little_endian xs
from_bytes_1 (a ∷ []) h = omega arith
from_bytes_1 _ h = absurd (omega arith)

pub from_bytes_2 : (xs : List ℕ) → length xs ≡ 2 → from_le_bytes w16 xs ≡ from_little_endian xs
from_bytes_2 (a ∷ b ∷ []) h = omega arith
from_bytes_2 _ h = absurd (omega arith)

pub from_bytes_4 : (xs : List ℕ) → length xs ≡ 4 → from_le_bytes w32 xs ≡ from_little_endian xs
from_bytes_4 (a ∷ b ∷ c ∷ d ∷ []) h = omega arith
from_bytes_4 _ h = absurd (omega arith)

-- six bytes, and two zeros after them
pub from_bytes_6 : (xs : List ℕ) → length xs ≡ 6
    → from_le_bytes w64 (get_or xs 0 0 ∷ get_or xs 1 0 ∷ get_or xs 2 0 ∷ get_or xs 3 0 ∷ get_or xs 4 0 ∷ get_or xs 5 0 ∷ 0 ∷ 0 ∷ []) ≡ from_little_endian xs
from_bytes_6 (a ∷ b ∷ c ∷ d ∷ e ∷ f ∷ []) h = omega arith
from_bytes_6 _ h = absurd (omega arith)

pub from_bytes_8 : (xs : List ℕ) → length xs ≡ 8 → from_le_bytes w64 xs ≡ from_little_endian xs
from_bytes_8 (a ∷ b ∷ c ∷ d ∷ e ∷ f ∷ g ∷ h ∷ []) long = omega arith
from_bytes_8 _ long = absurd (omega arith)
