-- Numbers as bytes, the least significant byte first.
use Rattle.std.specs.Prelude.{ℕ, zero, suc, ◌+◌, ◌*◌, ◌/◌, ◌%◌, List, [], ◌∷◌}

-- The bytes that encode a number, so many of them.
unfoldable pub little_endian : ℕ → ℕ → List ℕ
little_endian zero n = []
little_endian (suc size) n = n % 256 ∷ little_endian size (n / 256)

-- The number that bytes encode.
abbrev pub from_little_endian : List ℕ → ℕ
from_little_endian [] = 0
from_little_endian (byte ∷ bytes) = byte + 256 * from_little_endian bytes
