-- How fields of bytes are encoded: after their length, which is a number with the low byte first.
use Rattle.std.specs.Prelude.{◌≡◌, ◌≢◌, ◌⊎◌, ℕ, List, ◌++◌, ◌<◌, ◌^◌, ◌/◌, ◌==◌, length, if◌then◌else◌}
use Rattle.gl_base.specs.LittleEndian.{little_endian}

-- A length in one byte, and so many bytes.
abbrev pub with_u8_length : List ℕ → List ℕ
with_u8_length bytes = little_endian 1 (length bytes) ++ bytes

-- A length in two bytes, and so many bytes.
abbrev pub with_u16_length : List ℕ → List ℕ
with_u16_length bytes = little_endian 2 (length bytes) ++ bytes

-- A length in four bytes, and so many bytes.
abbrev pub with_u32_length : List ℕ → List ℕ
with_u32_length bytes = little_endian 4 (length bytes) ++ bytes

-- The width of a length in bits; with the width 0 there is none.
abbrev pub IsWidth : ℕ → Type 0
IsWidth width = (width ≡ 0) ⊎ (width ≡ 8) ⊎ (width ≡ 16) ⊎ (width ≡ 32)

-- Bytes after a length of a width, or alone.
abbrev pub field_encoding : ℕ → List ℕ → List ℕ
field_encoding width xs = if width == 0 then xs else little_endian (width / 8) (length xs) ++ xs

-- The length of the bytes can be encoded in this width, if there is a length.
abbrev pub FitsWidth : ℕ → List ℕ → Type 0
FitsWidth width xs = width ≢ 0 → length xs < 256 ^ (width / 8)
