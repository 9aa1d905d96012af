-- std's bytes of a number are those by which it is encoded here.
use Rattle.std.proofs.Common.{rules, ◌≡◌, ℕ, w32, w64}
use Rattle.std.specs.Int.{to_le_bytes}
use Rattle.gl_base.specs.LittleEndian.{little_endian}

pub to_le_bytes-u32 : (n : ℕ) → to_le_bytes w32 n ≡ little_endian 4 n
unfolding little_endian
to_le_bytes-u32 n = search rules

pub to_le_bytes-u64 : (n : ℕ) → to_le_bytes w64 n ≡ little_endian 8 n
unfolding little_endian
to_le_bytes-u64 n = search rules
