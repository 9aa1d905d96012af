-- How many bytes a value has.
use Rattle.std.proofs.Common.{ℕ, ◌+◌, ◌≤◌, List, ◌++◌, length, arith, length-append}
use Rattle.gl_base.specs.Field.{with_u32_length}
use Rattle.gl_base.specs.LittleEndian.{little_endian}
use Rattle.gl_base.proofs.LittleEndianLaws.{length-little_endian}
use Rattle.gl_answers.specs.Encoding.{most_bytes}

pub number_within : (out : List ℕ) (n : ℕ) → length (out ++ little_endian 8 n) ≤ length out + most_bytes
number_within out n = omega (arith, length-append out (little_endian 8 n), length-little_endian 8 n)

pub sized_within : (out bytes : List ℕ) → length bytes ≤ 32 → length (out ++ with_u32_length bytes) ≤ length out + most_bytes
sized_within out bytes short =
    let size = little_endian 4 (length bytes) in
    omega (arith, length-append out (size ++ bytes), length-append size bytes, length-little_endian 4 (length bytes))
