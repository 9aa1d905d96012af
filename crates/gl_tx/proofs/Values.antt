-- Numbers that are held as values.
use Rattle.std.proofs.Common.{◌≡◌, ℕ, zero, suc, ◌/◌, true, List, length, Some, Ok, refl, eq-eqb, arith}
use Rattle.gl_base.specs.LittleEndian.{little_endian, from_little_endian}
use Rattle.gl_base.proofs.LittleEndianLaws.{length-little_endian}
use Rattle.gl_base.proofs.Names.{value-valid}
use Rattle.gl_vmaps.specs.Name.{value_limit, is_value}
use Rattle.gl_base.proofs.ByteLists.{AreBytes, are_bytes-true}
use Rattle.gl_tx.specs.Performs.{number_in}

AreBytes-little_endian : (size n : ℕ) → AreBytes (little_endian size n)
unfolding little_endian
AreBytes-little_endian zero n i = omega arith
AreBytes-little_endian (suc size) n zero = omega arith
AreBytes-little_endian (suc size) n (suc i) = AreBytes-little_endian size (n / 256) i

-- a number's eight bytes are a value
pub is_value-number : (n : ℕ) → is_value (little_endian 8 n) ≡ true
is_value-number n =
    let eight = length-little_endian 8 n in
    value-valid value_limit (little_endian 8 n) (are_bytes-true (little_endian 8 n) (AreBytes-little_endian 8 n)) (omega arith)

-- eight bytes hold the number that they encode
pub number_in-eight : (value : List ℕ) (n : ℕ) → length value ≡ 8 → n ≡ from_little_endian value → Ok n ≡ number_in (Some value)
number_in-eight value n long is = rw (is, eq-eqb (length value) 8 long) refl
