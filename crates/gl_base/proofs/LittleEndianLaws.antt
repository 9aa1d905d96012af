-- A number's bytes encode it, and an encoding of so many bytes is that of its number.
use Rattle.std.proofs.Common.{◌≡◌, ℕ, zero, suc, ◌+◌, ◌*◌, ◌/◌, ◌%◌, ◌^◌, ◌<◌, List, [], ◌∷◌, length, refl, ap, arith}
use Rattle.std.proofs.lemmas.Nat.{div-mul-add, mod-mul-add, div_below}
use Rattle.std.proofs.Math.Nat.{pow-suc}
use Rattle.gl_base.specs.LittleEndian.{little_endian, from_little_endian}
use Rattle.gl_base.proofs.ByteLists.{AreBytes, AreBytes-tail}

pub length-little_endian : (size n : ℕ) → length (little_endian size n) ≡ size
unfolding little_endian
length-little_endian zero n = refl
length-little_endian (suc size) n = ap suc (length-little_endian size (n / 256))

pub from_little_endian-little_endian : (size n : ℕ) → n < 256 ^ size → from_little_endian (little_endian size n) ≡ n
unfolding little_endian
from_little_endian-little_endian zero n small = omega arith
from_little_endian-little_endian (suc size) n small =
    let fits : n < 256 ^ size * 256 = omega (arith, pow-suc 256 size) in
    let high = from_little_endian-little_endian size (n / 256) (div_below n 256 (256 ^ size) (omega arith) fits) in
    omega (arith, high)

pub little_endian-from_little_endian : (xs : List ℕ) → AreBytes xs → little_endian (length xs) (from_little_endian xs) ≡ xs
unfolding little_endian
little_endian-from_little_endian [] all = refl
little_endian-from_little_endian (x ∷ xs) all =
    let byte : x < 256 = all 0 in
    let value : ℕ = from_little_endian xs in
    let low : (x + 256 * value) % 256 ≡ x = omega (arith, mod-mul-add value 256 x byte) in
    let high : (x + 256 * value) / 256 ≡ value = omega (arith, div-mul-add value 256 x byte) in
    let others = little_endian-from_little_endian xs (AreBytes-tail x xs all) in
    rw (low, high, others) refl

pub from_little_endian-lt : (xs : List ℕ) → AreBytes xs → from_little_endian xs < 256 ^ length xs
from_little_endian-lt [] all = omega arith
from_little_endian-lt (x ∷ xs) all =
    let byte : x < 256 = all 0 in
    let others = from_little_endian-lt xs (AreBytes-tail x xs all) in
    omega (arith, pow-suc 256 (length xs))

-- The one encoding, by so many bytes, of the number that they encode.
pub encoding_of : (size n : ℕ) (xs : List ℕ) → length xs ≡ size → AreBytes xs → n ≡ from_little_endian xs → little_endian size n ≡ xs
encoding_of size n xs long all value =
    let encoded = little_endian-from_little_endian xs all in
    cc
