-- Digests are bytes, 32 of them, numbers in bytes are bytes, and so are lists one after the other.
use Rattle.std.proofs.Common.{◌≡◌, ℕ, zero, suc, ◌<◌, List, [], ◌∷◌, ◌++◌, ◌/◌, ◌%◌, length, Bool, true, ◌==◌, flat_map, refl, arith}
use Rattle.std.specs.List.{list_all}
use Rattle.std.proofs.lemmas.Bool.{and_parts, and_from}
use Rattle.std.proofs.lemmas.Bool.Decides.{nat_tests}
use Rattle.sha2.specs.Sha256.{sha256}
use Rattle.sha2.proofs.Facts256.{length-sha256}
use Rattle.gl_hss.proofs.Octets as lms
use Rattle.gl_base.specs.LittleEndian.{little_endian}
use Rattle.gl_base.specs.Field.{with_u32_length}
use Rattle.gl_base.specs.Bytes.{is_byte, are_bytes, are_sized, is_digest}

pub bytes-append : (xs ys : List ℕ) → are_bytes xs ≡ true → are_bytes ys ≡ true → are_bytes (xs ++ ys) ≡ true
bytes-append xs ys left right = lms.bytes-append xs ys left right

-- one more in front
pub one_byte : (n : ℕ) (xs : List ℕ) → is_byte n ≡ true → are_bytes xs ≡ true → are_bytes (n ∷ xs) ≡ true
one_byte n xs a b = and_from (is_byte n) (are_bytes xs) a b

below : (n : ℕ) → is_byte (n % 256) ≡ true
below n = let small : n % 256 < 256 = omega arith in grind (arith, nat_tests)

pub number_bytes : (size n : ℕ) → are_bytes (little_endian size n) ≡ true
unfolding little_endian
number_bytes zero n = refl
number_bytes (suc size) n = and_from (is_byte (n % 256)) (are_bytes (little_endian size (n / 256))) (below n) (number_bytes size (n / 256))

-- bytes after their length
pub length_bytes : (xs : List ℕ) → are_bytes xs ≡ true → are_bytes (with_u32_length xs) ≡ true
length_bytes xs all = bytes-append (little_endian 4 (length xs)) xs (number_bytes 4 (length xs)) all

-- parts that are bytes, one after the other
pub flat_bytes : {A : Type 0} (bytes : A → List ℕ) (is : A → Bool) (xs : List A) → ((x : A) → is x ≡ true → are_bytes (bytes x) ≡ true) → list_all is xs ≡ true → are_bytes (flat_map bytes xs) ≡ true
flat_bytes bytes is [] each all = refl
flat_bytes bytes is (x ∷ xs) each all =
    let both = and_parts (is x) (list_all is xs) all in
    bytes-append (bytes x) (flat_map bytes xs) (each x both.0) (flat_bytes bytes is xs each both.1)

pub sized_bytes : (n : ℕ) (xs : List ℕ) → are_sized n xs ≡ true → are_bytes xs ≡ true
sized_bytes n xs h = (and_parts (length xs == n) (are_bytes xs) h).1

pub are_sized-true : (size : ℕ) (xs : List ℕ) → length xs ≡ size → are_bytes xs ≡ true → are_sized size xs ≡ true
are_sized-true size xs long all = rw (long, all) (grind (arith, nat_tests))

pub sha256_digest : (m : List ℕ) → is_digest (sha256 m) ≡ true
sha256_digest m = are_sized-true 32 (sha256 m) (length-sha256 m) (lms.sha256_bytes m)
