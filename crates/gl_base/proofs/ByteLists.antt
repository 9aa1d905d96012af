-- Lists of bytes: as a test, number by number, and their parts.
use Rattle.std.proofs.Common.{◌≡◌, ℕ, zero, suc, ◌<◌, true, List, [], ◌∷◌, ◌++◌, take, slice_index, refl, arith}
use Rattle.std.proofs.lemmas.Bool.{and_parts, and_from}
use Rattle.std.proofs.lemmas.Bool.Decides.{nat_tests}
use Rattle.gl_base.specs.Bytes.{is_byte, are_bytes}

-- Each number is a byte, number by number: so the type of a slice of bytes has it.
abbrev pub AreBytes : List ℕ → Type 0
AreBytes xs = (i : ℕ) → slice_index xs i < 256

-- where each number is a byte, the test finds them all
pub are_bytes-true : (xs : List ℕ) → AreBytes xs → are_bytes xs ≡ true
are_bytes-true [] all = refl
are_bytes-true (x ∷ xs) all =
    let first : x < 256 = all 0 in
    let is : is_byte x ≡ true = grind (arith, nat_tests) in
    and_from (is_byte x) (are_bytes xs) is (are_bytes-true xs (λ i. all (suc i)))

-- and what the test finds so is
pub are_bytes-each : (xs : List ℕ) → are_bytes xs ≡ true → AreBytes xs
are_bytes-each [] e i = omega arith
are_bytes-each (x ∷ xs) e zero = let parts = and_parts (is_byte x) (are_bytes xs) e in grind (arith, nat_tests, parts.0)
are_bytes-each (x ∷ xs) e (suc i) = are_bytes-each xs (and_parts (is_byte x) (are_bytes xs) e).1 i

-- those before others are bytes too, and those after them
pub AreBytes-prefix : (xs ys : List ℕ) → AreBytes (xs ++ ys) → AreBytes xs
AreBytes-prefix [] ys all i = omega arith
AreBytes-prefix (x ∷ xs) ys all zero = all zero
AreBytes-prefix (x ∷ xs) ys all (suc i) = AreBytes-prefix xs ys (λ k. all (suc k)) i

pub AreBytes-suffix : (xs ys : List ℕ) → AreBytes (xs ++ ys) → AreBytes ys
AreBytes-suffix [] ys all = all
AreBytes-suffix (x ∷ xs) ys all = AreBytes-suffix xs ys (λ k. all (suc k))

pub AreBytes-take : (n : ℕ) (xs : List ℕ) → AreBytes xs → AreBytes (take n xs)
AreBytes-take zero xs all i = omega arith
AreBytes-take (suc n) [] all i = omega arith
AreBytes-take (suc n) (x ∷ xs) all zero = all zero
AreBytes-take (suc n) (x ∷ xs) all (suc i) = AreBytes-take n xs (λ k. all (suc k)) i

pub AreBytes-tail : (x : ℕ) (xs : List ℕ) → AreBytes (x ∷ xs) → AreBytes xs
AreBytes-tail x xs all i = all (suc i)
