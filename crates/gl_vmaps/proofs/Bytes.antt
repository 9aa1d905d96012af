-- Lists of bytes: as a test, number by number, and which of them are keys and values.
use Rattle.std.proofs.Common.{◌≡◌, ℕ, suc, ◌≤◌, ◌<◌, true, nat_lt, List, [], ◌∷◌, length, get_or, refl, arith}
use Rattle.std.proofs.lemmas.Bool.{and_from}
use Rattle.std.proofs.lemmas.Bool.Decides.{nat_tests}
use Rattle.gl_vmaps.specs.Name.{are_bytes, is_key, key_limit, is_value, value_limit}

-- Where each number is a byte, the test finds them all.
pub are_bytes-true : (xs : List ℕ) → ((i : ℕ) → get_or xs i 0 < 256) → are_bytes xs ≡ true
are_bytes-true [] all = refl
are_bytes-true (x ∷ xs) all =
    let first : x < 256 = all 0 in
    let is : nat_lt x 256 ≡ true = grind (arith, nat_tests) in
    and_from (nat_lt x 256) (are_bytes xs) is (are_bytes-true xs (λ i. all (suc i)))

pub is_key-bytes : (xs : List ℕ) → ((i : ℕ) → get_or xs i 0 < 256) → 1 ≤ length xs → length xs ≤ key_limit → is_key xs ≡ true
is_key-bytes xs all some within = rw (are_bytes-true xs all) (grind (arith, nat_tests))

pub is_value-bytes : (xs : List ℕ) → ((i : ℕ) → get_or xs i 0 < 256) → length xs ≤ value_limit → is_value xs ≡ true
is_value-bytes xs all within = rw (are_bytes-true xs all) (grind (arith, nat_tests))
