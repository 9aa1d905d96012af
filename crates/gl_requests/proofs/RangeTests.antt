-- Tests of ranges of which the types keep a part.
use Rattle.std.proofs.Common.{◌≡◌, ℕ, zero, suc, ◌<◌, List, [], ◌∷◌, length, get_or, Bool, true, false, ◌&&◌, ◌==◌, nat_le, nat_lt, refl, sym, ◌∙◌, arith, eq-eqb}
use Rattle.std.proofs.lemmas.Bool.{and_from}
use Rattle.std.proofs.lemmas.Bool.Decides.{nat_tests}
use Rattle.gl_base.specs.Bytes.{is_byte, are_bytes, are_sized}
use Rattle.gl_requests.specs.Ranges.{is_member_number}

-- the part that holds tests nothing
pub after_true : (a b : Bool) → a ≡ true → (a && b) ≡ b
after_true true b h = refl
after_true false b h = absurd (cc)

pub before_true : (a b : Bool) → b ≡ true → (a && b) ≡ a
before_true true b h = h
before_true false b h = refl

-- so many numbers below 256 are so many bytes
pub within : (xs : List ℕ) → ((i : ℕ) → i < length xs → get_or xs i 0 < 256) → are_bytes xs ≡ true
within [] each = refl
within (x ∷ xs) each =
    let first : x < 256 = each 0 (omega arith) in
    let is : is_byte x ≡ true = grind (arith, nat_tests) in
    and_from (is_byte x) (are_bytes xs) is (within xs (λ i low. each (suc i) (omega arith)))

pub sized : (n : ℕ) (xs : List ℕ) → length xs ≡ n → ((i : ℕ) → i < length xs → get_or xs i 0 < 256) → are_sized n xs ≡ true
sized n xs h each = and_from (length xs == n) (are_bytes xs) (eq-eqb (length xs) n h) (within xs each)

-- the number of a member is above 0
pub numbered : (n : ℕ) → n < 256 → nat_lt 0 n ≡ is_member_number n
numbered zero low = refl
numbered (suc n) low =
    let above : nat_lt 0 (suc n) ≡ true = grind (arith, nat_tests) in
    let first : nat_le 1 (suc n) ≡ true = grind (arith, nat_tests) in
    let is : is_byte (suc n) ≡ true = grind (arith, nat_tests) in
    above ∙ sym (and_from (nat_le 1 (suc n)) (is_byte (suc n)) first is)
