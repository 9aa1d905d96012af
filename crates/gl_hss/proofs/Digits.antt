-- The digits of a string, as the code takes them from its bytes.
use Rattle.std.proofs.Common.{◌≡◌, ℕ, ◌+◌, ◌-◌, ◌*◌, ◌/◌, ◌%◌, ◌^◌, ◌<◌, List, get_or, refl, sym, ◌∙◌, add-one, arith}
use Rattle.std.specs.Prelude.{bit_and}
use Rattle.std.proofs.lemmas.Grind.{numeral_and, and_numeral}
use Rattle.gl_hss.specs.Ots.{coef, digit_sum}

-- a digit of eight bits is a byte
pub coef_byte : (s : List ℕ) (i : ℕ) → get_or s i 0 < 256 → coef s i 8 ≡ get_or s i 0
unfolding coef
coef_byte s i h =
    let place : i * 8 / 8 ≡ i = omega arith in
    let digit : i % 1 ≡ 0 = omega arith in
    rw (place, digit) (numeral_and 254 (get_or s i 0 / 1) refl ∙ omega arith)

-- a digit of four bits in an even place is the upper half of a byte
pub coef_upper : (s : List ℕ) (i : ℕ) → get_or s (i / 2) 0 < 256 → i % 2 ≡ 0 → coef s i 4 ≡ get_or s (i / 2) 0 / 16
unfolding coef
coef_upper s i h even =
    let place : i * 4 / 8 ≡ i / 2 = omega arith in
    rw (place, even) (numeral_and 14 (get_or s (i / 2) 0 / 16) refl ∙ omega arith)

-- a digit of four bits in an odd place is the lower half of a byte
pub coef_lower : (s : List ℕ) (i : ℕ) → i % 2 ≡ 1 → coef s i 4 ≡ bit_and (get_or s (i / 2) 0) 15
unfolding coef
coef_lower s i odd =
    let place : i * 4 / 8 ≡ i / 2 = omega arith in
    rw (place, odd) (numeral_and 14 (get_or s (i / 2) 0 / 1) refl ∙ (omega arith ∙ sym (and_numeral (get_or s (i / 2) 0) 14 refl)))

-- the sum over one digit more
pub digit_sum-more : (q : List ℕ) (w i : ℕ) → digit_sum q w (i + 1) ≡ digit_sum q w i + (2 ^ w - 1 - coef q i w)
unfolding digit_sum
digit_sum-more q w i = rw add-one refl

pub digit_sum-none : (q : List ℕ) (w : ℕ) → digit_sum q w 0 ≡ 0
unfolding digit_sum
digit_sum-none q w = refl
