-- Decimal numbers, digit by digit.
use Rattle.std.proofs.Common.{◌≡◌, ℕ, ◌+◌, ◌-◌, ◌*◌, ◌^◌, ◌<◌, ◌≤◌, Bool, true, false, ◌&&◌, List, length, take, get_or, refl, ◌∙◌, ap, arith}
use Rattle.std.specs.Str.Parse.{AllDigits, digits_value}
use Rattle.std.proofs.lemmas.Int.Digits.{digits_value_more}
use Rattle.std.proofs.lemmas.Str.Parse.{digit_at, digits_value-take-le, numerals_by_value, tells_all_ascii_digits}
use Rattle.std.proofs.lemmas.List.{take_all}
use Rattle.gl_base.proofs.Numerals.{digit_value-digit}
use Rattle.gl_lines.specs.Numbers.{is_decimal}

-- one digit more
pub value_more : (i value next : ℕ) (ds : List ℕ) → AllDigits 10 ds → i < length ds → value ≡ digits_value 10 (take i ds) →
    next ≡ value * 10 + (get_or ds i 0 - 48) → next ≡ digits_value 10 (take (i + 1) ds)
value_more i value next ds all below e f =
    let more = digits_value_more 10 ds i below in
    let worth = digit_value-digit (get_or ds i 0) (digit_at ds i all below) in
    omega (arith, more, worth, e, f)

-- numbers only grow with more digits
pub value_over : (i value : ℕ) (ds : List ℕ) → AllDigits 10 ds → i < length ds → value ≡ digits_value 10 (take i ds) →
    (value * 10 + (get_or ds i 0 - 48) < 2 ^ 128 → ⊥) → digits_value 10 ds < 2 ^ 128 → ⊥
value_over i value ds all below e over small =
    let more = value_more i value (value * 10 + (get_or ds i 0 - 48)) ds all below e refl in
    over (omega (arith, more, digits_value-take-le 10 ds (i + 1) (omega arith)))

pub value_whole : (i value : ℕ) (ds : List ℕ) → length ds ≤ i → value < 2 ^ 128 → value ≡ digits_value 10 (take i ds) →
    (digits_value 10 ds < 2 ^ 128) × (value ≡ digits_value 10 ds)
value_whole i value ds past small e =
    let same : value ≡ digits_value 10 ds = e ∙ ap (digits_value 10) (take_all i ds past) in
    (omega arith, same)

and_true : (a b : Bool) → a && b ≡ true → (a ≡ true) × (b ≡ true)
and_true true b e = (refl, e)
and_true false b e = cc

-- a decimal number is all of digits
pub decimal_digits : (ds : List ℕ) → is_decimal ds ≡ true → AllDigits 10 ds
decimal_digits ds e =
    let first = and_true _ _ e in
    let second = and_true _ _ first.0 in
    (numerals_by_value _ tells_all_ascii_digits).to ds second.1
