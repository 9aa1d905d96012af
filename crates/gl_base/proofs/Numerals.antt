-- Texts of decimal digits, and the number that they encode.
use Rattle.std.proofs.Common.{◌≡◌, ℕ, ◌+◌, ◌-◌, ◌*◌, ◌<◌, ◌≤◌, Bool, true, false, cond, List, length, take, get_or, min, Some, None, refl, arith}
use Rattle.std.specs.Char.{digit_value}
use Rattle.std.specs.Int.{IsInRange}
use Rattle.std.specs.List.{position, position_or_len}
use Rattle.std.specs.Str.Parse.{AllDigits, digits_value}
use Rattle.std.proofs.lemmas.Bool.Decides.{nat_tests}
use Rattle.std.proofs.lemmas.Int.Digits.{digits_value_more}
use Rattle.std.proofs.lemmas.List.Sums.{fails_before_first}
use Rattle.std.proofs.lemmas.Str.Parse.{IsNumeralModel, numerals_by_value, tells_by_index, digit_at}
use Rattle.gl_base.specs.TxId.{is_no_digit}

-- each byte is a digit
abbrev pub DigitsByIndex : List ℕ → Type 0
DigitsByIndex ds = (i : ℕ) → i < length ds → IsInRange 48 57 (get_or ds i 0)

pub by_index : IsNumeralModel DigitsByIndex (digits_value 10)
by_index = numerals_by_value DigitsByIndex tells_by_index

pub digit_value-digit : (c : ℕ) → IsInRange 48 57 c → digit_value c ≡ c - 48
digit_value-digit c h = grind (arith, nat_tests)

-- One digit more, where numbers stop at a greatest one.
pub capped_more : (top i value next : ℕ) (ds : List ℕ) → AllDigits 10 ds → i < length ds
    → value ≡ min top (digits_value 10 (take i ds))
    → next ≡ min (min (value * 10) top + (get_or ds i 0 - 48)) top
    → next ≡ min top (digits_value 10 (take (i + 1) ds))
capped_more top i value next ds all below e f =
    let digit = digit_at ds i all below in
    let more = digits_value_more 10 ds i below in
    let worth = digit_value-digit (get_or ds i 0) digit in
    omega (arith, more, worth, e, f)

no_some : (b : Bool) (n : ℕ) → cond b (Some n) None ≡ None → b ≡ false
no_some true n e = cc
no_some false n e = refl

pub digit-from_test : (c : ℕ) → is_no_digit c ≡ false → IsInRange 48 57 c
digit-from_test c e = (grind (arith, nat_tests), grind (arith, nat_tests))

-- Where no byte is found that is no digit, all are.
pub all_digits : (ds : List ℕ) → position is_no_digit ds ≡ None → AllDigits 10 ds
all_digits ds e =
    let none : length ds ≤ position_or_len is_no_digit ds = grind (arith, nat_tests, no_some _ _ e) in
    by_index.to ds (λ i below. digit-from_test (get_or ds i 0) (fails_before_first is_no_digit ds i 0 (omega arith)))
