-- Bytes in lower-case hexadecimal have digits of it alone.
use Rattle.std.proofs.Common.{◌≡◌, ℕ, suc, ◌/◌, ◌%◌, ◌<◌, true, List, [], ◌∷◌, get_or, refl, arith}
use Rattle.std.specs.List.{list_all, AllPass}
use Rattle.std.proofs.lemmas.List.Elements.{All-cons}
use Rattle.std.proofs.lemmas.List.Sums.{AllPass-from_list_all, list_all-from_AllPass}
use Rattle.hex.specs.Hex.{encode_with, lower_digits, encode_lower, IsBytes}
use Rattle.gl_json.specs.Form.{is_lower_digit}

-- each of the sixteen digits is one
digit_is_lower : (n : ℕ) → n < 16 → is_lower_digit (get_or lower_digits n 0) ≡ true
digit_is_lower n h = AllPass-from_list_all is_lower_digit lower_digits refl n 0 h

abbrev is_lower : ℕ → Type 0
is_lower c = is_lower_digit c ≡ true

all_pass : (xs : List ℕ) → IsBytes xs → AllPass is_lower_digit (encode_lower xs)
unfolding encode_with
all_pass [] h = λ i d lt. absurd (omega arith)
all_pass (x ∷ xs) h =
    let small : x < 256 = h 0 in
    let high = digit_is_lower (x / 16) (omega arith) in
    let low = digit_is_lower (x % 16) (omega arith) in
    let rest = all_pass xs (λ i. h (suc i)) in
    let first : ℕ = get_or lower_digits (x / 16) 0 in
    let second : ℕ = get_or lower_digits (x % 16) 0 in
    All-cons is_lower first (second ∷ encode_lower xs) high (All-cons is_lower second (encode_lower xs) low rest)

pub all_lower : (xs : List ℕ) → IsBytes xs → list_all is_lower_digit (encode_lower xs) ≡ true
all_lower xs h = list_all-from_AllPass is_lower_digit (encode_lower xs) (all_pass xs h)
