-- Decimal numbers without a sign and without a leading zero.
use Rattle.std.specs.Prelude.{ℕ, ◌^◌, List, Result, Ok, Err, Bool, ◌&&◌, ◌||◌, not, length, nat_lt, nat_le, slice_index, ◌==◌, if◌then◌else◌}
use Rattle.std.specs.List.{list_all}
use Rattle.std.specs.Char.{is_ascii_digit}
use Rattle.std.specs.Str.Parse.{digits_value}
use Rattle.gl_lines.specs.declared.fault.LineFault.{LineFault}
use Rattle.gl_lines.specs.declared.fault.LineFault.TheVariants.{NoReading}

-- Digits, of which the first is no zero that stands before another.
abbrev pub is_decimal : List ℕ → Bool
is_decimal text =
    nat_le 1 (length text) && list_all is_ascii_digit text
    && (not (slice_index text 0 == 48) || (length text == 1))

-- The number below a limit that a text encodes.
abbrev pub number_below : ℕ → List ℕ → Result ℕ LineFault
number_below limit text =
    if is_decimal text && nat_lt (digits_value 10 text) limit then Ok (digits_value 10 text)
    else Err NoReading

-- The number of a node, of a line or of something else that is counted.
abbrev pub counted_number : List ℕ → Result ℕ LineFault
counted_number text = number_below (2 ^ 128) text

-- An amount that is added.
abbrev pub amount_of : List ℕ → Result ℕ LineFault
amount_of text = number_below (2 ^ 64) text
