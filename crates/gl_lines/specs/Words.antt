-- Words, and what single words encode.
use Rattle.std.specs.Prelude.{ℕ, List, [], ◌∷◌, ◌++◌, Result, Ok, Err, Bool, ◌==◌, ◌&&◌, ◌||◌, nat_le, length, codes, if◌then◌else◌}
use Rattle.std.specs.List.{list_all}
use Rattle.hex.specs.Hex.{decode_of, decode_sized}
use Rattle.gl_base.specs.Bytes.{same_bytes}
use Rattle.gl_lines.specs.declared.fault.LineFault.{LineFault}
use Rattle.gl_lines.specs.declared.fault.LineFault.TheVariants.{NoReading}

abbrev pub space : ℕ
space = 32

abbrev pub is_space : ℕ → Bool
is_space byte = byte == space

-- The words of a line that goes on a word which has these bytes so far.
abbrev pub words_from : List ℕ → List ℕ → List (List ℕ)
words_from word [] = word ∷ []
words_from word (byte ∷ bytes) =
    if is_space byte then word ∷ words_from [] bytes
    else words_from (word ++ byte ∷ []) bytes

-- The words of a line, which stand apart by one space each.
abbrev pub words_of : List ℕ → List (List ℕ)
words_of line = words_from [] line

abbrev pub is : List ℕ → List ℕ → Bool
is word name = same_bytes word name

abbrev pub is_lower_digit : ℕ → Bool
is_lower_digit byte = (nat_le 48 byte && nat_le byte 57) || (nat_le 97 byte && nat_le byte 102)

abbrev pub if_ok : {E : Type 0} → Result (List ℕ) E → Result (List ℕ) LineFault
if_ok (Ok bytes) = Ok bytes
if_ok (Err e) = Err NoReading

-- The bytes that lower-case hexadecimal digits encode, two digits a byte.
abbrev pub hex_bytes : List ℕ → Result (List ℕ) LineFault
hex_bytes text = if list_all is_lower_digit text then if_ok (decode_of text) else Err NoReading

-- The same for so many bytes.
abbrev pub hex_sized : List ℕ → ℕ → Result (List ℕ) LineFault
hex_sized text size =
    if list_all is_lower_digit text then if_ok (decode_sized text size) else Err NoReading

-- No bytes are encoded by a full stop.
abbrev pub value_bytes : List ℕ → Result (List ℕ) LineFault
value_bytes text =
    if is text (codes ".") then Ok []
    else (if length text == 0 then Err NoReading else hex_bytes text)
