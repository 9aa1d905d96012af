-- A map's name, a key and a value as fields of bytes (CCF documentation, "Key-Value Store"): how
-- they are encoded, how they are read, and within which limits.
use Rattle.std.specs.Prelude.{ℕ, List, [], ◌∷◌, Bool, true, ◌&&◌, Option, None, Some, Result, Ok, Err, length, nat_le, ◌==◌, if◌then◌else◌}
use Rattle.std.specs.Char.{is_ascii_graphic}
use Rattle.std.specs.List.{list_all}
use Rattle.gl_base.specs.Steps.{◌>>=◌}
use Rattle.gl_base.specs.Bytes.{are_bytes}
use Rattle.gl_base.specs.Field.{with_u8_length, with_u16_length, with_u32_length}
use Rattle.gl_base.specs.Cut.{Unread, text_at, string_at, number_at}
use Rattle.gl_base.specs.Code.{field}
use Rattle.gl_base.specs.declared.fault.CodeFault.{CodeFault}
use Rattle.gl_base.specs.declared.fault.CodeFault.TheVariants as faults

-- Limits

-- The greatest length of a map's name and of a key. That of a value is for each caller to say.
abbrev pub map_name_limit : ℕ
map_name_limit = 128

abbrev pub key_limit : ℕ
key_limit = 1024

-- A map's name: visible ASCII characters, of which there is one at least.
abbrev pub is_map_name_field : List ℕ → Bool
is_map_name_field name =
    nat_le 1 (length name) && nat_le (length name) map_name_limit && list_all is_ascii_graphic name

-- A key: bytes, of which there is one at least.
abbrev pub is_key_field : List ℕ → Bool
is_key_field key = nat_le 1 (length key) && nat_le (length key) key_limit && are_bytes key

-- A value: bytes up to a limit.
abbrev pub is_value_field : ℕ → List ℕ → Bool
is_value_field limit value = nat_le (length value) limit && are_bytes value

abbrev pub is_optional_value_field : ℕ → Option (List ℕ) → Bool
is_optional_value_field limit None = true
is_optional_value_field limit (Some value) = is_value_field limit value

-- Encoding

abbrev pub map_name_bytes : List ℕ → List ℕ
map_name_bytes name = with_u8_length name

abbrev pub key_bytes : List ℕ → List ℕ
key_bytes key = with_u16_length key

abbrev pub value_bytes : List ℕ → List ℕ
value_bytes value = with_u32_length value

-- No value is a byte 0, and a value stands after a byte 1.
abbrev pub optional_value_bytes : Option (List ℕ) → List ℕ
optional_value_bytes None = 0 ∷ []
optional_value_bytes (Some value) = 1 ∷ value_bytes value

-- Reading

-- Bytes after a length that begins at a place, of which there is one at least.
abbrev pub some_bytes : ℕ → List ℕ × Unread → Result (List ℕ × Unread) CodeFault
some_bytes place read = if length read.0 == 0 then Err (faults.Value place) else Ok read

unfoldable pub map_name_at : Unread → Result (List ℕ × Unread) CodeFault
map_name_at unread = field (text_at map_name_limit unread) >>= some_bytes unread.at

unfoldable pub key_at : Unread → Result (List ℕ × Unread) CodeFault
key_at unread = field (string_at 2 key_limit unread) >>= some_bytes unread.at

unfoldable pub value_at : ℕ → Unread → Result (List ℕ × Unread) CodeFault
value_at limit unread = field (string_at 4 limit unread)

-- What stands after a byte that says whether there is a value; the byte's place is told where it is
-- neither 0 nor 1.
abbrev pub optional_after : ℕ → ℕ → ℕ × Unread → Result (Option (List ℕ) × Unread) CodeFault
optional_after limit place flag =
    if flag.0 == 0 then Ok (None, flag.1)
    else (if flag.0 == 1
    then (value_at limit flag.1 >>= λ value. Ok (Some value.0, value.1))
    else Err (faults.Value place))

unfoldable pub optional_value_at : ℕ → Unread → Result (Option (List ℕ) × Unread) CodeFault
optional_value_at limit unread = field (number_at 1 unread) >>= optional_after limit unread.at
