-- Values of a JSON tree in the form that is wanted, and what is wrong with another.
use Rattle.std.specs.Prelude.{◌≡◌, ℕ, List, Bool, false, ◌&&◌, ◌||◌, ◌==◌, nat_le, length, Option, None, Some, is_some, option_and_then, Result, Ok, Err, if◌then◌else◌}
use Rattle.std.specs.List.{list_all}
use Rattle.std.specs.Option.{ok_or}
use Rattle.hex.specs.Hex.{decode_sized}
use Rattle.hex.specs.declared.error.FromHexError.{FromHexError}
use Rattle.serde_json.specs.Data.{Data, Members}
use Rattle.serde_json.specs.Events.{members_len}
use Rattle.serde_json.specs.Find.{get, as_str, as_object}
use Rattle.gl_base.specs.Steps.{◌>>=◌}
use Rattle.gl_base.specs.declared.json.FormsFault.{FormsFault}
use Rattle.gl_base.specs.declared.json.FormsFault.TheVariants as faults
use Rattle.gl_base.specs.declared.or_no_memory.OrNoMemory.{OrNoMemory}
use Rattle.gl_base.specs.declared.or_no_memory.OrNoMemory.TheVariants.{NoMemory, Fault}
use Rattle.gl_json.specs.declared.form_error.FormError.{FormError}
use Rattle.gl_json.specs.declared.form_error.FormError.TheVariants.{Shape, Hex}

-- What a function found, seen by view, is this reading.
abbrev pub Finds : {X Y : Type 0} → (X → Y) → Result X FormError → Result Y FormError → Type 0
Finds view (Ok x) reading = reading ≡ Ok (view x)
Finds view (Err form_error) reading = reading ≡ Err form_error

-- Values. One that is missing has another shape.

abbrev pub value_in : Option Data → Result Data FormError
value_in value = ok_or value Shape

abbrev pub text_in : Option Data → Result (List ℕ) FormError
text_in value = ok_or (option_and_then as_str value) Shape

-- Hexadecimal

-- A digit of lower-case hexadecimal: `0` to `9`, `a` to `f`.
abbrev pub is_lower_digit : ℕ → Bool
is_lower_digit c = (nat_le 48 c && nat_le c 57) || (nat_le 97 c && nat_le c 102)

abbrev pub lower_digits : List ℕ → Result (List ℕ) FormError
lower_digits text = if list_all is_lower_digit text then Ok text else Err Hex

abbrev pub decoded : Result (List ℕ) FromHexError → Result (List ℕ) FormError
decoded (Ok bytes) = Ok bytes
decoded (Err e) = Err Hex

-- So many bytes, as a text in lower-case hexadecimal, two digits each.
abbrev pub sized_in : ℕ → Option Data → Result (List ℕ) FormError
sized_in size value =
    text_in value >>= lower_digits >>= λ digits. decoded (decode_sized digits size)

-- Objects

-- It is an object with so many members.
abbrev pub has_count : ℕ → Option Members → Bool
has_count count None = false
has_count count (Some members) = members_len members == count

-- The value is an object with exactly the members of these names: with as many, and each of these.
-- An object of a tree that was read has each name once.
abbrev pub has_only : List (List ℕ) → Data → Bool
has_only names value =
    has_count (length names) (as_object value) && list_all (λ name. is_some (get name value)) names

abbrev pub only_members_in : List (List ℕ) → Data → Result (Unit {0}) FormError
only_members_in names value = if has_only names value then Ok tt else Err Shape

-- Places

-- Memory ran out, or this is the fault.
abbrev pub IsReportedAs : OrNoMemory FormsFault → FormsFault → Type 0
IsReportedAs NoMemory fault = Unit {0}
IsReportedAs (Fault report) fault = report ≡ fault

-- What is wrong with a value, told with its path.
abbrev pub fault_at : List ℕ → FormError → FormsFault
fault_at path Shape = faults.Shape path
fault_at path Hex = faults.Hex path

abbrev pub at : {X : Type 0} → List ℕ → Result X FormError → Result X FormsFault
at path (Ok x) = Ok x
at path (Err form_error) = Err (fault_at path form_error)
