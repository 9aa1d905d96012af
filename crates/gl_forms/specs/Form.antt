-- Values of a JSON tree in the forms of governance, and what stands at a place of one.
use Rattle.std.specs.Prelude.{ℕ, suc, ◌*◌, List, ◌∷◌, [], Bool, ◌&&◌, nat_le, length, Option, Some, option_and_then, Result, Ok, Err, if◌then◌else◌}
use Rattle.std.specs.Option.{ok_or}
use Rattle.hex.specs.Hex.{decode_of}
use Rattle.serde_json.specs.Data.{Data, Items, no_items, item}
use Rattle.serde_json.specs.Events.{items_len}
use Rattle.serde_json.specs.Find.{get, at as element, as_bool, as_number, as_u64, as_array, as_object}
use Rattle.gl_base.specs.Bytes.{mebibyte}
use Rattle.gl_base.specs.Json.{member_of, item_of}
use Rattle.gl_base.specs.Steps.{◌>>=◌}
use Rattle.gl_base.specs.declared.json.FormsFault.{FormsFault}
use Rattle.gl_json.specs.Form.{value_in, text_in, lower_digits, decoded, only_members_in, at}
use Rattle.gl_json.specs.declared.form_error.FormError.{FormError}
use Rattle.gl_json.specs.declared.form_error.FormError.TheVariants.{Shape}
pub use Rattle.gl_json.specs.Form.{sized_in}

-- Values. One that is missing has another shape.

abbrev pub flag_in : Option Data → Result Bool FormError
flag_in value = ok_or (option_and_then as_bool value) Shape

-- The number, where it is from low to high.
abbrev pub in_range : ℕ → ℕ → ℕ → Result ℕ FormError
in_range low high n = if nat_le low n && nat_le n high then Ok n else Err Shape

-- An integer from low to high. A number with a point or an exponent is no integer in the tree.
abbrev pub number_in : ℕ → ℕ → Option Data → Result ℕ FormError
number_in low high value =
    ok_or (option_and_then as_u64 (option_and_then as_number value)) Shape >>= in_range low high

-- There are from low to high elements.
abbrev pub has_so_many : ℕ → ℕ → Items → Bool
has_so_many low high items = nat_le low (items_len items) && nat_le (items_len items) high

abbrev pub so_many : ℕ → ℕ → Items → Result Items FormError
so_many low high items = if has_so_many low high items then Ok items else Err Shape

-- A list of low to high elements.
abbrev pub list_in : ℕ → ℕ → Option Data → Result Items FormError
list_in low high value = ok_or (option_and_then as_array value) Shape >>= so_many low high

-- A list of two elements, as it is.
abbrev pub pair_in : Option Data → Result Data FormError
pair_in value = list_in 2 2 value >>= λ items. value_in value

-- Some object, as it is.
abbrev pub some_object_in : Option Data → Result Data FormError
some_object_in value =
    ok_or (option_and_then as_object value) Shape >>= λ members. value_in value

-- Hexadecimal

-- A text that is too long for 1 MiB of bytes has another shape.
abbrev pub not_too_long : List ℕ → Result (List ℕ) FormError
not_too_long text = if nat_le (length text) (2 * mebibyte) then Ok text else Err Shape

-- A text in lower-case hexadecimal that is not too long.
abbrev pub long_digits_in : Option Data → Result (List ℕ) FormError
long_digits_in value = text_in value >>= not_too_long >>= lower_digits

-- An endorsement: at most 1 MiB of bytes, as a text in lower-case hexadecimal.
abbrev pub endorsement_in : Option Data → Result (List ℕ) FormError
endorsement_in value = long_digits_in value >>= λ digits. decoded (decode_of digits)

-- Places

-- The value at a place is an object with exactly these members.
abbrev pub object_at : List ℕ → List (List ℕ) → Data → Result (Unit {0}) FormsFault
object_at place names value = at place (only_members_in names value)

-- A member, in its form, of the object at a place.
abbrev pub member_at : {X : Type 0} → (Option Data → Result X FormError) → List ℕ → List ℕ → Data
    → Result X FormsFault
member_at form place name value = at (member_of place name) (form (get name value))

-- An element of the list at a place: a number of two bytes.
abbrev pub half_at : List ℕ → ℕ → Data → Result ℕ FormsFault
half_at place index pair = at (item_of place index) (number_in 0 65535 (element index pair))

-- The text of a member that decides which others there are. Where it is missing the object is
-- reported.
unfoldable pub word_at : List ℕ → List ℕ → Data → Result (List ℕ) FormsFault
word_at place name value = do
  word ← at place (value_in (get name value))
  at (member_of place name) (text_in (Some word))

-- The elements of the list at a place, from an index on, each in this form.
unfoldable pub elements_from : {X : Type 0} → (List ℕ → Data → Result X FormsFault) → List ℕ → ℕ
    → Items → Result (List X) FormsFault
elements_from form place index no_items = Ok []
elements_from form place index (item value values) = do
  first ← form (item_of place index) value
  rest ← elements_from form place (suc index) values
  Ok (first ∷ rest)

-- A member that is a list of low to high elements, each in this form.
unfoldable pub list_at : {X : Type 0} → (List ℕ → Data → Result X FormsFault) → ℕ → ℕ → List ℕ
    → List ℕ → Data → Result (List X) FormsFault
list_at form low high place name value =
    member_at (list_in low high) place name value >>= elements_from form (member_of place name) 0
