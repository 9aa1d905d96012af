-- Fields read from the start of bytes, from left to right, and the first fault that is met.
use Rattle.std.specs.Prelude.{◌≡◌, ◌≢◌, ℕ, ◌+◌, ◌/◌, ◌^◌, ◌<◌, ◌≤◌, Bool, not, List, length, take, drop, Option, None, Some, Result, Ok, Err, position, ◌==◌, nat_lt, if◌then◌else◌}
use Rattle.std.specs.Char.{is_ascii_graphic}
use Rattle.gl_base.specs.LittleEndian.{from_little_endian}
use Rattle.gl_base.specs.Steps.{◌>>=◌}
use Rattle.gl_base.specs.declared.fault.CutFault.{CutFault}
use Rattle.gl_base.specs.declared.fault.CutFault.TheVariants.{Short, TooLong, NotText}

-- The bytes that are still to be read, and the place of the first of them among all the bytes.
pub record Unread : Type 0 where
  pub at : ℕ
  pub bytes : List ℕ

-- The place after the last byte.
abbrev pub end_of : Unread → ℕ
end_of unread = unread.at + length unread.bytes

-- The next bytes, so many of them.
unfoldable pub bytes_at : ℕ → Unread → Result (List ℕ × Unread) CutFault
bytes_at count unread =
    if nat_lt (length unread.bytes) count then Err (Short (end_of unread))
    else Ok (
      take count unread.bytes,
      record { at = unread.at + count; bytes = drop count unread.bytes },
    )

-- A number of so many bytes.
unfoldable pub number_at : ℕ → Unread → Result (ℕ × Unread) CutFault
number_at size unread = do
  field ← bytes_at size unread
  Ok (from_little_endian field.0, field.1)

-- A length of so many bytes, and that many bytes. A length above the limit is told where it stands.
unfoldable pub string_at : ℕ → ℕ → Unread → Result (List ℕ × Unread) CutFault
string_at size limit unread = do
  len ← number_at size unread
  if nat_lt limit len.0 then Err (TooLong unread.at len.0) else bytes_at len.0 len.1

-- A field of bytes by the width of its length in bits; with the width 0 the limit is the count.
abbrev pub field_at : ℕ → ℕ → Unread → Result (List ℕ × Unread) CutFault
field_at width limit unread =
    if width == 0 then bytes_at limit unread else string_at (width / 8) limit unread

-- The bytes that such a field may hold.
pub record FitsField (width limit : ℕ) (xs : List ℕ) : Type 0 where
  pub counted : width ≡ 0 → length xs ≡ limit
  pub within : width ≢ 0 → (length xs ≤ limit) × (length xs < 256 ^ (width / 8))

-- A byte of a name is a visible ASCII character.
abbrev pub is_no_text : ℕ → Bool
is_no_text byte = not (is_ascii_graphic byte)

-- The bytes of a field, which begin at a place, are all text, or else the place of the first that
-- isn't is reported.
abbrev pub all_text : ℕ → (List ℕ × Unread) → Option ℕ → Result (List ℕ × Unread) CutFault
all_text start field None = Ok field
all_text start field (Some i) = Err (NotText (start + i))

-- A length of one byte, and a name of that many bytes.
unfoldable pub text_at : ℕ → Unread → Result (List ℕ × Unread) CutFault
text_at limit unread = do
  field ← string_at 1 limit unread
  all_text (unread.at + 1) field (position is_no_text field.0)

-- A name of visible characters that fits its length.
pub record FitsText (limit : ℕ) (xs : List ℕ) : Type 0 where
  pub within : length xs ≤ limit
  pub small : length xs < 256
  pub visible : position is_no_text xs ≡ None

-- What a read gave, seen by view, and what it left are what the reading gives; after a fault all is
-- as before.
abbrev pub Gives : {X Y F : Type 0} → (X → Y) → Result X F → Unread → Unread
    → Result (Y × Unread) F → Type 0
Gives view (Ok x) old new reading = reading ≡ Ok (view x, new)
Gives view (Err fault) old new reading = (reading ≡ Err fault) × (new ≡ old)
