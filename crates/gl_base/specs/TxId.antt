-- Transaction identifiers and their text (CCF documentation, "Transaction identifiers").
use Rattle.std.specs.Prelude.{◌≡◌, ℕ, ◌+◌, ◌-◌, ◌^◌, ◌<◌, ◌≤◌, Bool, not, ◌&&◌, List, ◌∷◌, ◌++◌, Option, Some, None, Result, Ok, Err, length, take, drop, position, ◌==◌, nat_lt, if◌then◌else◌, decimal, slice_index}
use Rattle.std.specs.Char.{is_ascii_digit}
use Rattle.std.specs.Str.Parse.{digits_value}
use Rattle.gl_base.specs.Steps.{◌>>=◌}
use Rattle.gl_base.specs.declared.tx_id.TxId.{TxId}
use Rattle.gl_base.specs.declared.tx_id.TxIdFault.{TxIdFault}
use Rattle.gl_base.specs.declared.tx_id.TxIdFault.TheVariants.{Empty, Digit, LeadingZero, TooBig, Zero, NoDot}

-- A service begins in view 2.
abbrev pub first_view : ℕ
first_view = 2

-- A view is a u32, and a place has 40 bits.
abbrev pub last_view : ℕ
last_view = 2 ^ 32 - 1

abbrev pub last_seqno : ℕ
last_seqno = 2 ^ 40 - 1

-- The greatest u64, at which a count stands still.
abbrev pub last_count : ℕ
last_count = 2 ^ 64 - 1

-- An identifier that some transaction may have: view and seqno begin at 1.
pub record IsTxId (id : TxId) : Type 0 where
  pub view : (0 < id.view) × (id.view ≤ last_view)
  pub seqno : (0 < id.seqno) × (id.seqno ≤ last_seqno)

abbrev pub dot : ℕ
dot = 46

-- The text: the view in decimal, a dot, the seqno in decimal.
abbrev pub text_of : TxId → List ℕ
text_of id = decimal id.view ++ dot ∷ decimal id.seqno

abbrev pub is_dot : ℕ → Bool
is_dot byte = byte == dot

abbrev pub is_no_digit : ℕ → Bool
is_no_digit byte = not (is_ascii_digit byte)

abbrev pub zero_digit : ℕ
zero_digit = 48

-- The number that digits encode, from 1 to a limit, or else what is wrong with it.
abbrev pub in_range : ℕ → ℕ → Result ℕ TxIdFault
in_range limit value =
    if nat_lt limit value then Err TooBig
    else (if value == 0 then Err Zero else Ok value)

-- A part all of digits, which begins at a place of the text: no zero stands before another digit.
unfoldable pub digits_read : ℕ → ℕ → List ℕ → Result ℕ TxIdFault
digits_read start limit part =
    if (slice_index part 0 == zero_digit) && nat_lt 1 (length part) then Err (LeadingZero start)
    else in_range limit (digits_value 10 part)

-- The first byte that is no digit is reported before anything else that is wrong with the part.
abbrev pub from_digits : ℕ → ℕ → List ℕ → Option ℕ → Result ℕ TxIdFault
from_digits start limit part (Some i) = Err (Digit (start + i))
from_digits start limit part None = digits_read start limit part

unfoldable pub part_read : ℕ → ℕ → List ℕ → Result ℕ TxIdFault
part_read start limit part =
    if length part == 0 then Err Empty
    else from_digits start limit part (position is_no_digit part)

-- The left part is the view, and is reported first; the right part is the seqno.
unfoldable pub sides_read : List ℕ → ℕ → Result TxId TxIdFault
sides_read text i = do
  view ← part_read 0 last_view (take i text)
  seqno ← part_read (i + 1) last_seqno (drop (i + 1) text)
  Ok (record { view = view; seqno = seqno })

abbrev pub from_dot : List ℕ → Option ℕ → Result TxId TxIdFault
from_dot text None = Err NoDot
from_dot text (Some i) = sides_read text i

-- The identifier that a text encodes, or the first thing that is wrong, from left to right.
unfoldable pub parsed : List ℕ → Result TxId TxIdFault
parsed text =
    if length text == 0 then Err Empty
    else from_dot text (position is_dot text)
