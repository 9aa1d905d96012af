-- The lines of a text. Each ends with a newline; what stands after the last one is an open line.
use Rattle.std.specs.Prelude.{ℕ, ◌+◌, ◌-◌, List, [], ◌∷◌, ◌++◌, Option, None, Some, length, take, drop, position, count_by, slice_get, Bool, nat_lt, ◌==◌, if◌then◌else◌}

abbrev pub newline : ℕ
newline = 10

abbrev pub is_newline : ℕ → Bool
is_newline byte = byte == newline

-- The lines of a text, without their newlines, and the bytes of an open line after them.
pub record Split : Type 0 where
  pub lines : List (List ℕ)
  pub open_line : List ℕ

abbrev pub with_line : List ℕ → Split → Split
with_line line split = record split { lines = line ∷ split.lines }

-- The lines of a text that goes on a line which has these bytes so far.
abbrev pub lines_from : List ℕ → List ℕ → Split
lines_from line [] = record { lines = []; open_line = line }
lines_from line (byte ∷ bytes) =
    if is_newline byte then with_line line (lines_from [] bytes)
    else lines_from (line ++ byte ∷ []) bytes

-- The lines of a text, and its open line.
abbrev pub lines_of : List ℕ → Split
lines_of text = lines_from [] text

-- A line is open where it has a byte.
abbrev pub is_open : Split → Bool
is_open split = nat_lt 0 (length split.open_line)

-- A last line without its newline is one line more.
abbrev pub open_line_count : Option ℕ → ℕ
open_line_count None = 0
open_line_count (Some byte) = if is_newline byte then 0 else 1

-- How many lines there are, a last one without its newline too.
abbrev pub line_count : List ℕ → ℕ
line_count text = count_by is_newline text + open_line_count (slice_get text (length text - 1))

-- The prefix of a text, and what stands after it, if something does.
pub record Cut : Type 0 where
  pub prefix : List ℕ
  pub suffix : Option (List ℕ)

abbrev pub cut_at : List ℕ → Option ℕ → Cut
cut_at text None = record { prefix = text; suffix = None }
cut_at text (Some place) =
    record { prefix = take place text; suffix = Some (drop 1 (drop place text)) }

abbrev pub is_byte : ℕ → ℕ → Bool
is_byte byte other = other == byte

-- A text up to the first such byte, and what stands after that byte, if the text has one.
abbrev pub cut : ℕ → List ℕ → Cut
cut byte text = cut_at text (position (is_byte byte) text)
