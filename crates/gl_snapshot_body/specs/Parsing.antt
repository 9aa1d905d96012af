-- The body of a snapshot read from bytes, and the place of the first fault from the left.
use Rattle.std.specs.Prelude.{ℕ, zero, suc, List, [], ◌∷◌, Option, None, Some, Result, Ok, Err, Bool, ◌==◌, count_ones, if◌then◌else◌}
use Rattle.gl_base.specs.Steps.{◌>>=◌}
use Rattle.gl_base.specs.Cut.{Unread, number_at, bytes_at}
use Rattle.gl_base.specs.Code.{field, whole_at}
use Rattle.gl_base.specs.Row.{map_name_at, key_at, value_at}
use Rattle.gl_base.specs.declared.fault.CodeFault.{CodeFault}
use Rattle.gl_base.specs.declared.fault.CodeFault.TheVariants as codes
use Rattle.gl_base.specs.declared.fault.CutFault.{CutFault}
use Rattle.gl_base.specs.declared.fault.CutFault.TheVariants.{Short, TooLong, NotText}
use Rattle.gl_vmaps.specs.Name.{value_limit}
use Rattle.gl_vmaps.specs.declared.row.Row.{Row}
use Rattle.gl_snapshot_body.specs.Body.{is_base, is_next_start, is_after}
use Rattle.gl_snapshot_body.specs.declared.body.ViewStart.{ViewStart}
use Rattle.gl_snapshot_body.specs.declared.body.Body.{Body}
use Rattle.gl_snapshot_body.specs.declared.fault.ShapeFault.{ShapeFault}

-- What was read, where a condition on it holds, or else the place at which it begins.
abbrev pub required : {X : Type 0} → Bool → ℕ → X → Result X CodeFault
required holds place x = if holds then Ok x else Err (codes.Value place)

-- So many of one kind, one after the other. Each is read after the one before it, if there is one.
unfoldable pub repeated_at : {X : Type 0} → (Option X → Unread → Result (X × Unread) CodeFault)
    → Option X → ℕ → Unread → Result (List X × Unread) CodeFault
repeated_at one last zero unread = Ok ([], unread)
repeated_at one last (suc count) unread = do
  first ← one last unread
  rest ← repeated_at one (Some first.0) count first.1
  Ok (first.0 ∷ rest.0, rest.1)

unfoldable pub base_at : Unread → Result (ℕ × Unread) CodeFault
base_at unread = field (number_at 8 unread) >>= λ base. required (is_base base.0) unread.at base

-- A start that was read, where it may stand after an earlier one, or else its place.
abbrev pub next_start : ℕ → Option ViewStart → ℕ → ViewStart → Unread
    → Result (ViewStart × Unread) CodeFault
next_start base last place v rest = required (is_next_start base last v) place (v, rest)

-- The start of a view, after an earlier one.
unfoldable pub start_at : ℕ → Option ViewStart → Unread → Result (ViewStart × Unread) CodeFault
start_at base last unread = do
  view ← field (number_at 4 unread)
  seqno ← field (number_at 8 view.1)
  next_start base last unread.at (record { view = view.0; seqno = seqno.0 }) seqno.1

-- The starts of the views after their count.
unfoldable pub starts_at : ℕ → Unread → Result (List ViewStart × Unread) CodeFault
starts_at base unread =
    field (number_at 4 unread) >>= λ count. repeated_at (start_at base) None count.0 count.1

-- A peak stands alone, whatever is before it.
unfoldable pub peak_at : Option (List ℕ) → Unread → Result (List ℕ × Unread) CodeFault
peak_at last unread = field (bytes_at 32 unread)

-- The peaks after their count, which is the number of ones of the base in binary.
unfoldable pub peaks_at : ℕ → Unread → Result (List (List ℕ) × Unread) CodeFault
peaks_at base unread = do
  count ← field (number_at 4 unread)
  ones ← required (count.0 == count_ones base) unread.at count
  repeated_at peak_at None ones.0 ones.1

-- A row, after an earlier one. Its order is told, at its place, before its value is read.
unfoldable pub row_at : Option Row → Unread → Result (Row × Unread) CodeFault
row_at last unread = do
  map ← map_name_at unread
  key ← key_at map.1
  row ← required (is_after last map.0 key.0) unread.at key
  value ← value_at value_limit row.1
  Ok (record { map = map.0; key = key.0; value = value.0 }, value.1)

-- The rows after their count.
unfoldable pub rows_at : Unread → Result (List Row × Unread) CodeFault
rows_at unread = field (number_at 4 unread) >>= λ count. repeated_at row_at None count.0 count.1

unfoldable pub body_at : Unread → Result (Body × Unread) CodeFault
body_at unread = do
  base ← base_at unread
  view ← field (number_at 4 base.1)
  commit ← field (number_at 8 view.1)
  views ← starts_at base.0 commit.1
  peaks ← peaks_at base.0 views.1
  rows ← rows_at peaks.1
  Ok (
    record {
      base = base.0;
      view = view.0;
      commit = commit.0;
      views = views.0;
      peaks = peaks.0;
      rows = rows.0;
    },
    rows.1,
  )

-- A body that is all of the bytes, of which the first stands at a place.
abbrev pub body_in : ℕ → List ℕ → Result Body CodeFault
body_in at bytes = whole_at body_at at bytes

-- The place of a fault: of a field cut short it is the end of the bytes, of a length above its
-- limit and of a number out of its range that of the field, of a byte that is no text its own, and
-- of bytes that are left over that of the first.
abbrev pub cut_place : CutFault → ℕ
cut_place (Short at) = at
cut_place (TooLong at len) = at
cut_place (NotText at) = at

abbrev pub place_of : CodeFault → ℕ
place_of (codes.Cut fault) = cut_place fault
place_of (codes.Trailing at) = at
place_of (codes.Value at) = at

-- What a reading gives, with its fault told by its place.
abbrev pub by_place : {X : Type 0} → Result X CodeFault → Result X ShapeFault
by_place (Ok x) = Ok x
by_place (Err fault) = Err (record { at = place_of fault })

-- The body in these bytes, of which the first stands at a place, or the place of the first fault.
abbrev pub shape_of : ℕ → List ℕ → Result Body ShapeFault
shape_of at bytes = by_place (body_in at bytes)
