-- What a snapshot says of the entries up to a place, which is its base, and the bytes that encode
-- it.
use Rattle.std.specs.Prelude.{ℕ, ◌+◌, ◌^◌, List, [], ◌∷◌, ◌++◌, Option, None, Some, Bool, true, ◌&&◌, ◌==◌, length, take, nat_le, nat_lt, count_ones}
use Rattle.std.specs.Cmp.Lexicographic.{slice_cmp}
use Rattle.std.specs.List.{flat_map, list_all}
use Rattle.std.specs.Ordering.{nat_cmp, ordering_then}
use Rattle.gl_base.specs.LittleEndian.{little_endian}
use Rattle.gl_base.specs.Bytes.{is_digest}
use Rattle.gl_base.specs.TxId.{last_seqno}
use Rattle.gl_base.specs.Row.{map_name_bytes, key_bytes, value_bytes}
use Rattle.gl_vmaps.specs.Name.{is_map_name, is_key, is_value}
use Rattle.gl_vmaps.specs.Rows.{are_ascending}
use Rattle.gl_vmaps.specs.Writes.{is_less}
use Rattle.gl_vmaps.specs.declared.row.Row.{Row}
use Rattle.gl_snapshot_body.specs.declared.body.ViewStart.{ViewStart}
use Rattle.gl_snapshot_body.specs.declared.body.Body.{Body}
use Rattle.gl_snapshot_body.specs.declared.body.BodyHead.{BodyHead}

-- A body of these rows, with the other fields of a head.
abbrev pub body_with : BodyHead → List Row → Body
body_with head rows = record {
  base = head.base;
  view = head.view;
  commit = head.commit;
  views = head.views.now;
  peaks = head.peaks.now;
  rows = rows;
}

-- What is said of no entries.
abbrev pub no_body : Body
no_body = record { base = 0; view = 0; commit = 0; views = []; peaks = []; rows = [] }

-- The most bytes of a body.
abbrev pub snapshot_limit : ℕ
snapshot_limit = 4000000000

-- Encoding

-- Where a view starts: the view, and the first seqno that is of it.
abbrev pub start_bytes : ViewStart → List ℕ
start_bytes v = little_endian 4 v.view ++ little_endian 8 v.seqno

-- A row: its map, its key and its value, each after its length.
abbrev pub row_bytes : Row → List ℕ
row_bytes r = map_name_bytes r.map ++ key_bytes r.key ++ value_bytes r.value

-- So many of one kind, one after the other, after their count in four bytes.
abbrev pub counted_bytes : {X : Type 0} → (X → List ℕ) → List X → List ℕ
counted_bytes bytes xs = little_endian 4 (length xs) ++ flat_map bytes xs

-- What stands before the rows: the base, the view of the entry there, the recorded commit, the
-- starts of the views, the peaks of the tree, and the count of the rows.
abbrev pub head_bytes : Body → List ℕ
head_bytes b =
    little_endian 8 b.base ++ little_endian 4 b.view ++ little_endian 8 b.commit
    ++ counted_bytes start_bytes b.views ++ counted_bytes (λ peak. peak) b.peaks
    ++ little_endian 4 (length b.rows)

abbrev pub body_bytes : Body → List ℕ
body_bytes b = head_bytes b ++ flat_map row_bytes b.rows

-- The place of the row with an index, counted from 0, in a body that begins at a place. With the
-- number of the rows as index it is the place at which the body ends.
abbrev pub row_place : ℕ → Body → ℕ → ℕ
row_place at b index = at + length (head_bytes b) + length (flat_map row_bytes (take index b.rows))

-- Which values are bodies

-- A base is the seqno of an entry: so no count of places overflows.
abbrev pub is_base : ℕ → Bool
is_base base = nat_le 1 base && nat_le base last_seqno

-- The first view starts at 1. Each later start is of a later view, further on. None is above the
-- base.
abbrev pub is_next_start : ℕ → Option ViewStart → ViewStart → Bool
is_next_start base None v = (v.seqno == 1) && nat_le v.seqno base
is_next_start base (Some last) v =
    nat_lt last.view v.view && nat_lt last.seqno v.seqno && nat_le v.seqno base

abbrev pub is_start : ViewStart → Bool
is_start v = nat_lt v.view (2 ^ 32) && nat_lt v.seqno (2 ^ 64)

abbrev pub is_start_after : ℕ → Option ViewStart → ViewStart → Bool
is_start_after base last v = is_start v && is_next_start base last v

-- Each may stand where it does after the one before it, if there is one.
abbrev pub follow : {X : Type 0} → (Option X → X → Bool) → Option X → List X → Bool
follow may_stand last [] = true
follow may_stand last (x ∷ xs) = may_stand last x && follow may_stand (Some x) xs

abbrev pub are_starts : ℕ → List ViewStart → Bool
are_starts base views = follow (is_start_after base) None views

-- A tree of so many leaves has as many peaks as their number has ones in binary.
abbrev pub are_peaks : ℕ → List (List ℕ) → Bool
are_peaks base peaks = (length peaks == count_ones base) && list_all is_digest peaks

abbrev pub is_row : Row → Bool
is_row r = is_map_name r.map && is_key r.key && is_value r.value

-- Rows ascend strictly by map, then by key, in byte order: a map and a key stand after an earlier
-- row, if there is one.
abbrev pub is_after : Option Row → List ℕ → List ℕ → Bool
is_after None map key = true
is_after (Some last) map key =
    is_less (ordering_then (slice_cmp nat_cmp last.map map) (slice_cmp nat_cmp last.key key))

abbrev pub are_rows : List Row → Bool
are_rows rows = list_all is_row rows && are_ascending rows

-- Four bytes hold each count.
abbrev pub is_counted : Body → Bool
is_counted b =
    nat_lt (length b.views) (2 ^ 32) && nat_lt (length b.peaks) (2 ^ 32)
    && nat_lt (length b.rows) (2 ^ 32)

-- The fields are in their ranges. Nothing is asked of the view and of the commit but that they fit
-- their bytes: only a ledger could tell more.
abbrev pub is_body : Body → Bool
is_body b =
    is_base b.base && nat_lt b.view (2 ^ 32) && nat_lt b.commit (2 ^ 64)
    && are_starts b.base b.views && are_peaks b.base b.peaks && are_rows b.rows && is_counted b
