-- Rows that are set, write sets that are made write by write, and the write set that turns some
-- rows into others: it puts the rows whose bytes are new or changed, and removes those that are
-- gone. Rows are writes that set them.
use Rattle.std.specs.Prelude.{◌≡◌, ◌≢◌, ℕ, List, [], ◌∷◌, ◌++◌, Option, None, Some, Bool, true, ◌&&◌, not, is_some, is_none, map, filter}
use Rattle.std.specs.List.{list_all, AllByRecursion}
use Rattle.gl_vmaps.specs.Tables.{Tables, no_tables, same_value, value_in, wrote_all}
use Rattle.gl_vmaps.specs.Writes.{is_ordered, with_write}
use Rattle.gl_vmaps.specs.declared.write.Write.{Write}

-- The write that sets a row of a table.
abbrev pub row : List ℕ → List ℕ → List ℕ → Write
row table key value = record { map = table; key = key; value = Some value }

-- The write set that holds these writes, in order.
abbrev pub set_from : List Write → List Write → List Write
set_from set [] = set
set_from set (w ∷ ws) = set_from (with_write set w) ws

abbrev pub write_set : List Write → List Write
write_set ws = set_from [] ws

-- The value of a row among these, if it is there.
abbrev pub row_in : List Write → List ℕ → List ℕ → Option (List ℕ)
row_in rows map key = value_in (wrote_all no_tables rows) map key

-- Rows in order, each with a value.
abbrev pub are_rows : List Write → Bool
are_rows rows = is_ordered rows && list_all (λ (w : Write). is_some w.value) rows

-- The row isn't there before, or has another value.
abbrev pub is_changed : List Write → Write → Bool
is_changed before w = not (same_value (row_in before w.map w.key) w.value)

-- The row isn't there after.
abbrev pub is_gone : List Write → Write → Bool
is_gone after w = is_none (row_in after w.map w.key)

abbrev pub removal_of : Write → Write
removal_of w = record { map = w.map; key = w.key; value = None }

abbrev pub changes_listed : List Write → List Write → List Write
changes_listed before after =
    filter (is_changed before) after ++ map removal_of (filter (is_gone after) before)

-- The write set that turns the rows before into those after.
abbrev pub changes : List Write → List Write → List Write
changes before after = write_set (changes_listed before after)

-- A write set that turns tables into others: it puts the rows whose bytes are new or changed, and
-- removes those that are gone.
pub record Turns (writes : List Write) (before after : Tables) : Type 0 where
  pub turns : (map : List ℕ) → wrote_all before writes map ≡ after map
  pub changes : AllByRecursion (λ (w : Write). value_in before w.map w.key ≢ w.value) writes
  pub ordered : is_ordered writes ≡ true
