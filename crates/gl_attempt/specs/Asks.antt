-- What a run asks of tables, in order, and how far it comes with what is noted of them.
use Rattle.std.specs.Prelude.{◌≡◌, ℕ, ◌^◌, List, [], ◌∷◌, ◌++◌, Option, None, Some, Result, Ok, Err, Bool, true, false, not, ◌&&◌, is_some, find, nat_lt, if◌then◌else◌}
use Rattle.gl_vmaps.specs.Name.{is_key}
use Rattle.gl_vmaps.specs.Tables.{same_bytes}
use Rattle.gl_vmaps.specs.Versions.{is_to_map}
use Rattle.gl_vmaps.specs.declared.write.Write.{Write}
use Rattle.gl_tx.specs.Sees.{Sees, write_to, seen_after}
use Rattle.gl_tx.specs.Run.{bar_on, perform_result, with_writes}
use Rattle.gl_tx.specs.declared.performed.Performed.{Performed}
use Rattle.gl_tx.specs.declared.abort.Cause.{Cause}
use Rattle.gl_tx.specs.declared.request.Operation.{Operation}
use Rattle.gl_tx.specs.declared.request.Operation.TheVariants.{Get, Has, Put, Remove, Add, Check, Follow, Size}
use Rattle.gl_attempt.specs.declared.notes.Ask.{Ask}
use Rattle.gl_attempt.specs.declared.notes.Ask.TheVariants as asks
use Rattle.gl_attempt.specs.declared.notes.Note.{Note}
use Rattle.gl_attempt.specs.declared.notes.Note.TheVariants as notes

-- A row is asked for, unless the request wrote it itself.
abbrev pub row_asks : List Write → List ℕ → List ℕ → List Ask
row_asks ws map key = if is_some (write_to map key ws) then [] else asks.Row map key ∷ []

-- The rows of a map that a write set writes.
abbrev pub rows_written : List ℕ → List Write → List Ask
rows_written map [] = []
rows_written map (w ∷ ws) =
    if is_to_map map w then asks.Row map w.key ∷ rows_written map ws else rows_written map ws

-- A value that is a key is asked for in the map in which it is followed.
abbrev pub key_asks : List Write → List ℕ → Option (List ℕ) → List Ask
key_asks ws target None = []
key_asks ws target (Some key) = if is_key key then row_asks ws target key else []

-- What an operation on maps that it may name asks for, in order. The number of a map's keys after a
-- write set follows from the number before and from which of the rows that the set writes were
-- there.
abbrev pub allowed_asks : Operation → Sees → List Write → List Ask
allowed_asks (Get map key) sees ws = row_asks ws map key
allowed_asks (Has map key) sees ws = row_asks ws map key
allowed_asks (Put map key value) sees ws = []
allowed_asks (Remove map key) sees ws = row_asks ws map key
allowed_asks (Add map key amount) sees ws = row_asks ws map key
allowed_asks (Check map key expected) sees ws = row_asks ws map key
allowed_asks (Follow map key target) sees ws =
    row_asks ws map key ++ key_asks ws target ((seen_after sees ws).value map key)
allowed_asks (Size map) sees ws = asks.Map map ∷ rows_written map ws

-- What an operation asks for: nothing, where no request may name one of its maps.
abbrev pub asks_unless_barred : Option Cause → List Ask → List Ask
asks_unless_barred None asked = asked
asks_unless_barred (Some cause) asked = []

abbrev pub asks_of : Operation → Sees → List Write → List Ask
asks_of operation sees ws = asks_unless_barred (bar_on operation) (allowed_asks operation sees ws)

-- After an operation that fails nothing is asked for.
abbrev pub asks_after : (Performed → List Ask) → Result Performed Cause → List Ask
asks_after rest (Err cause) = []
asks_after rest (Ok done) = rest done

-- What operations ask for, in order, each after what earlier ones wrote.
abbrev pub asks_from : List Operation → Sees → List Write → List Ask
asks_from [] sees ws = []
asks_from (operation ∷ operations) sees ws =
    asks_of operation sees ws
    ++ asks_after (λ done. asks_from operations sees (with_writes ws done.write))
    (perform_result operation (seen_after sees ws))

-- The note is of this row; and of the number of this map's keys.
abbrev pub is_of_row : List ℕ → List ℕ → Note → Bool
is_of_row map key (notes.Row of at value) = same_bytes map of && same_bytes key at
is_of_row map key (notes.Map of size) = false

abbrev pub is_of_map : List ℕ → Note → Bool
is_of_map map (notes.Row of at value) = false
is_of_map map (notes.Map of size) = same_bytes map of

-- The note of what is asked for, if there is one.
abbrev pub note_on : List Note → Ask → Option Note
note_on noted (asks.Row map key) = find (is_of_row map key) noted
note_on noted (asks.Map map) = find (is_of_map map) noted

abbrev pub is_noted : List Note → Ask → Bool
is_noted noted ask = is_some (note_on noted ask)

-- What is seen through notes. What isn't noted counts as absent. Nothing rests on that, as a run on
-- notes stops where it first asks for what isn't noted.
abbrev pub value_in_note : Option Note → Option (List ℕ)
value_in_note None = None
value_in_note (Some (notes.Row map key value)) = value
value_in_note (Some (notes.Map map size)) = None

abbrev pub size_in_note : Option Note → ℕ
size_in_note None = 0
size_in_note (Some (notes.Row map key value)) = 0
size_in_note (Some (notes.Map map size)) = size

abbrev pub sees_by : List Note → Sees
sees_by noted = record {
  value = λ map key. value_in_note (note_on noted (asks.Row map key));
  size = λ map. size_in_note (note_on noted (asks.Map map));
}

-- What the run on what is noted asks for next: the first that isn't noted, at which it stops. All
-- that it asked for before is noted.
abbrev pub first_unnoted : List Note → List Ask → Option Ask
first_unnoted noted asked = find (λ ask. not (is_noted noted ask)) asked

abbrev pub next_ask : List Operation → List Note → Option Ask
next_ask operations noted = first_unnoted noted (asks_from operations (sees_by noted) [])

-- What is noted where this is asked for.
abbrev pub note_of : Sees → Ask → Note
note_of sees (asks.Row map key) = notes.Row map key (sees.value map key)
note_of sees (asks.Map map) = notes.Map map (sees.size map)

-- What a note is of.
abbrev pub ask_of : Note → Ask
ask_of (notes.Row map key value) = asks.Row map key
ask_of (notes.Map map size) = asks.Map map

-- The number of keys that is noted is below 2^63.
abbrev pub is_note : Note → Bool
is_note (notes.Row map key value) = true
is_note (notes.Map map size) = nat_lt size (2 ^ 63)

-- Each note is of what the run on the notes before it asks for.
abbrev pub AreAskedAfter : List Operation → List Note → List Note → Type 0
AreAskedAfter operations before [] = Unit {0}
AreAskedAfter operations before (note ∷ noted) =
    (next_ask operations before ≡ Some (ask_of note))
    × AreAskedAfter operations (before ++ note ∷ []) noted

abbrev pub AreAsked : List Operation → List Note → Type 0
AreAsked operations noted = AreAskedAfter operations [] noted
