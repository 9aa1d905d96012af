-- A request that reads its rows one at a time and then runs at once, unless what it read has
-- changed.
use Rattle.std.specs.Prelude.{◌≡◌, ℕ, ◌-◌, ◌^◌, ◌<◌, ◌≤◌, length, List, [], ◌∷◌, ◌++◌, Option, None, Some, Result, Ok, Err, Bool, not, ◌||◌, ◌==◌, nat_lt, if◌then◌else◌}
use Rattle.std.specs.List.{AllByRecursion}
use Rattle.gl_vmaps.specs.Kept.{Kept, version_of, map_version_of}
use Rattle.gl_vmaps.specs.Versions.{Placed, written_by, version_in, map_version_in}
use Rattle.gl_tx.specs.Sees.{Sees, sees_in, sees_of}
use Rattle.gl_tx.specs.Run.{run_seeing}
use Rattle.gl_attempt.specs.Asks.{next_ask, note_of, ask_of, AreAsked}
use Rattle.gl_tx.specs.declared.runs.Ran.{Ran}
use Rattle.gl_tx.specs.declared.abort.Abort.{Abort}
use Rattle.gl_tx.specs.declared.request.Operation.{Operation}
use Rattle.gl_attempt.specs.declared.notes.Ask.{Ask}
use Rattle.gl_attempt.specs.declared.notes.Note.{Note}
use Rattle.gl_attempt.specs.declared.notes.Note.TheVariants as notes
use Rattle.gl_attempt.specs.declared.attempt.Fetched.{Fetched}
use Rattle.gl_attempt.specs.declared.attempt.Fetched.TheVariants.{More, Ready}
use Rattle.gl_attempt.specs.declared.conflict.Conflict.{Conflict}
use Rattle.gl_attempt.specs.declared.conflict.RolledBack.{RolledBack}
use Rattle.gl_attempt.specs.declared.conflict.TxFault.{TxFault}
use Rattle.gl_attempt.specs.declared.conflict.TxFault.TheVariants as faults

-- An attempt: the length of the ledger and the count of cuts when it began, its request, and what
-- is noted so far.
pub record State : Type 0 where
  pub began : ℕ
  pub cuts : ℕ
  pub request : List Operation
  pub noted : List Note

-- What always holds of it: each note is of what the run on the notes before it asks for.
pub record IsUnderWay (request : List Operation) (noted : List Note) : Type 0 where
  pub asked : AreAsked request noted
  pub few : length request ≤ 64

-- What the attempt asks for next, if anything.
abbrev pub next_of : State → Option Ask
next_of a = next_ask a.request a.noted

-- A fetch notes what is asked for next as the tables have it, and is ready where nothing is asked
-- for.
abbrev pub fetch_answer : Option Ask → Fetched
fetch_answer None = Ready
fetch_answer (Some ask) = More

abbrev pub notes_with : Sees → List Note → Option Ask → List Note
notes_with sees noted None = noted
notes_with sees noted (Some ask) = noted ++ note_of sees ask ∷ []

abbrev pub with_fetch : State → Sees → State
with_fetch a sees = record a { noted = notes_with sees a.noted (next_of a) }

-- What tables tell: what is seen of them, and which place last wrote a row, or any row of a map.
pub record Versioned : Type 0 where
  pub sees : Sees
  pub version : List ℕ → List ℕ → ℕ
  pub map_version : List ℕ → ℕ

-- The tables that writes at their places make.
abbrev pub versioned_by : List Placed → Versioned
versioned_by ps = record {
  sees = sees_in (written_by ps);
  version = version_in ps;
  map_version = map_version_in ps;
}

-- The tables that a program keeps.
abbrev pub versioned_of : Kept → Versioned
versioned_of t = record {
  sees = sees_of t;
  version = version_of t;
  map_version = map_version_of t;
}

-- The count of cuts has changed, or stands at its last value, from which it doesn't rise.
abbrev pub is_rolled_back : ℕ → ℕ → Bool
is_rolled_back seen now = not (seen == now) || now == 2 ^ 64 - 1

-- Which place last wrote what a note is of.
abbrev pub changed_at : Versioned → Note → ℕ
changed_at t (notes.Row map key value) = t.version map key
changed_at t (notes.Map map size) = t.map_version map

-- A note's key, or the name of its map where a map was read.
abbrev pub key_read : Note → List ℕ
key_read (notes.Row map key value) = key
key_read (notes.Map map size) = map

abbrev pub conflict_at : ℕ → Versioned → Note → Conflict
conflict_at began t note =
    record { key = key_read note; began = began; changed = changed_at t note }

-- The first note of what was written above a length, if there is one.
abbrev pub conflict_of : ℕ → Versioned → List Note → Option Conflict
conflict_of began t [] = None
conflict_of began t (note ∷ noted) =
    if nat_lt began (changed_at t note) then Some (conflict_at began t note)
    else conflict_of began t noted

-- An attempt finishes as its request runs on the present tables; where a cut came between, or else
-- what it read was written since, it doesn't.
abbrev pub run_answer : Result Ran Abort → Result Ran TxFault
run_answer (Ok ran) = Ok ran
run_answer (Err abort) = Err (faults.Aborted abort)

abbrev pub unless_conflict : Option Conflict → Result Ran TxFault → Result Ran TxFault
unless_conflict None ran = ran
unless_conflict (Some conflict) ran = Err (faults.Conflict conflict)

abbrev pub rolled_back_between : ℕ → ℕ → RolledBack
rolled_back_between seen now = record { seen = seen; now = now }

abbrev pub finish_result : State → Versioned → ℕ → Result Ran TxFault
finish_result a t cuts =
    if is_rolled_back a.cuts cuts
    then Err (faults.RolledBack (rolled_back_between a.cuts cuts))
    else
    unless_conflict (conflict_of a.began t a.noted) (run_answer (run_seeing a.request t.sees))

-- The note says what is seen where it was asked for.
abbrev pub IsSeen : Sees → Note → Type 0
IsSeen sees note = note ≡ note_of sees (ask_of note)

-- The note was made since the attempt began, and no cut came between: the writes of then are a
-- prefix of those of now, and all writes since are above the length at the begin.
pub record IsNotedSince (began : ℕ) (now : List Placed) (note : Note) : Type 0 where
  pub before : List Placed
  pub since : List Placed
  pub all : before ++ since ≡ now
  pub above : AllByRecursion (λ p. began < p.place) since
  pub found : IsSeen (sees_in (written_by before)) note
