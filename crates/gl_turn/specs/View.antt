-- What a pass knows, and what each call makes of it.
use Rattle.std.specs.Prelude.{◌≡◌, ◌≢◌, ℕ, zero, suc, ◌+◌, List, [], ◌∷◌, ◌++◌, length, nat_lt, ◌==◌, if◌then◌else◌, Option, Some, None}
use Rattle.atomic_table.specs.Table.{Me}
use Rattle.atomic_table.specs.declared.shared.Seat.{Seat}
use Rattle.gl_turn.specs.declared.view.View.{View}
use Rattle.gl_turn.specs.declared.view.Stage.{Stage}
use Rattle.gl_turn.specs.declared.view.Stage.TheVariants.{Idle, Turn, Spent}

-- The one trail begins the other.
abbrev pub IsPrefix : {A : Type 0} → List A → List A → Type 0
IsPrefix {A} xs ys = (rest : List A) × (xs ++ rest ≡ ys)

-- The longer of two trails.
abbrev pub longer : {A : Type 0} → List A → List A → List A
longer xs ys = if nat_lt (length xs) (length ys) then ys else xs

-- The other one.
abbrev pub shorter : {A : Type 0} → List A → List A → List A
shorter xs ys = if nat_lt (length xs) (length ys) then xs else ys

-- How often a place is among these.
abbrev pub times : ℕ → List ℕ → ℕ
times place [] = 0
times place (p ∷ ps) = (if p == place then 1 else 0) + times place ps

-- So many places, from one on.
abbrev pub places : ℕ → ℕ → List ℕ
places from zero = []
places from (suc n) = from ∷ places (suc from) n

module _ {S E : Type 0} where
  -- What the first pass knows.
  abbrev pub newcomer : S → ℕ → View S E
  newcomer state number = record {
    start = Some state;
    first = number;
    seen = [];
    less = [];
    own = [];
    stage = Idle;
  }

  -- What a new pass knows of what another has seen.
  abbrev pub heir : View S E → View S E
  heir v = record v { less = []; own = []; stage = Idle }

  -- What is left of a pass when another took over what it knew.
  abbrev pub passed_on : View S E
  passed_on = record { start = None; first = 0; seen = []; less = []; own = []; stage = Spent }

  -- What two passes know together, before it is known that the one trail begins the other.
  abbrev pub merged : View S E → View S E → View S E
  merged v w = record v {
    seen = longer v.seen w.seen;
    less = shorter v.seen w.seen;
    own = v.own ++ w.own;
  }

  -- What two passes know together.
  abbrev pub joined : View S E → View S E → View S E
  joined v w = record v {
    seen = longer v.seen w.seen;
    less = [];
    own = v.own ++ w.own;
    stage = Idle;
  }

  -- The same, at another stage.
  abbrev pub in_stage : Stage → View S E → View S E
  in_stage stage v = record v { stage = stage }

  -- Its turn has come, and it sees the trail.
  abbrev pub at_turn : ℕ → List E → View S E → View S E
  at_turn n trail v = record v { seen = trail; less = []; stage = Turn n }

  -- It made these, at the trail's end.
  abbrev pub raised : List E → View S E → View S E
  raised more v = record v {
    seen = v.seen ++ more;
    less = [];
    own = v.own ++ places (length v.seen) (length more);
  }

  -- No other pass took over what it knew.
  abbrev pub IsKnown : Me (Option S) (View S E) → Type 0
  IsKnown m = m.0.stage ≢ Spent

  -- It has no ticket, and holds nothing.
  abbrev pub IsIdle : Me (Option S) (View S E) → Type 0
  IsIdle m = (m.0.stage ≡ Idle) × (m.1 ≡ [])

  -- It is its turn, and the state was taken out.
  abbrev pub HasState : Me (Option S) (View S E) → Type 0
  HasState m = (n : ℕ) × (m.0.stage ≡ Turn n) × (m.1 ≡ (0, None) ∷ [])

  -- It is still the same pass.
  abbrev pub IsSamePass : Seat (Option S) (View S E) → Seat (Option S) (View S E) → Type 0
  IsSamePass p q = (q.table_id ≡ p.table_id) × (q.id ≡ p.id)

  module _ (stands : ℕ → S → List E → S → Type 0) where
    -- From what the pass knows as the beginning, this trail ends in that state.
    abbrev pub StandsFor : View S E → List E → S → Type 0
    StandsFor v trail x = (start : S) × (v.start ≡ Some start) × stands v.first start trail x

    -- The pass gets its turn: it sees the trail, which begins with all that it had seen, and takes
    -- the state that the trail ends in.
    abbrev pub Takes : Me (Option S) (View S E) → S → Me (Option S) (View S E) → Type 0
    Takes m x m' =
        (n : ℕ) × (trail : List E)
        × (m' ≡ (at_turn n trail m.0, (0, None) ∷ []))
        × IsPrefix m.0.seen trail
        × StandsFor m.0 trail x
