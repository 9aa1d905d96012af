-- The rule that every step keeps: one trail, the tickets that are out, and who made what.
use Rattle.std.specs.Prelude.{◌≡◌, ◌≢◌, ◌⊎◌, ℕ, ◌+◌, ◌%◌, ◌^◌, ◌<◌, ◌≤◌, Bool, true, false, List, [], ◌∷◌, length, Option, Some}
use mathlib.Core.Option.{none, some}
use mathlib.Core.Option as maybe
use lib.ListN.{get_elem?}
use Rattle.atomic_table.specs.Table.{State, Seen}
use Rattle.atomic_table.specs.declared.shared.Seat.{Seat}
use Rattle.gl_turn.specs.declared.view.Key.{Key}
use Rattle.gl_turn.specs.declared.view.View.{View}
use Rattle.gl_turn.specs.declared.view.Stage.{Stage}
use Rattle.gl_turn.specs.declared.view.Stage.TheVariants.{Idle, Waits, Turn, Spent}
use Rattle.gl_turn.specs.View.{IsPrefix, StandsFor, times}

-- What the stage of a pass says. A ticket that waits is out, and the pass that has the turn has
-- seen the whole trail.
abbrev pub StageFits : {E : Type 0} → List E → ℕ → ℕ → (ℕ → ℕ) → Bool → ℕ → List E → Stage → Type 0
StageFits trail ticket serving holder busy seat seen Idle = Unit {0}
StageFits trail ticket serving holder busy seat seen (Waits n) =
    (serving ≤ n) × (n < ticket) × (holder n ≡ seat)
StageFits trail ticket serving holder busy seat seen (Turn n) =
    (n ≡ serving) × (n < ticket) × (holder n ≡ seat) × (busy ≡ true) × (seen ≡ trail)
StageFits trail ticket serving holder busy seat seen Spent = Unit {0}

-- What one pass knows is right. Each ticket has one holder, and each place of the trail one owner.
pub record Fits {S E : Type 0} (first : ℕ) (start : S) (trail : List E) (ticket serving : ℕ)
    (holder owner : ℕ → ℕ) (busy : Bool) (seat : ℕ) (v : View S E) : Type 0 where
  pub begins : IsPrefix v.seen trail
  pub begun : IsPrefix v.less v.seen
  pub known : v.stage ≢ Spent → (v.start ≡ Some start) × (v.first ≡ first)
  pub once : (p : ℕ) → times p v.own ≤ 1
  pub owned : (p : ℕ) → 0 < times p v.own → (p < length trail) × (owner p ≡ seat)
  pub fits : StageFits trail ticket serving holder busy seat v.seen v.stage

module _ {S E : Type 0} where
  -- The pass at this seat has this ticket.
  abbrev pub IsOut : List (View S E) → ℕ → ℕ → Type 0
  IsOut views seat n =
      (v : View S E) × (get_elem? views seat ≡ some v) × ((v.stage ≡ Waits n) ⊎ (v.stage ≡ Turn n))

  -- It is its turn.
  abbrev pub HasTurn : List (View S E) → ℕ → ℕ → Type 0
  HasTurn views seat n = (v : View S E) × (get_elem? views seat ≡ some v) × (v.stage ≡ Turn n)

-- The slot, which is empty while a pass has the turn.
abbrev pub home_of : {S : Type 0} → Bool → S → maybe.Option (Option S)
home_of true x = none
home_of false x = some (Some x)

-- There is one legal trail, which ends in the state `now`. The tickets from the one that is served
-- on, up to the next to be drawn, are out, each with one pass.
pub record Lawful {S E : Type 0} (stands : List E → S → Type 0) (first : ℕ) (start : S)
    (s : State (Option S) (View S E)) : Type 0 where
  pub ticket : ℕ
  pub serving : ℕ
  pub trail : List E
  pub holder : ℕ → ℕ
  pub owner : ℕ → ℕ
  pub busy : Bool
  pub now : S
  pub words : s.words ≡ ticket ∷ serving ∷ (first + length trail) % 2 ^ 64 ∷ []
  pub homes : s.homes ≡ home_of busy now ∷ []
  pub behind : serving ≤ ticket
  pub low : ticket < 2 ^ 64
  pub legal : stands trail now
  pub out : (n : ℕ) → serving ≤ n → n < ticket → IsOut s.views (holder n) n
  pub turn : busy ≡ true → (serving < ticket) × HasTurn s.views (holder serving) serving
  pub each_seat : (j : ℕ) (v : View S E) → get_elem? s.views j ≡ some v →
      Fits first start trail ticket serving holder owner busy j v

module _ {S E : Type 0} (stands : ℕ → S → List E → S → Type 0) where
  -- The rule of a state that is shared, by what its trail begins with.
  abbrev pub keeps_trail : Key S → State (Option S) (View S E) → Type 0
  keeps_trail key = Lawful (stands key.first key.start.value) key.first key.start.value

  -- The last state that passes left: this ticket is served, and that one is the next to be drawn.
  abbrev pub AtEnd : Key S → Seat (Option S) (View S E) → ℕ → ℕ → Type 0
  AtEnd key pass serving ticket =
      (s : State (Option S) (View S E)) × (count : ℕ)
      × Seen (keeps_trail key) pass.id pass.me.0 s
      × (s.words ≡ ticket ∷ serving ∷ count ∷ [])

  -- The state is that of a trail that begins with all that the pass has seen.
  abbrev pub Ends : View S E → S → Type 0
  Ends v x = (trail : List E) × IsPrefix v.seen trail × StandsFor stands v trail x
