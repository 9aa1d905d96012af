-- What each step on a word tells the pass that takes it.
use Rattle.std.specs.Prelude.{◌≡◌, ◌≢◌, ℕ, ◌≤◌, List, [], ◌∷◌, Option, Some}
use Rattle.atomic_table.specs.Table.{Me, Step}
use Rattle.gl_turn.specs.declared.view.View.{View}
use Rattle.gl_turn.specs.declared.view.Stage.TheVariants.{Idle, Waits}
use Rattle.gl_turn.specs.View.{IsPrefix, StandsFor, at_turn, in_stage, raised, times}

-- What a pass knows, and the slot with the state, where it holds it.
abbrev Knows : Type 0 → Type 0 → Type 0
Knows S E = Me (Option S) (View S E)

module _ {S E : Type 0} where
  -- A pass without a ticket that finds the number it expected has drawn it.
  abbrev pub drawn : Step (Option S) → Knows S E → ℕ → Knows S E → Type 0
  drawn at m found m' =
      (found ≡ at.first → m' ≡ (in_stage (Waits found) m.0, m.1)) × (found ≢ at.first → m' ≡ m)

  -- In its turn the pass sees the whole trail, and takes the state that it ends in.
  abbrev pub Gets : (ℕ → S → List E → S → Type 0) → ℕ → Knows S E → Knows S E → Type 0
  Gets stands n m m' =
      (trail : List E) × (x : S)
      × (m' ≡ (at_turn n trail m.0, (0, Some x) ∷ m.1))
      × IsPrefix m.0.seen trail
      × StandsFor stands m.0 trail x

  -- A pass that waits gets the state where it finds its own ticket.
  abbrev pub looked : (ℕ → S → List E → S → Type 0) → Step (Option S) → Knows S E → ℕ →
      Knows S E → Type 0
  looked stands at m found m' = (n : ℕ) → m.0.stage ≡ Waits n →
      (found ≡ n → Gets stands n m m') × (found ≢ n → m' ≡ m)

  -- What the turn made stands at the trail's end.
  abbrev pub counted : List E → Step (Option S) → Knows S E → ℕ → Knows S E → Type 0
  counted more at m found m' = m' ≡ (raised more m.0, m.1)

  -- The ticket, the turn and the state are gone.
  abbrev pub handed_on : Step (Option S) → Knows S E → ℕ → Knows S E → Type 0
  handed_on at m found m' = m' ≡ (in_stage Idle m.0, [])

  -- Of two passes that were joined, the one trail began the other, and no place is in both lists.
  abbrev pub learned : Step (Option S) → Knows S E → ℕ → Knows S E → Type 0
  learned at m found m' =
      (m' ≡ (record m.0 { less = [] }, m.1))
      × IsPrefix m.0.less m.0.seen
      × ((p : ℕ) → times p m.0.own ≤ 1)
