-- A turn, after a write through `state`.
use Rattle.std.specs.Prelude.{[]}
use Rattle.std.specs.Borrow.{Lends, Fml, RattleType, MutBor}
use mir.Syntax.{named}
use Rattle.gl_turn.specs.declared.shared.Stands as stands
use Rattle.gl_turn.specs.declared.turn.Turn.{Turn}
use Rattle.gl_turn.specs.contracts.turn.Turn as turn

module _ (S E : RattleType) (g : stands.Ghosts S.Denot E.Denot) where
  -- The turn, with this state.
  abbrev pub with_state : Turn S.Denot E.Denot → S.Denot → Turn S.Denot E.Denot
  with_state t w = record t { state = w }

  -- Once the borrow has ended, the turn has the state that was left behind it.
  abbrev pub LendsState : MutBor (Turn S.Denot E.Denot) → MutBor S.Denot → Fml
  LendsState t r =
      Lends (turn.the_row (record { mir = named 1; lft = [] }) S E g) S t r (with_state t.now)
