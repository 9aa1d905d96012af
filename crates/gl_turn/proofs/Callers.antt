-- For callers: what a turn that was taken meets of what `give` asks.
use Rattle.std.proofs.Common.{ℕ, List, sym, ap, subst, Option}
use Rattle.atomic_table.specs.Table.{Me}
use Rattle.gl_turn.specs.declared.view.View.{View}
use Rattle.gl_turn.specs.View.{HasState, StandsFor, Takes}

module _ {S E : Type 0} (stands : ℕ → S → List E → S → Type 0) where
  pub has_state : (m m' : Me (Option S) (View S E)) (x : S) → Takes stands m x m' → HasState m'
  has_state m m' x t = (t.0, ap (λ z. z.0.stage) t.2, ap (λ z. z.1) t.2)

  -- The state that was taken is that of the trail that is seen.
  pub stands_now : (m m' : Me (Option S) (View S E)) (x : S) → Takes stands m x m' → StandsFor stands m'.0 m'.0.seen x
  stands_now m m' x t = subst (λ (z : Me (Option S) (View S E)). StandsFor stands z.0 z.0.seen x) (sym t.2) t.4
