-- Bodies of snapshots behind which entries may stand, and where their views start.
use Rattle.std.specs.Prelude.{◌≡◌, ℕ, zero, suc, ◌<◌, List, [], ◌∷◌, Ok, true, ◌==◌, if◌then◌else◌}
use Rattle.gl_entry.specs.declared.entry.Entry.{Entry}
use Rattle.gl_gov_rules.specs.GovernedRows.{governed_rows}
use Rattle.gl_gov_rules.specs.declared.row.GovernedRows.{GovernedRows}
use Rattle.gl_snapshot_body.specs.Body.{no_body, is_body}
use Rattle.gl_snapshot_body.specs.declared.body.Body.{Body}
use Rattle.gl_snapshot_body.specs.declared.body.ViewStart.{ViewStart}

-- Where there is a base the rows of governance of its body spell.
abbrev pub IsSpelled : Body → Type 0
IsSpelled body = 0 < body.base → (g : GovernedRows) × (governed_rows body.base body.rows ≡ Ok g)

-- The body of a base above 0: its fields are in their ranges, and its rows of governance spell.
pub record IsBaseBody (body : Body) : Type 0 where
  pub fits : is_body body ≡ true
  pub rows : GovernedRows
  pub spelled : governed_rows body.base body.rows ≡ Ok rows

-- There is no base, and nothing is told of it, or its body is such.
abbrev pub IsReadAt : ℕ → Body → Type 0
IsReadAt zero body = body ≡ no_body
IsReadAt (suc before) body = IsBaseBody body

abbrev pub IsReadBody : Body → Type 0
IsReadBody body = IsReadAt body.base body

-- The start of an entry's view, where the entry before it is of another one.
abbrev pub start_if : ℕ → Entry → List ViewStart
start_if view e =
    if e.view == view then [] else record { view = e.view; seqno = e.seqno } ∷ []
