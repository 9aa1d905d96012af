-- Requests that follow one another behind a base: of those up to it only the rows that they left
-- are known, as values. Without a base they are those from the first on.
use Rattle.std.specs.Prelude.{◌≡◌, ℕ, ◌<◌, List, Option, None, Some, Bool, true, ◌&&◌, is_none, take, slice_get, Ok, IfSome}
use Rattle.std.specs.List.{list_all}
use Rattle.gl_vmaps.specs.Tables.{Tables, no_tables, wrote_all}
use Rattle.gl_vmaps.specs.Rows.{row_writes, are_ascending}
use Rattle.gl_vmaps.specs.Writes.{is_write}
use Rattle.gl_vmaps.specs.declared.row.Row.{Row}
use Rattle.gl_requests.specs.Ranges.{is_request}
use Rattle.gl_gov_rules.specs.declared.change.Recorded.{Recorded}
use Rattle.gl_gov_rules.specs.declared.row.GovernedRows.{GovernedRows}
use Rattle.gl_gov_rules.specs.Governed.{is_founding, is_nothing, IsAbove}
use Rattle.gl_gov_rules.specs.GovernedRows.{governed_rows, history_over}
use Rattle.gl_gov_rules.specs.Refusals.{refusal}
use Rattle.gl_gov_rules.specs.Rows.{rows}

-- The seqno of a base, 0 where there is none.
abbrev pub base_seqno : Option GovernedRows → ℕ
base_seqno None = 0
base_seqno (Some g) = g.seqno

-- There is no base and no request: the service isn't founded yet.
abbrev pub is_unfounded : Option GovernedRows → List Recorded → Bool
is_unfounded base rs = is_none base && is_nothing rs

-- A request that follows others behind a base: its seqno is above the base and above theirs, its
-- fields are in their ranges, it founds the service where there is no base and it is the first, and
-- not otherwise, and no rule refuses it.
pub record FollowsOver (base : Option GovernedRows) (rs : List Recorded) (r : Recorded)
    : Type 0 where
  pub above_base : IfSome base (λ (g : GovernedRows). g.seqno < r.seqno)
  pub above : IsAbove r.seqno rs
  pub fits : is_request r.request ≡ true
  pub founding : is_founding r.request ≡ is_unfounded base rs
  pub accepted : refusal (history_over base rs) r.seqno r.request ≡ None

-- Each request follows those before it.
abbrev pub IsGovernedOver : Option GovernedRows → List Recorded → Type 0
IsGovernedOver base rs =
    (i : ℕ) (r : Recorded) → slice_get rs i ≡ Some r → FollowsOver base (take i rs) r

-- Rows within the limits of tables, and what those of governance read as.
pub record IsReadFrom (all : List Row) (g : GovernedRows) : Type 0 where
  pub fits : list_all is_write (row_writes all) ≡ true
  pub read : governed_rows g.seqno all ≡ Ok g

-- The base was read off rows of tables, if there is one.
abbrev pub IsReadBase : Option GovernedRows → Type 0
IsReadBase base = IfSome base (λ (g : GovernedRows). (all : List Row) × IsReadFrom all g)

-- And these rows stand strictly ascending.
abbrev pub IsReadInOrder : Option GovernedRows → Type 0
IsReadInOrder base =
    IfSome base (λ (g : GovernedRows).
    (all : List Row) × IsReadFrom all g × (are_ascending all ≡ true))

-- The tables of the rows that requests behind a base come to.
abbrev pub effect_over : Option GovernedRows → List Recorded → Tables
effect_over base rs = wrote_all no_tables (rows (history_over base rs))
