-- Requests up to a base and above it, each accepted after those before it, and the rows that those
-- up to the base left, read as values.
use Rattle.std.specs.Prelude.{◌≡◌, ℕ, suc, ◌<◌, ◌^◌, List, [], ◌∷◌, ◌++◌, Option, None, Some, Ok, true, false, filter, fold}
use Rattle.std.specs.List.{AllByRecursion}
use Rattle.gl_vmaps.specs.Name.{is_governance}
use Rattle.gl_vmaps.specs.Rows.{row_writes}
use Rattle.gl_vmaps.specs.Changes.{changes}
use Rattle.gl_vmaps.specs.declared.row.Row.{Row}
use Rattle.gl_vmaps.specs.declared.write.Write.{Write}
use Rattle.gl_requests.specs.Ranges.{is_request}
use Rattle.gl_gov_rules.specs.declared.change.Recorded.{Recorded}
use Rattle.gl_gov_rules.specs.History.{History}
use Rattle.gl_gov_rules.specs.Changes.{with_request, history}
use Rattle.gl_gov_rules.specs.Refusals.{refusal}
use Rattle.gl_gov_rules.specs.Rising.{IsRising}
use Rattle.gl_gov_rules.specs.Rows.{rows}
use Rattle.gl_gov_rules.specs.Governed.{is_founding, IsAbove, IsGoverned}
use Rattle.gl_gov_rules.specs.declared.row.GovernedRows.{GovernedRows}
use Rattle.gl_gov_rules.specs.GovernedRows.{governed_rows, history_over}

-- The history of more requests after another history.
abbrev pub history_after : History → List Recorded → History
history_after h rs = fold with_request h rs

-- Each request stands above the base, has its fields in their ranges, and isn't refused after the
-- history with those before it.
abbrev pub AreAccepted : ℕ → History → List Recorded → Type 0
AreAccepted base h [] = Unit {0}
AreAccepted base h (r ∷ rs) =
    (base < r.seqno) × (is_request r.request ≡ true)
    × (refusal h r.seqno r.request ≡ None) × AreAccepted base (with_request h r) rs

-- The rows of the tables of governance.
abbrev pub governance_rows : List Row → List Row
governance_rows all = filter (λ (r : Row). is_governance r.map) all

-- All rows at a base: those of governance are what requests up to the base left.
pub record IsLeft (base : ℕ) (all : List Row) (rs : List Recorded) : Type 0 where
  pub fits : base < 2 ^ 64
  pub low : IsAbove (suc base) rs
  pub left : row_writes (governance_rows all) ≡ rows (history rs)

-- All rows at a base, and what those of governance read as. The first requests left them, the
-- others are above the base, and each was accepted after those before it.
pub record IsOver (base : ℕ) (all : List Row) (g : GovernedRows) (rs es : List Recorded)
    : Type 0 where
  pub above : 0 < base
  pub rows : IsLeft base all rs
  pub read : governed_rows base all ≡ Ok g
  pub high : AllByRecursion (λ (r : Recorded). base < r.seqno) es
  pub governed : IsGoverned (rs ++ es)

-- All rows at a base that accepted requests left, and what those of governance read as. The other
-- requests stand at rising seqnos, none founds a service, and each is accepted over the base after
-- those before it.
pub record IsAcceptedOver (base : ℕ) (all : List Row) (g : GovernedRows) (rs es : List Recorded)
    : Type 0 where
  pub above : 0 < base
  pub rows : IsLeft base all rs
  pub read : governed_rows base all ≡ Ok g
  pub governed : IsGoverned rs
  pub rising : IsRising es
  pub founding : AllByRecursion (λ (r : Recorded). is_founding r.request ≡ false) es
  pub accepted : AreAccepted base (history_over (Some g) []) es

-- The write set of a request after others over a base.
abbrev pub writes_over : Option GovernedRows → List Recorded → Recorded → List Write
writes_over base es r =
    changes (rows (history_over base es)) (rows (history_over base (es ++ r ∷ [])))
