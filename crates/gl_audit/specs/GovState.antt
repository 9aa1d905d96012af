-- What the state of governance is, and what a step of it answers and tells.
use Rattle.std.specs.Prelude.{◌≡◌, ℕ, ◌-◌, ◌<◌, List, [], ◌∷◌, ◌++◌, Option, None, Some, IfSome, length, slice_get}
use Rattle.gl_base.specs.declared.or_no_memory.OrNoMemory.{OrNoMemory}
use Rattle.gl_base.specs.declared.or_no_memory.OrNoMemory.TheVariants.{NoMemory, Fault}
use Rattle.gl_gov_rules.specs.declared.change.Recorded.{Recorded}
use Rattle.gl_gov_rules.specs.declared.row.GovernedRows.{GovernedRows}
use Rattle.gl_gov_rules.specs.Governed.{IsAbove, up_to}
use Rattle.gl_gov_rules.specs.GovernedRows.{history_over}
use Rattle.gl_gov_base.specs.GovernedOver.{base_seqno, IsGovernedOver, IsReadInOrder}
use Rattle.gl_gov_rules.specs.declared.refusal.GovernanceRefusal.{GovernanceRefusal}
use Rattle.gl_gov_rules.specs.History.{History}
use Rattle.gl_gov_rules.specs.Service.{dealing, threshold_of, shares_given}
use Rattle.gl_audit.specs.declared.effect.ShareCount.{ShareCount}

-- The requests so far, each at the seqno of its entry; or those behind a base, of which these rows
-- are known in place of the requests up to it.
pub record Governed : Type 0 where
  pub base : Option GovernedRows
  pub requests : List Recorded

-- No request yet.
abbrev pub ungoverned : Governed
ungoverned = record { base = None; requests = [] }

-- Each request was accepted after those before it, and a base was read off rows in order.
pub record IsGoverned (g : Governed) : Type 0 where
  pub read : IsReadInOrder g.base
  pub accepted : IsGovernedOver g.base g.requests

-- What they come to.
abbrev pub history_of : Governed → History
history_of g = history_over g.base g.requests

-- The history is what they come to.
pub record IsPastOf (g : Governed) (past : History) : Type 0 where
  pub past_is : past ≡ history_of g
  pub governed : IsGoverned g

-- With one more request, and up to a seqno.
abbrev pub with_recorded : Governed → Recorded → Governed
with_recorded g r = record g { requests = g.requests ++ r ∷ [] }

abbrev pub with_all_recorded : Governed → List Recorded → Governed
with_all_recorded g rs = record g { requests = g.requests ++ rs }

abbrev pub governed_up_to : ℕ → Governed → Governed
governed_up_to to g = record g { requests = up_to to g.requests }

-- A seqno above the base and above those of all requests.
pub record IsLater (seqno : ℕ) (g : Governed) : Type 0 where
  pub above_base : IfSome g.base (λ (b : GovernedRows). b.seqno < seqno)
  pub above : IsAbove seqno g.requests

-- Memory ran out, which may come at any time, or the request is refused for what the rules say.
abbrev pub Refuses : Option GovernanceRefusal → OrNoMemory GovernanceRefusal → Type 0
Refuses expected NoMemory = Unit {0}
Refuses expected (Fault why) = expected ≡ Some why

-- The seqno of the last request, that of the base without one.
abbrev pub seqno_or : ℕ → Option Recorded → ℕ
seqno_or base None = base
seqno_or base (Some r) = r.seqno

abbrev pub last_seqno : Governed → ℕ
last_seqno g = seqno_or (base_seqno g.base) (slice_get g.requests (length g.requests - 1))

-- How many shares are given, and how many the dealing asks for.
unfoldable pub share_count : History → ShareCount
share_count h = record { have = length (shares_given h); need = threshold_of (dealing h) }
