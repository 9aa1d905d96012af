-- The history of governance: the requests so far, and the changes that they brought about. All that
-- is said of members, nodes, proposals and the service is read off these two lists, and off what is
-- carried in place of requests before them.
use Rattle.std.specs.Prelude.{ℕ, List, [], Option, None, Some, is_some}
use Rattle.gl_vmaps.specs.LastWrite.{last_such}
use Rattle.gl_gov_rules.specs.declared.change.Recorded.{Recorded}
use Rattle.gl_gov_rules.specs.declared.change.Change.{Change}
use Rattle.gl_gov_rules.specs.declared.change.Changed.{Changed}
pub use Rattle.gl_gov_rules.specs.declared.carried.Answered.{Answered}
pub use Rattle.gl_gov_rules.specs.declared.carried.SignedBy.{SignedBy}
pub use Rattle.gl_gov_rules.specs.declared.carried.Carried.{Carried}

-- Nothing is carried.
abbrev pub nothing : Carried
nothing =
    record { nodes = []; marks = []; proposals = []; ballots = []; signed = []; shares = [] }

-- The requests at the seqnos of their entries, and the changes at those of the entries that brought
-- them about, both in order, after what is carried. A change is never taken back by a later one.
pub record History : Type 0 where
  pub carried : Carried
  pub requests : List Recorded
  pub changes : List Changed

abbrev pub no_history : History
no_history = record { carried = nothing; requests = []; changes = [] }

-- The last thing that changes of one kind set, if there is one.
abbrev pub set_by : {A : Type 0} → (Change → Option A) → Option Changed → Option A
set_by sets None = None
set_by sets (Some c) = sets c.change

abbrev pub last_set : {A : Type 0} → (Change → Option A) → List Changed → Option A
last_set sets cs = set_by sets (last_such (λ (c : Changed). is_some (sets c.change)) cs)

-- The seqno of a change, or 0.
abbrev pub seqno_of : Option Changed → ℕ
seqno_of None = 0
seqno_of (Some c) = c.seqno
