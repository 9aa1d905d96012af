-- What is kept of the entries of a ledger above a base: of those up to it the body of a snapshot
-- tells what is left of them.
use Rattle.std.specs.Prelude.{◌≡◌, ℕ, List, [], Option}
use Rattle.gl_entry.specs.declared.entry.Entry.{Entry}
use Rattle.gl_snapshot_body.specs.declared.body.Body.{Body}
use Rattle.gl_ledger.specs.ServiceRow.{identity_in}
use Rattle.gl_ledger.specs.Snapshot.{tables_over}
use Rattle.gl_audit.specs.Ends.{end_over}
use Rattle.gl_audit.specs.Kept.{IsStateOver, IsWhole, key_of}
use Rattle.gl_audit.specs.declared.ledger_end.LedgerEnd.{LedgerEnd}
use Rattle.gl_audit.specs.declared.ledger_state.LedgerState.{LedgerState}

-- How the ledger ends at the base and the service's key there, the entries above it, and the state
-- of them.
pub record Tail : Type 0 where
  pub base_end : LedgerEnd
  pub base_identity : Option (List ℕ)
  pub entries : List Entry
  pub state : LedgerState

-- The entries stand behind this body, and the state is theirs, whole.
pub record StandsBehind (body : Body) (t : Tail) : Type 0 where
  pub begins : t.base_end ≡ end_over body []
  pub keyed : t.base_identity ≡ key_of (identity_in (tables_over body []))
  pub stands : IsStateOver body t.entries t.state
  pub whole : IsWhole t.state

-- They stand behind a body.
abbrev pub IsTail : Tail → Type 0
IsTail t = (body : Body) × StandsBehind body t

-- What holds of each body behind which they stand.
abbrev pub ForBodies : Tail → (Body → Type 0) → Type 0
ForBodies t P = (body : Body) → StandsBehind body t → P body

-- The tail has these entries now, and stands behind each body behind which it stood.
pub record Becomes (old : Tail) (es : List Entry) (new : Tail) : Type 0 where
  pub entries : new.entries ≡ es
  pub stands : ForBodies old (λ body. StandsBehind body new)
