-- What is kept of entries behind a base, so that what an entry does to them needs no scan of them.
use Rattle.std.specs.Prelude.{◌≡◌, ℕ, suc, ◌+◌, ◌-◌, ◌≤◌, List, [], ◌∷◌, ◌++◌, Option, None, Some, Bool, length, take, drop, filter, nat_le, nat_lt, ◌==◌, if◌then◌else◌}
use Rattle.gl_base.specs.TxId.{last_seqno}
use Rattle.gl_base.specs.declared.or_no_memory.OrNoMemory.{OrNoMemory}
use Rattle.gl_base.specs.declared.or_no_memory.OrNoMemory.TheVariants.{NoMemory, Fault}
use Rattle.gl_merkle.specs.Frontier as frontiers
use Rattle.gl_merkle.specs.Peaks.{peaks_over}
use Rattle.gl_vmaps.specs.Standing.{StandsFor, HasCompacted}
use Rattle.gl_entry.specs.Entry.{is_signature, recorded_commit}
use Rattle.gl_entry.specs.declared.entry.Entry.{Entry}
use Rattle.gl_ledger.specs.ServiceRow.{service_state, identity_in}
use Rattle.gl_ledger.specs.NodeKeys.{service_layers}
use Rattle.gl_ledger.specs.Snapshot.{governed_base, leaves_over, requests_over, starts_from, tables_over, writes_over}
use Rattle.gl_snapshot_body.specs.Body.{no_body}
use Rattle.gl_snapshot_body.specs.declared.body.Body.{Body}
use Rattle.gl_snapshot_body.specs.declared.body.ViewStart.{ViewStart}
use Rattle.gl_ledger.specs.Audit.{audited_over}
use Rattle.gl_ledger.specs.declared.breach.Broken.{Broken}
use Rattle.gl_ledger.specs.Behind.{IsReadBody}
use Rattle.gl_audit.specs.Ends.{end_over}
use Rattle.gl_audit.specs.declared.ledger_state.LedgerState.{LedgerState}

abbrev pub seqno_if : Bool → ℕ → List ℕ → List ℕ
seqno_if signs seqno rest = if signs then seqno ∷ rest else rest

abbrev pub signed_from : ℕ → List Entry → List ℕ
signed_from seqno [] = []
signed_from seqno (e ∷ es) = seqno_if (is_signature e.content) seqno (signed_from (suc seqno) es)

-- The seqnos of a ledger's signatures, in order.
abbrev pub signature_seqnos : List Entry → List ℕ
signature_seqnos ledger = signed_from 1 ledger

-- The starts of views at or below a seqno.
abbrev pub starts_up_to : ℕ → List ViewStart → List ViewStart
starts_up_to to views = filter (λ (v : ViewStart). nat_le v.seqno to) views

-- The view behind a base of which the view is known, where this start of a view is the last.
abbrev pub view_behind : ℕ → ℕ → Option ViewStart → ℕ
view_behind base view None = view
view_behind base view (Some v) = if nat_lt base v.seqno then v.view else view

-- The commit that an entry records, 0 where there is none.
abbrev pub commit_at : Option Entry → ℕ
commit_at None = 0
commit_at (Some e) = recorded_commit e.content

-- The commit that an entry records, if there is one, else this one.
abbrev pub commit_or : ℕ → Option Entry → ℕ
commit_or commit None = commit
commit_or commit (Some e) = recorded_commit e.content

-- These bytes where they are as many as an HSS public key of a service has.
abbrev pub key_of : List ℕ → Option (List ℕ)
key_of bytes = if length bytes == 60 then Some bytes else None

-- The seqnos of the signatures of entries behind a base, in order: the entry at a base above 0 is
-- one.
abbrev pub seqnos_over : Body → List Entry → List ℕ
seqnos_over body es =
    seqno_if (nat_lt 0 body.base) body.base (signed_from (suc body.base) es)

-- The frontier is the tree of all leaves: those up to the body's base are known by its peaks, those
-- behind it are these, of which the frontier may keep the last ones alone.
pub record IsTreeOver (body : Body) (leaves : List (List ℕ)) (f : frontiers.Content)
    : Type 0 where
  pub from_base : body.base ≤ f.base
  pub within : f.base ≤ body.base + length leaves
  pub peaks : f.peaks ≡ peaks_over body.base body.peaks (take (f.base - body.base) leaves)
  pub leaves_are : f.leaves ≡ drop (f.base - body.base) leaves

-- The frontier is the tree of these leaves; those below its base are known by its peaks alone.
pub record IsTreeOf (leaves : List (List ℕ)) (f : frontiers.Content) : Type 0 where
  pub below : List (List ℕ)
  pub is_base : frontiers.IsBase f below
  pub leaves_are : below ++ f.leaves ≡ leaves

-- The entries behind a body that may be read break no rule of the audit, and the state is what a
-- scan of them would find.
pub record IsStateOver (body : Body) (es : List Entry) (s : LedgerState) : Type 0 where
  pub read : IsReadBody body
  pub valid : audited_over service_layers body es ≡ None
  pub named : body.base + length es ≤ last_seqno
  pub base_is : s.base ≡ body.base
  pub base_view_is : s.base_view ≡ body.view
  pub base_commit_is : s.base_commit ≡ body.commit
  pub ends : s.end ≡ end_over body es
  pub signed : s.signatures.items ≡ seqnos_over body es
  pub governed : s.gov
      ≡ record { base = governed_base body; requests = requests_over body es }
  pub state_is : s.service_state ≡ service_state (tables_over body es)
  pub identity_is : s.identity ≡ key_of (identity_in (tables_over body es))
  pub tables_are : StandsFor s.tables (writes_over body es)
  pub tables_from : s.tables.base ≡ body.base
  pub compacted : s.tables.compacted ≤ body.base + length es
  pub tree : IsTreeOver body (leaves_over body es) s.frontier
  pub views : s.views.items ≡ body.views ++ starts_from body.view es

-- It is the state of a whole ledger.
abbrev pub IsStateOf : List Entry → LedgerState → Type 0
IsStateOf ledger s = IsStateOver no_body ledger s

-- It is a state of entries behind a body.
abbrev pub IsState : LedgerState → Type 0
IsState s = (body : Body) × (es : List Entry) × IsStateOver body es s

-- What holds of all entries, and the body before them, of which it is the state.
abbrev pub ForStates : LedgerState → (Body → List Entry → Type 0) → Type 0
ForStates s P = (body : Body) (es : List Entry) → IsStateOver body es s → P body es

-- What holds of each whole ledger of which it is the state.
abbrev pub ForLedgers : LedgerState → (List Entry → Type 0) → Type 0
ForLedgers s P = (ledger : List Entry) → IsStateOf ledger s → P ledger

-- Nothing above the base was let go of: each version of each row is there, and each leaf of the
-- tree.
pub record IsWhole (s : LedgerState) : Type 0 where
  pub tables : s.tables.compacted ≡ s.base
  pub leaves : s.frontier.base ≡ s.base

-- Of the tables up to a place each row has its last version alone, and of the tree no leaf is kept:
-- it is known by its peaks.
pub record IsSettled (len : ℕ) (old new : LedgerState) : Type 0 where
  pub tables : HasCompacted old.tables len new.tables
  pub leaves : new.frontier.leaves ≡ []

-- It is the state of the ledger, settled at its end.
abbrev pub IsSettledStateOf : List Entry → LedgerState → Type 0
IsSettledStateOf ledger s =
    (full : LedgerState) × IsStateOf ledger full × IsSettled (length ledger) full s

-- An entry is refused for the first rule that it breaks.
abbrev pub Breaks : Option Broken → OrNoMemory Broken → Type 0
Breaks expected NoMemory = Unit {0}
Breaks expected (Fault broken) = expected ≡ Some broken
