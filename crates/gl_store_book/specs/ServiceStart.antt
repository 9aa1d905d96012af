-- With what a service begins, read from the bytes of its opening ledger.
use Rattle.std.specs.Prelude.{◌≡◌, ℕ, ◌+◌, ◌≤◌, List, [], ◌∷◌, ◌++◌, Option, None, Some, Result, Ok, Err, true, length, drop}
use Rattle.gl_base.specs.declared.or_no_memory.OrNoMemory.{OrNoMemory}
use Rattle.gl_base.specs.declared.or_no_memory.OrNoMemory.TheVariants.{NoMemory, Fault}
use Rattle.gl_rules.specs.Identity.{NodeId}
use Rattle.gl_rules.specs.World.{Start}
use Rattle.gl_entry.specs.Entry.{frame_bytes, is_entry}
use Rattle.gl_entry.specs.declared.entry.Entry.{Entry}
use Rattle.gl_entry.specs.declared.fault.EntryFault.{EntryFault}
use Rattle.gl_ledger.specs.Audit.{LedgerFault, audited, opened}
use Rattle.gl_ledger.specs.NodeKeys.{service_layers}
use Rattle.gl_ledger.specs.Recordings.{trusted_nodes}
use Rattle.gl_entry.specs.LedgerFile.{LedgerFile, ledger_file, with_entries}
use Rattle.gl_store.specs.declared.not_opening.NotOpening.{NotOpening}

-- A service begins with an opening ledger: its trusted nodes start with it, and one of its nodes
-- signed it.
abbrev pub service_start : List Entry → NodeId → Start Entry
service_start ledger first =
    record { opening = ledger; starting = trusted_nodes ledger; first = first }

abbrev pub start_by : List Entry → Result NodeId ℕ → Result (Start Entry) ℕ
start_by ledger (Ok first) = Ok (service_start ledger first)
start_by ledger (Err seqno) = Err seqno

-- The seqno of the first entry that breaks a rule, or else that of the entry that would be next.
abbrev pub fault_or_next : List Entry → Option LedgerFault → ℕ
fault_or_next ledger None = length ledger + 1
fault_or_next ledger (Some fault) = fault.seqno

abbrev pub start_unless : Option EntryFault → List Entry → Result (Start Entry) ℕ
start_unless None ledger = start_by ledger (opened service_layers ledger)
start_unless (Some fault) ledger = Err (fault_or_next ledger (audited service_layers ledger))

-- With what a service begins whose opening ledger is a file; or the seqno by which it is none: of
-- the first entry that breaks a rule, where bytes that are no frame break one, or else of the last
-- entry.
abbrev pub start_of_file : LedgerFile → Result (Start Entry) ℕ
start_of_file file = start_unless file.fault file.entries

-- The same of bytes.
unfoldable pub start_in : List ℕ → Result (Start Entry) ℕ
start_in bytes = start_of_file (ledger_file bytes)

-- The same of bytes after entries that were read from others before them.
unfoldable pub start_after : List Entry → List ℕ → Result (Start Entry) ℕ
start_after taken bytes = start_of_file (with_entries taken (ledger_file bytes))

-- The bytes are no opening ledger, by this seqno; memory may run out at any time.
abbrev pub IsNoStart : Result (Start Entry) ℕ → OrNoMemory NotOpening → Type 0
IsNoStart start NoMemory = Unit {0}
IsNoStart start (Fault fault) = start ≡ Err fault.seqno

-- The first so many bytes are the frame of an entry, which was added to a ledger.
pub record TakesFrame (old : List Entry) (bytes : List ℕ) (len : ℕ) (new : List Entry) :
    Type 0 where
  pub entry : Entry
  pub fits : is_entry entry ≡ true
  pub grown : new ≡ old ++ entry ∷ []
  pub within : len ≤ length bytes
  pub frame : bytes ≡ frame_bytes entry ++ drop len bytes
