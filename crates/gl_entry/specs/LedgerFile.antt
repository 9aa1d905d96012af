-- A ledger as a file of bytes: the frames of its entries, one after the other.
use Rattle.std.specs.Prelude.{ℕ, zero, suc, List, [], ◌∷◌, ◌++◌, Option, None, Some, Result, Ok, Err, length}
use Rattle.gl_entry.specs.Stream.{next_entry}
use Rattle.gl_entry.specs.declared.entry.Entry.{Entry}
use Rattle.gl_entry.specs.declared.fault.EntryFault.{EntryFault}

-- The entries of a file, up to its end or to the first bytes that are no frame.
pub record LedgerFile : Type 0 where
  pub entries : List Entry
  pub fault : Option EntryFault

abbrev pub with_entry : Entry → LedgerFile → LedgerFile
with_entry e file = record file { entries = e ∷ file.entries }

abbrev pub file_after : Result (Option (Entry × List ℕ)) EntryFault → (List ℕ → LedgerFile)
    → LedgerFile
file_after (Err fault) rest = record { entries = []; fault = Some fault }
file_after (Ok None) rest = record { entries = []; fault = None }
file_after (Ok (Some read)) rest = with_entry read.0 (rest read.1)

-- The same of so many frames at most.
abbrev pub file_within : ℕ → List ℕ → LedgerFile
file_within zero bytes = record { entries = []; fault = None }
file_within (suc count) bytes = file_after (next_entry bytes) (file_within count)

-- The file that bytes are. Each frame has bytes, so there are no more frames than these.
unfoldable pub ledger_file : List ℕ → LedgerFile
ledger_file bytes = file_within (suc (length bytes)) bytes

-- A file with these entries before its own.
abbrev pub with_entries : List Entry → LedgerFile → LedgerFile
with_entries taken file = record file { entries = taken ++ file.entries }

-- A file without entries, up to its end or to bytes that are no frame.
abbrev pub no_entries : Option EntryFault → LedgerFile
no_entries fault = record { entries = []; fault = fault }
