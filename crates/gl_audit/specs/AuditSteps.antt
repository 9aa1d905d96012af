-- What an auditor has taken of a ledger file, and how the entries of the file end for it.
use Rattle.std.specs.Prelude.{◌≡◌, ℕ, suc, List, [], ◌∷◌, ◌++◌, Option, None, Some, length}
use Rattle.gl_entry.specs.declared.entry.Entry.{Entry}
use Rattle.gl_entry.specs.declared.fault.EntryFault.{EntryFault}
use Rattle.gl_ledger.specs.Audit.{fault_from}
use Rattle.gl_ledger.specs.Broken.{broken}
use Rattle.gl_ledger.specs.NodeKeys.{service_layers}
use Rattle.gl_ledger.specs.declared.breach.Broken.{Broken}
use Rattle.gl_audit.specs.Kept.{IsStateOf}
use Rattle.gl_audit.specs.declared.ledger_state.LedgerState.{LedgerState}
use Rattle.gl_entry.specs.SourceBytes.{OfBytes}
use Rattle.gl_entry.specs.LedgerFile.{LedgerFile, ledger_file}
use Rattle.gl_audit.specs.declared.ledger_audit.Stop.{Stop}
use Rattle.gl_audit.specs.declared.ledger_audit.Stop.TheVariants as stops

-- An entry was added that breaks no rule, or this is the first rule that it breaks.
abbrev pub IsTaken : List Entry → Entry → Option ℕ → List Entry → Type 0
IsTaken before e None now = (broken service_layers before e ≡ None) × (now ≡ before ++ e ∷ [])
IsTaken before e (Some rule) now =
    (b : Broken) × (broken service_layers before e ≡ Some b) × (b.rule ≡ rule) × (now ≡ before)

-- After a ledger all entries of a file were added, none of which breaks a rule.
abbrev pub AreTaken : List Entry → List Entry → List Entry → Type 0
AreTaken before entries now =
    (fault_from service_layers before entries ≡ None) × (now ≡ before ++ entries)

-- How a file ends: with all of its entries added, where it ends or where bytes are no frame; or
-- with those before the first entry that breaks a rule.
abbrev pub Ends : List Entry → LedgerFile → Stop → List Entry → Type 0
Ends before file stops.End now = AreTaken before file.entries now × (file.fault ≡ None)
Ends before file stops.Unread now =
    AreTaken before file.entries now × (fault : EntryFault) × (file.fault ≡ Some fault)
Ends before file (stops.Broken rule) now =
    (b : Broken) × (b.rule ≡ rule)
    × (fault_from service_layers before file.entries
    ≡ Some (record { seqno = suc (length now); broken = b }))

-- An entry was added that breaks no rule, or this is the first rule that it breaks; and this is the
-- state of the ledger that is there now.
abbrev pub Takes : List Entry → Entry → Option ℕ → LedgerState → Type 0
Takes before e rule state = (now : List Entry) × IsTaken before e rule now × IsStateOf now state

-- The bytes that a source has to give are a file whose entries end so, and this is the state of the
-- ledger that was taken of it.
abbrev pub EndsAt : Option (List ℕ) → Stop → LedgerState → Type 0
EndsAt left stop state =
    (ledger : List Entry) × IsStateOf ledger state
    × OfBytes left (λ bytes. Ends [] (ledger_file bytes) stop ledger)
