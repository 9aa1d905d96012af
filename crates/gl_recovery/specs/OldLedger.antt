-- The old ledger of a service that is to be recovered, and what of it is kept.
use Rattle.std.specs.Prelude.{◌≡◌, ℕ, suc, ◌+◌, ◌^◌, List, [], ◌∷◌, Bool, true, false, Option, None, Some, Result, Ok, Err, length, take, nat_le, nat_lt, ◌==◌, if◌then◌else◌}
use Rattle.gl_base.specs.TxId.{last_seqno}
use Rattle.gl_base.specs.declared.or_no_memory.OrNoMemory.{OrNoMemory}
use Rattle.gl_base.specs.declared.or_no_memory.OrNoMemory.TheVariants.{NoMemory, Fault}
use Rattle.gl_entry.specs.declared.entry.Entry.{Entry}
use Rattle.gl_entry.specs.declared.fault.EntryFault.{EntryFault}
use Rattle.gl_ledger.specs.Audit.{LedgerFault, audited}
use Rattle.gl_ledger.specs.Past.{last_signed}
use Rattle.gl_ledger.specs.Broken.{broken}
use Rattle.gl_ledger.specs.NodeKeys.{service_layers}
use Rattle.gl_ledger.specs.Recovery.{recovery_view}
use Rattle.gl_ledger.specs.declared.breach.Broken.{Broken}
use Rattle.gl_entry.specs.LedgerFile.{LedgerFile}
use Rattle.gl_recovery.specs.declared.fault.RecoveryFault.{RecoveryFault}
use Rattle.gl_recovery.specs.declared.fault.RecoveryFault.TheVariants as faults

-- The first entry that breaks a rule of the audit.
abbrev pub unless_broken : {X : Type 0} → Option LedgerFault → Result X RecoveryFault →
    Result X RecoveryFault
unless_broken None rest = rest
unless_broken (Some fault) rest = Err (faults.Audit fault.seqno fault.broken.rule)

-- Bytes that are no frame break rule 1, at the seqno of the entry that would be theirs.
abbrev pub unless_unread : {X : Type 0} → ℕ → Option EntryFault → Result X RecoveryFault →
    Result X RecoveryFault
unless_unread seqno None rest = rest
unless_unread seqno (Some fault) rest = Err (faults.Audit seqno 1)

-- A file without an entry founds no service: it breaks rule 3.
abbrev pub unless_empty : {X : Type 0} → List Entry → Result X RecoveryFault →
    Result X RecoveryFault
unless_empty [] rest = Err (faults.Audit 1 3)
unless_empty (e ∷ es) rest = rest

-- The entries of a ledger file that is a valid ledger, of whatever service; or where it first
-- breaks a rule, and which, as the audit of the file tells it.
unfoldable pub valid_ledger : LedgerFile → Result (List Entry) RecoveryFault
valid_ledger file =
    unless_broken (audited service_layers file.entries) (
    unless_unread (suc (length file.entries)) file.fault (
    unless_empty file.entries (Ok file.entries)))

-- An entry is refused for the first rule that it breaks after a ledger, at its seqno; or memory ran
-- out.
abbrev pub IsRefused : List Entry → Entry → OrNoMemory RecoveryFault → Type 0
IsRefused ledger e NoMemory = Unit {0}
IsRefused ledger e (Fault fault) =
    (b : Broken) × (broken service_layers ledger e ≡ Some b)
    × (fault ≡ faults.Audit (suc (length ledger)) b.rule)

-- Whether the file is read to its end before this is reported: not where an entry breaks a rule,
-- where the reading stops, nor where the source failed.
abbrev pub is_read_whole : RecoveryFault → Bool
is_read_whole (faults.Audit seqno rule) = false
is_read_whole faults.SourceFailed = false
is_read_whole other = true

-- A ledger up to its last signature, this included: what stands after it is signed by nobody.
abbrev pub signed_prefix : List Entry → List Entry
signed_prefix ledger = take (last_signed ledger) ledger

abbrev pub with_signature : List Entry → Result (List Entry) RecoveryFault
with_signature ledger =
    if last_signed ledger == 0 then Err faults.NothingSigned else Ok (signed_prefix ledger)

-- After a ledger a view is left, that of a recovery, and two seqnos: that of the recovery, and that
-- of the signature that opens the service.
abbrev pub has_room : List Entry → Result (Unit {0}) RecoveryFault
has_room ledger =
    if nat_le (2 ^ 32) (recovery_view ledger) then Err faults.ViewLimit
    else (if nat_lt last_seqno (length ledger + 2) then Err faults.SeqnoLimit else Ok tt)
