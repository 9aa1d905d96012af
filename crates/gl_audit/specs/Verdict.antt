-- What an audit tells of a ledger file under a service's key: whether it is a valid ledger of that
-- service, and if not, the first entry that breaks a rule, and the first rule that it breaks.
use Rattle.std.specs.Prelude.{◌≡◌, ◌≢◌, ◌⊎◌, ℕ, suc, List, [], Option, None, Some, Bool, true, length, option_map, if◌then◌else◌}
use Rattle.gl_base.specs.Bytes.{same_bytes}
use Rattle.gl_base.specs.declared.tx_id.TxId.{TxId}
use Rattle.gl_rules.specs.Log.{entry_at}
use Rattle.gl_entry.specs.Leaf.{id_of}
use Rattle.gl_entry.specs.declared.entry.Entry.{Entry}
use Rattle.gl_entry.specs.declared.fault.EntryFault.{EntryFault}
use Rattle.gl_ledger.specs.Audit.{LedgerFault, audited}
use Rattle.gl_ledger.specs.NodeKeys.{service_layers}
use Rattle.gl_ledger.specs.Recordings.{last_entry}
use Rattle.gl_ledger.specs.ServiceRow.{identity_in}
use Rattle.gl_ledger.specs.Tree.{tables_of}
use Rattle.gl_ledger.specs.Past.{last_signed}
use Rattle.gl_entry.specs.LedgerFile.{LedgerFile, ledger_file}
use Rattle.gl_audit.specs.declared.verdict.Verdict.{Verdict}
use Rattle.gl_audit.specs.declared.verdict.Verdict.TheVariants as verdicts

-- The key that a ledger has in force: that of its last founding.
abbrev pub key_in_force : List Entry → List ℕ
key_in_force ledger = identity_in (tables_of ledger)

-- The transaction of a ledger's last signature, if there is one.
abbrev pub last_signature : List Entry → Option TxId
last_signature ledger = option_map id_of (entry_at ledger (last_signed ledger))

-- Of a ledger in which no entry breaks a rule, by its last entry. One without an entry founds no
-- service: it breaks rule 3.
abbrev pub judged : List ℕ → List Entry → Option Entry → Verdict
judged identity ledger None = verdicts.Fault 1 3
judged identity ledger (Some last) =
    if same_bytes (key_in_force ledger) identity
    then verdicts.Valid (id_of last) (last_signature ledger)
    else verdicts.Foreign (key_in_force ledger)

-- Bytes that are no frame break rule 1, at the seqno of the entry that would be theirs.
abbrev pub unless_unread : ℕ → Option EntryFault → Verdict → Verdict
unless_unread seqno None verdict = verdict
unless_unread seqno (Some fault) verdict = verdicts.Fault seqno 1

-- The first entry that breaks a rule comes before such bytes.
abbrev pub unless_broken : Option LedgerFault → Verdict → Verdict
unless_broken None verdict = verdict
unless_broken (Some fault) verdict = verdicts.Fault fault.seqno fault.broken.rule

abbrev pub verdict_of : List ℕ → LedgerFile → Verdict
verdict_of identity file =
    unless_broken (audited service_layers file.entries) (
    unless_unread (suc (length file.entries)) file.fault
    (judged identity file.entries (last_entry file.entries)))

-- What an audit under a key tells of a file's bytes.
unfoldable pub verdict : List ℕ → List ℕ → Verdict
verdict identity bytes = verdict_of identity (ledger_file bytes)

-- The source gave its end where the verdict is on all of its bytes.
abbrev pub EndsWith : Verdict → Bool → Type 0
EndsWith (verdicts.Valid last signed) ended = ended ≡ true
EndsWith (verdicts.Foreign identity) ended = ended ≡ true
EndsWith (verdicts.Fault seqno rule) ended = Unit {0}

-- What the verdicts mean.

-- The file is a valid ledger: none of its entries breaks a rule, all of its bytes are its entries',
-- and it isn't empty.
pub record IsValidLedger (bytes : List ℕ) : Type 0 where
  pub unbroken : audited service_layers (ledger_file bytes).entries ≡ None
  pub whole : (ledger_file bytes).fault ≡ None
  pub some : bytes ≢ []

-- It is one of the service with this key. Its last entry has this transaction, and its last
-- signature that one.
pub record IsLedgerOf (identity bytes : List ℕ) (last : TxId) (signed : Option TxId) : Type 0 where
  pub valid : IsValidLedger bytes
  pub service : key_in_force (ledger_file bytes).entries ≡ identity
  pub ends : option_map id_of (last_entry (ledger_file bytes).entries) ≡ Some last
  pub signs : last_signature (ledger_file bytes).entries ≡ signed

-- It is one of the service with another key.
pub record IsForeignTo (identity bytes key : List ℕ) : Type 0 where
  pub valid : IsValidLedger bytes
  pub service : key_in_force (ledger_file bytes).entries ≡ key
  pub other : key ≢ identity

-- The entry with this seqno is the first that breaks a rule, and this is the first that it breaks.
abbrev pub IsBroken : List ℕ → ℕ → ℕ → Type 0
IsBroken bytes seqno rule =
    (fault : LedgerFault) × (audited service_layers (ledger_file bytes).entries ≡ Some fault)
    × (fault.seqno ≡ seqno) × (fault.broken.rule ≡ rule)

-- No entry breaks a rule, but after the last one stand bytes that are no frame. They break rule 1,
-- at the next seqno.
abbrev pub IsUnread : List ℕ → ℕ → ℕ → Type 0
IsUnread bytes seqno rule =
    (audited service_layers (ledger_file bytes).entries ≡ None)
    × ((fault : EntryFault) × ((ledger_file bytes).fault ≡ Some fault))
    × (seqno ≡ suc (length (ledger_file bytes).entries)) × (rule ≡ 1)

-- The file is empty, so it founds no service. This breaks rule 3.
abbrev pub IsEmpty : List ℕ → ℕ → ℕ → Type 0
IsEmpty bytes seqno rule = (bytes ≡ []) × (seqno ≡ 1) × (rule ≡ 3)

-- The file is no valid ledger, and this is where and by which rule.
abbrev pub IsFaulty : List ℕ → ℕ → ℕ → Type 0
IsFaulty bytes seqno rule =
    IsBroken bytes seqno rule ⊎ (IsUnread bytes seqno rule ⊎ IsEmpty bytes seqno rule)
