-- The bytes of a snapshot that a node keeps at hand beside its ledger, for whoever fetches them part
-- by part.
use Rattle.std.specs.Prelude.{◌≡◌, ◌-◌, ◌≤◌, ℕ, List, Option, None, Some, Result, Ok, length, option_map, take}
use Rattle.std.specs.Result.{result_ok}
use Rattle.gl_answers.specs.Receipts.{receipts_of}
use Rattle.gl_entry.specs.Leaf.{id_of}
use Rattle.gl_entry.specs.declared.entry.Entry.{Entry}
use Rattle.gl_ledger.specs.NodeKeys.{service_layers}
use Rattle.gl_ledger.specs.Snapshot.{snapshot_of}
use Rattle.gl_ledger_base.specs.Ledgers.{HoldsLedger}
use Rattle.gl_receipt.specs.Made.{entry_at, receipt_of}
use Rattle.gl_receipt.specs.declared.components.Receipt.{Receipt}
use Rattle.gl_receipt.specs.declared.make_fault.MakeFault.{MakeFault}
use Rattle.gl_rules.specs.Log as logs
use Rattle.gl_snapshot.specs.Snapshot.{file_bytes}
use Rattle.gl_snapshot.specs.declared.snapshot.Snapshot.{Snapshot}
use Rattle.gl_store_book.specs.BasedLedgers.{BasedLedger, base_of, body_of}
use Rattle.gl_store_book.specs.declared.snapshot_file.SnapshotFile.{SnapshotFile}

-- These are the bytes of the snapshot with the entry at a seqno as its evidence: the body is that of
-- the entries before it, with the entry's receipt by the ledger with this base that is committed up
-- to one of its entries.
pub record IsFileWith (base : ℕ) (ledger : List Entry) (commit evidence : ℕ) (file : List ℕ)
    : Type 0 where
  pub committed : commit ≤ length ledger
  pub snapshot : Snapshot
  pub body : snapshot.body ≡ snapshot_of (take (evidence - 1) ledger)
  pub entry : entry_at ledger evidence ≡ Some snapshot.entry
  pub receipt : receipt_of (receipts_of base ledger commit) (id_of snapshot.entry)
      ≡ Ok snapshot.receipt
  pub bytes : file ≡ file_bytes snapshot

-- They are so of each ledger that this one stands for.
abbrev pub IsFileOf : BasedLedger → SnapshotFile → Type 0
IsFileOf l file = (log : List Entry) →
    HoldsLedger service_layers (body_of l.snapshot) l.entries log →
    IsFileWith (base_of l) log file.commit file.evidence file.bytes.items

-- Whatever is kept at hand is so.
abbrev pub IsAtHand : BasedLedger → Option SnapshotFile → Type 0
IsAtHand l None = Unit {0}
IsAtHand l (Some file) = IsFileOf l file

-- ---- how they are made

-- An entry with its receipt, where there are both.
abbrev pub with_receipt : (Entry → Result Receipt MakeFault) → Option Entry →
    Option (Entry × Receipt)
with_receipt receipt None = None
with_receipt receipt (Some e) = option_map (λ r. (e, r)) (result_ok (receipt e))

-- The entry at a seqno above the base, with its receipt by a ledger that this one stands for, and
-- that is committed up to another one.
abbrev pub received_in : BasedLedger → List Entry → ℕ → ℕ → Option (Entry × Receipt)
received_in l log commit seqno =
    with_receipt (λ e. receipt_of (receipts_of (base_of l) log commit) (id_of e))
    (logs.entry_at l.entries (seqno - base_of l))
