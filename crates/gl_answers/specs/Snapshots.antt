-- The snapshots that a node gives of its ledger, and the parts of their bytes.
use Rattle.std.specs.Prelude.{◌≡◌, ◌-◌, ℕ, List, Option, None, Some, Ok, drop, length, min, take}
use Rattle.gl_base.specs.Bytes.{mebibyte}
use Rattle.gl_entry.specs.Leaf.{id_of}
use Rattle.gl_entry.specs.declared.entry.Entry.{Entry}
use Rattle.gl_ledger.specs.Snapshot.{snapshot_of}
use Rattle.gl_receipt.specs.Made.{entry_at, receipt_of}
use Rattle.gl_replication.specs.Holding.{Holding}
use Rattle.gl_rules.specs.Book.{Book}
use Rattle.gl_rules.specs.Log.{last_signature}
use Rattle.gl_rules.specs.Node.{Node}
use Rattle.gl_rules.specs.Replication.{greatest_evidence}
use Rattle.gl_snapshot.specs.Snapshot.{IsSnapshot, file_bytes}
use Rattle.gl_snapshot.specs.declared.snapshot.Snapshot.{Snapshot}
use Rattle.gl_answers.specs.Receipts.{receipts_of}
use Rattle.gl_answers.specs.declared.part.Part.{Part}

-- The greatest evidence above the base that has a committed signature above, in a ledger that is
-- committed up to a seqno.
abbrev pub evidence_below : {Q G R A F : Type 0} → Book Entry Q G R A F → Holding Entry → ℕ →
    Option ℕ
evidence_below b h commit =
    greatest_evidence b h.log h.base (last_signature b (take commit h.log) - 1)

-- The snapshot with the evidence at a seqno: its body is that of the entries before the evidence,
-- with the evidence's receipt by the ledger with this base that is committed up to a seqno. Its
-- bytes are read as it again.
pub record IsSnapshotWith (base : ℕ) (ledger : List Entry) (commit evidence : ℕ) (s : Snapshot)
    : Type 0 where
  pub body : s.body ≡ snapshot_of (take (evidence - 1) ledger)
  pub entry : entry_at ledger evidence ≡ Some s.entry
  pub receipt : receipt_of (receipts_of base ledger commit) (id_of s.entry) ≡ Ok s.receipt
  pub readable : IsSnapshot s

-- Of so many bytes, those from an offset on: 1 MiB, or all that are left.
abbrev pub part_of : List ℕ → ℕ → Part
part_of bytes offset = record { total = length bytes; bytes = take mebibyte (drop offset bytes) }

-- What a node gives of the snapshot that it offers: the part from an offset on of the one with this
-- evidence. Where it offers none it gives none. Its commit is never above its last entry.
abbrev pub Gives : Node Entry → ℕ → Option ℕ → Option Part → Type 0
Gives n offset None part = part ≡ None
Gives n offset (Some evidence) part =
    (s : Snapshot)
    × IsSnapshotWith n.base n.log (min n.commit (length n.log)) evidence s
    × (part ≡ Some (part_of (file_bytes s) offset))
