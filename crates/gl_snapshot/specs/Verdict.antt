-- What a snapshot shows, and what is answered of one that shows nothing: the first thing that is
-- wrong. The receipt is looked at first, then the entry's digest, then the body's.
use Rattle.std.specs.Prelude.{◌≡◌, ℕ, List, Bool, ◌&&◌, Result, Ok, Err, nat_eq, if◌then◌else◌}
use Rattle.sha2.specs.Sha256.{sha256}
use Rattle.gl_base.specs.Bytes.{same_bytes}
use Rattle.gl_base.specs.Steps.{◌>>=◌}
use Rattle.gl_base.specs.declared.tx_id.TxId.{TxId}
use Rattle.gl_entry.specs.Entry as entries
use Rattle.gl_entry.specs.Leaf.{id_of}
use Rattle.gl_entry.specs.declared.entry.Content.{Content}
use Rattle.gl_entry.specs.declared.entry.Content.TheVariants as content
use Rattle.gl_receipt.specs.Receipt.{Accepts}
use Rattle.gl_receipt.specs.Verdict.{verdict}
use Rattle.gl_receipt.specs.declared.fault.ReceiptFault.{ReceiptFault}
use Rattle.gl_receipt.specs.declared.fault.ReceiptFault.TheVariants.{Evidence}
use Rattle.gl_snapshot_body.specs.Body.{body_bytes}
use Rattle.gl_snapshot.specs.declared.fault.SnapshotFault.{SnapshotFault}
use Rattle.gl_snapshot.specs.declared.fault.SnapshotFault.TheVariants.{Receipt, Digest}
use Rattle.gl_snapshot.specs.declared.snapshot.Snapshot.{Snapshot}

-- The snapshot is one of a transaction of the service with this key: the receipt is accepted for
-- it, it is that of the entry, the receipt has the digest of the entry's body, and the entry
-- records the digest of the snapshot's body.
pub record Shows (identity : List ℕ) (s : Snapshot) (id : TxId) : Type 0 where
  pub receipt : Accepts identity s.receipt id
  pub named : id ≡ id_of s.entry
  pub write_set : s.receipt.leaf_components.write_set_digest ≡ sha256 (entries.body_bytes s.entry)
  pub body : s.entry.content ≡ content.Evidence (sha256 (body_bytes s.body))

-- What the receipt's verdict means for the snapshot.
abbrev pub of_receipt : {X : Type 0} → Result X ReceiptFault → Result X SnapshotFault
of_receipt (Ok x) = Ok x
of_receipt (Err fault) = Err (Receipt fault)

abbrev pub is_same_id : TxId → TxId → Bool
is_same_id id other = nat_eq id.view other.view && nat_eq id.seqno other.seqno

-- The transaction, which is asked to be that of an entry.
abbrev pub same_id : TxId → TxId → Result TxId SnapshotFault
same_id id entry = if is_same_id id entry then Ok id else Err (Receipt Evidence)

-- The digest that is there is asked to be the one that is wanted.
abbrev pub same_digest : List ℕ → List ℕ → Result (Unit {0}) SnapshotFault
same_digest want got = if same_bytes want got then Ok tt else Err (Digest want got)

-- An entry is asked to record this digest. What is wanted of an entry that is no evidence is zero
-- bytes.
abbrev pub recorded : Content → List ℕ → Result (Unit {0}) SnapshotFault
recorded (content.Governance b) got = Err (Digest entries.no_digest got)
recorded (content.Application b) got = Err (Digest entries.no_digest got)
recorded (content.Signature s) got = Err (Digest entries.no_digest got)
recorded (content.Evidence d) got = same_digest d got

unfoldable pub verified : List ℕ → Snapshot → Result TxId SnapshotFault
verified identity s = do
  receipt ← of_receipt (verdict identity s.receipt)
  id ← same_id receipt (id_of s.entry)
  write_set ← same_digest s.receipt.leaf_components.write_set_digest
      (sha256 (entries.body_bytes s.entry))
  body ← recorded s.entry.content (sha256 (body_bytes s.body))
  Ok id
