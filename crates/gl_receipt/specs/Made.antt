-- The receipts that a ledger gives (CCF documentation, "Receipts"), and why it gives none.
use Rattle.std.specs.Prelude.{◌≡◌, ℕ, zero, suc, ◌-◌, List, [], Bool, true, ◌&&◌, Option, Some, None, option_map, Result, Ok, Err, take, drop, nat_le, slice_get, if◌then◌else◌}
use Rattle.std.specs.List.{find}
use Rattle.sha2.specs.Sha256.{sha256}
use Rattle.gl_base.specs.Bytes.{same_bytes}
use Rattle.gl_base.specs.Status.{status_of}
use Rattle.gl_base.specs.Steps.{◌>>=◌}
use Rattle.gl_base.specs.TxId.{IsTxId}
use Rattle.gl_base.specs.declared.tx_id.Status.{Status}
use Rattle.gl_base.specs.declared.tx_id.Status.TheVariants as statuses
use Rattle.gl_base.specs.declared.tx_id.TxId.{TxId}
use Rattle.gl_entry.specs.Entry.{body_bytes, is_signature, recorded_commit}
use Rattle.gl_entry.specs.Leaf.{evidence_text, id_of, leaf_of}
use Rattle.gl_entry.specs.SignedMessage.{signed_message}
use Rattle.gl_entry.specs.declared.entry.Content.{Content}
use Rattle.gl_entry.specs.declared.entry.Content.TheVariants as content
use Rattle.gl_entry.specs.declared.entry.Entry.{Entry}
use Rattle.gl_hss.specs.Hss.{IsValid}
use Rattle.gl_merkle.specs.Path.{path_of}
use Rattle.gl_merkle.specs.Tree.{root_of}
use Rattle.gl_receipt.specs.declared.components.LeafComponents.{LeafComponents}
use Rattle.gl_receipt.specs.declared.components.Receipt.{Receipt}
use Rattle.gl_receipt.specs.declared.components.Signed.{Signed}
use Rattle.gl_receipt.specs.declared.make_fault.MakeFault.{MakeFault}
use Rattle.gl_receipt.specs.declared.make_fault.MakeFault.TheVariants.{NotCommitted, BelowBase, NoLaterSignature}

-- A ledger as receipts see it: its entries from seqno 1 on, their leaves in the Merkle tree, up to
-- which seqno it is committed, and the service's key in force at a seqno. Of the entries up to its
-- base the views alone are still known to whom is asked; the base is 0 where all are known.
pub record Ledger : Type 0 where
  pub base : ℕ
  pub entries : List Entry
  pub leaves : List (List ℕ)
  pub commit : ℕ
  pub identity : ℕ → List ℕ

-- What a list from seqno 1 on has at a seqno; it has nothing at 0.
abbrev pub at_seqno : {X : Type 0} → List X → ℕ → Option X
at_seqno xs zero = None
at_seqno xs (suc index) = slice_get xs index

-- The entry at a seqno.
abbrev pub entry_at : List Entry → ℕ → Option Entry
entry_at entries seqno = at_seqno entries seqno

-- The entry at a seqno above the base.
abbrev pub entry_above_base : Ledger → ℕ → Option Entry
entry_above_base l seqno = if nat_le seqno l.base then None else entry_at l.entries seqno

-- The view of the entry at a seqno.
abbrev pub view_at : List Entry → ℕ → Option ℕ
view_at entries seqno = option_map (λ e. e.view) (entry_at entries seqno)

-- The identifier of the last committed entry, if there is one.
abbrev pub commit_id : Ledger → Option TxId
commit_id l =
    option_map (λ view. record { view = view; seqno = l.commit }) (view_at l.entries l.commit)

-- The status of a transaction by this ledger.
abbrev pub status_in : Ledger → TxId → Status
status_in l id = status_of id (view_at l.entries id.seqno) (commit_id l)

-- The entry of a transaction of this status, which is asked to be Committed.
abbrev pub if_committed : Status → Option Entry → Result Entry MakeFault
if_committed statuses.Committed (Some e) = Ok e
if_committed statuses.Committed None = Err (NotCommitted statuses.Committed)
if_committed statuses.Unknown entry = Err (NotCommitted statuses.Unknown)
if_committed statuses.Pending entry = Err (NotCommitted statuses.Pending)
if_committed statuses.Invalid entry = Err (NotCommitted statuses.Invalid)

abbrev pub committed_entry : Ledger → TxId → Result Entry MakeFault
committed_entry l id = if_committed (status_in l id) (entry_at l.entries id.seqno)

-- A seqno that is asked to stand above the base.
abbrev pub above_base : Ledger → ℕ → Result Unit MakeFault
above_base l seqno = if nat_le seqno l.base then Err (BelowBase l.base) else Ok tt

-- A transaction that is asked to be committed, and then to stand above the base.
abbrev pub committed_above : Ledger → TxId → Result Unit MakeFault
committed_above l id = committed_entry l id >>= λ e. above_base l id.seqno

-- The first signature above a seqno, committed or not.
abbrev pub signature_above : List Entry → ℕ → Option Entry
signature_above entries seqno = find (λ e. is_signature e.content) (drop seqno entries)

-- The key in force at the one seqno is in force at the other.
abbrev pub is_under_same_key : Ledger → ℕ → ℕ → Bool
is_under_same_key l seqno other = same_bytes (l.identity seqno) (l.identity other)

-- A signature that is asked to stand at or below the commit, and under the key in force at a seqno.
abbrev pub if_within : Ledger → ℕ → Option Entry → Result Entry MakeFault
if_within l seqno None = Err (NoLaterSignature l.commit)
if_within l seqno (Some e) =
    if nat_le e.seqno l.commit && is_under_same_key l seqno e.seqno
    then Ok e
    else Err (NoLaterSignature l.commit)

-- The first signature above a seqno, where it is committed and under the same key.
abbrev pub later_signature : Ledger → ℕ → Result Entry MakeFault
later_signature l seqno = if_within l seqno (signature_above l.entries seqno)

-- What the leaf of an entry is made of, with the identifier told to the service's key.
abbrev pub components_of : List ℕ → TxId → Entry → LeafComponents
components_of identity id e = record {
  claims_digest = e.claims;
  commit_evidence = evidence_text identity id;
  write_set_digest = sha256 (body_bytes e);
}

-- The bytes of the signature in a signature entry; another entry has none.
abbrev pub recorded_signature : Content → List ℕ
recorded_signature (content.Governance b) = []
recorded_signature (content.Application b) = []
recorded_signature (content.Signature s) = s.signature
recorded_signature (content.Evidence d) = []

-- What a node signed in a signature entry beside the root.
abbrev pub signed_in_entry : Entry → Signed
signed_in_entry e =
    record { commit = recorded_commit e.content; seqno = e.seqno; view = e.view }

-- The receipt of a transaction: its entry's components, the path of its leaf in the tree over all
-- entries before the signature, and that signature.
abbrev pub receipt_by : Ledger → TxId → Entry → Entry → Receipt
receipt_by l id e signature = record {
  leaf_components = components_of (l.identity id.seqno) id e;
  proof = path_of (take (signature.seqno - 1) l.leaves) id.seqno;
  signature = recorded_signature signature.content;
  signed = signed_in_entry signature;
}

-- The receipt of a transaction by its ledger, or the first reason why there is none: the
-- transaction isn't committed; its entry isn't above the base; no signature above it is committed,
-- or the first one is under another key.
unfoldable pub receipt_of : Ledger → TxId → Result Receipt MakeFault
receipt_of l id = do
  e ← committed_entry l id
  above ← above_base l id.seqno
  signature ← later_signature l id.seqno
  Ok (receipt_by l id e signature)

-- The ledger is one of the service with its keys: each entry has the identifier of a transaction,
-- its leaf is the one under the key in force at its seqno, and each signature is valid under the
-- key in force at its seqno (RFC 8554, section 6.3) over the root of all leaves before it.
pub record IsOfService (l : Ledger) : Type 0 where
  pub named : (seqno : ℕ) (e : Entry) → entry_at l.entries seqno ≡ Some e → IsTxId (id_of e)
  pub leaves : (seqno : ℕ) (e : Entry) → entry_at l.entries seqno ≡ Some e →
      at_seqno l.leaves seqno ≡ Some (leaf_of (l.identity seqno) e)
  pub signatures : (seqno : ℕ) (e : Entry) → entry_at l.entries seqno ≡ Some e →
      is_signature e.content ≡ true →
      IsValid (l.identity seqno)
      (signed_message (root_of (take (seqno - 1) l.leaves)) e.view seqno
      (recorded_commit e.content))
      (recorded_signature e.content)
