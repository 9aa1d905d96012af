-- What a node's store holds, and for which rules of consensus and which ledger it stands.
use Rattle.std.specs.Prelude.{◌≡◌, ◌≤◌, ℕ, zero, suc, List, Option, None, Some, length}
use Rattle.gl_hss.specs.Secrets.{PrivateKey}
use Rattle.gl_rules.specs.Identity.{NodeId}
use Rattle.gl_entry.specs.declared.entry.Entry.{Entry}
use Rattle.gl_snapshot_body.specs.Body.{body_bytes, snapshot_limit}
use Rattle.gl_snapshot_body.specs.declared.body.Body.{Body}
use Rattle.gl_ledger.specs.NodeKeys.{NodeKeys, service_layers}
use Rattle.gl_ledger.specs.LedgerBook.{ServiceBook, ledger_book}
use Rattle.gl_ledger.specs.Snapshot.{snapshot_of}
use Rattle.gl_ledger_base.specs.Ledgers.{HoldsLedger, IsBase}
use Rattle.gl_replication.specs.Holding.{Holding}
use Rattle.gl_node.specs.Kept.{Kept}
use Rattle.gl_store_book.specs.BasedLedgers.{BasedLedger, IsEncoded, base_of, body_of, whole_ledger}

-- Whose it is, the key that it signs with, and the ledger.
pub record NodeStore : Type 0 where
  pub me : NodeId
  pub key : PrivateKey
  pub ledger : BasedLedger

-- In this service the node has this key.
pub record HasKey (keys : NodeKeys) (node : NodeStore) : Type 0 where
  pub key : keys.key_of node.me ≡ node.key

-- The store of a node with a whole ledger.
abbrev pub whole_store : NodeId → PrivateKey → List Entry → NodeStore
whole_store me key ledger = record { me = me; key = key; ledger = whole_ledger ledger }

-- A node's ledger that is whole from seqno 1.
abbrev pub whole : NodeId → List Entry → Holding Entry
whole me ledger = record { me = me; base = 0; log = ledger }

-- What is held of a ledger: the bytes of the snapshot up to its base, and the entries above.
abbrev pub held_of : BasedLedger → Kept
held_of l = record { snapshot = l.snapshot; base = base_of l; entries = l.entries }

abbrev pub snapshot_up_to : ℕ → List Entry → Option (List ℕ)
snapshot_up_to zero below = None
snapshot_up_to (suc n) below = Some (body_bytes (snapshot_of below))

-- The bytes of the snapshot that stands for the entries of a ledger up to a base, where that is
-- above 0.
abbrev pub snapshot_below : List Entry → Option (List ℕ)
snapshot_below below = snapshot_up_to (length below) below

-- There is a ledger whose entries up to its base this snapshot stands for. Without a snapshot there
-- are no such entries.
abbrev pub HasLedger : Option (List ℕ) → Type 0
HasLedger snapshot = (below : List Entry) × IsBase service_layers (body_of snapshot) below

-- A ledger, whole from seqno 1, that the node's ledger stands for: the body of the snapshot tells
-- of its entries up to the base, and those above are the node's.
pub record IsHolding (node : NodeStore) (h : Holding Entry) : Type 0 where
  pub me : h.me ≡ node.me
  pub base : h.base ≡ base_of node.ledger
  pub spelled : IsEncoded node.ledger.snapshot
  pub holds : HoldsLedger service_layers (body_of node.ledger.snapshot) node.ledger.entries h.log

-- It stands for such a ledger, under the book of each service in which the node has its key.
pub record Stands (node : NodeStore) (b : ServiceBook) (h : Holding Entry) : Type 0 where
  pub keys : NodeKeys
  pub has : HasKey keys node
  pub book : b ≡ ledger_book service_layers keys
  pub holding : IsHolding node h

-- A body is a snapshot of a ledger that ends with a signature, or is empty: its entries break no
-- rule, where rule 10 takes each as a signature's, and its bytes are within the limit. Whatever the
-- book is.
pub record Shows (body : Body) (b : ServiceBook) (log : List Entry) : Type 0 where
  pub base : IsBase service_layers body log
  pub within : length (body_bytes body) ≤ snapshot_limit
