-- What a receipt shows of a ledger, and what is hashed with SHA-256 for each of the two.
use Rattle.std.specs.Prelude.{◌≡◌, ◌⊎◌, ℕ, ◌≤◌, List, [], ◌∷◌, ◌++◌, Contains, Some, take}
use Rattle.gl_base.specs.LittleEndian.{little_endian}
use Rattle.gl_base.specs.declared.tx_id.TxId.{TxId}
use Rattle.gl_merkle.specs.Path.{path_of}
use Rattle.gl_merkle.specs.Reach.{inputs_of, inputs_on}
use Rattle.gl_vmaps.specs.Tables.{Tables, no_tables, wrote_all}
use Rattle.gl_entry.specs.Leaf.{id_of}
use Rattle.gl_entry.specs.declared.entry.Entry.{Entry}
use Rattle.gl_ledger.specs.ServiceRow.{identity_in}
use Rattle.gl_ledger.specs.Tree.{tables_of, leaves_of}
use Rattle.gl_receipt.specs.Law.{HaveOneDigest, input_of}
use Rattle.gl_receipt.specs.Made.{entry_at, components_of}
use Rattle.gl_receipt.specs.Receipt.{leaf_of}
use Rattle.gl_receipt.specs.declared.components.LeafComponents.{LeafComponents}
use Rattle.gl_receipt.specs.declared.components.Receipt.{Receipt}

-- The service's key and the identifier, whose digest stands in the commit evidence.
abbrev pub evidence_input : List ℕ → TxId → List ℕ
evidence_input identity id = identity ++ little_endian 4 id.view ++ little_endian 8 id.seqno

-- What is hashed for a leaf: the service's key and the identifier, the text of the commit evidence,
-- and the 96 bytes of the leaf.
abbrev pub hashed_for_leaf : List ℕ → TxId → LeafComponents → List (List ℕ)
hashed_for_leaf identity id c =
    evidence_input identity id ∷ c.commit_evidence ∷ input_of c ∷ []

-- What is hashed where a receipt is verified for a transaction: for its leaf, and the 64 bytes at
-- each step of its path.
abbrev pub hashed_for_receipt : List ℕ → Receipt → TxId → List (List ℕ)
hashed_for_receipt identity r id =
    hashed_for_leaf identity id r.leaf_components ++ inputs_on (leaf_of r.leaf_components) r.proof

-- What is hashed for the leaves of entries that stand after tables, each under the identity that is
-- in force once the entry's own writes are made.
abbrev pub hashed_from : Tables → List Entry → List (List ℕ)
hashed_from tables [] = []
hashed_from tables (e ∷ es) =
    hashed_for_leaf (identity_in (wrote_all tables e.writes)) (id_of e)
    (components_of (identity_in (wrote_all tables e.writes)) (id_of e) e)
    ++ hashed_from (wrote_all tables e.writes) es

-- What is hashed for the root of a ledger beside the bodies of its entries: for its leaves, and the
-- 64 bytes of each inner node of its tree.
abbrev pub hashed_for_ledger : List Entry → List (List ℕ)
hashed_for_ledger ledger = hashed_from no_tables ledger ++ inputs_of (leaves_of ledger)

-- The receipt shows this entry, which is among the first so many of the ledger: the entry has the
-- identifier, and the receipt has the key that is in force there, the entry's components, and the
-- path of its leaf in the tree of those first entries.
pub record Shows (identity : List ℕ) (r : Receipt) (id : TxId) (ledger : List Entry) (count : ℕ)
    (e : Entry) : Type 0 where
  pub stands : entry_at ledger id.seqno ≡ Some e
  pub within : id.seqno ≤ count
  pub view : e.view ≡ id.view
  pub service : identity ≡ identity_in (tables_of (take id.seqno ledger))
  pub components : r.leaf_components ≡ components_of identity id e
  pub path : r.proof ≡ path_of (leaves_of (take count ledger)) id.seqno

-- Two inputs of SHA-256 that differ and have one digest: this is hashed for the receipt, and that
-- for the root of the ledger.
pub record IsCollision (identity : List ℕ) (r : Receipt) (id : TxId) (ledger : List Entry)
    (this that : List ℕ) : Type 0 where
  pub of_receipt : Contains (hashed_for_receipt identity r id) this
  pub of_ledger : Contains (hashed_for_ledger ledger) that
  pub one_digest : HaveOneDigest this that

-- The receipt shows an entry among the first so many of a ledger, or there is a collision with what
-- is hashed for these.
abbrev pub IsBound : List ℕ → Receipt → TxId → List Entry → ℕ → Type 0
IsBound identity r id ledger count =
    ((e : Entry) × Shows identity r id ledger count e)
    ⊎ ((this : List ℕ) × (that : List ℕ)
    × IsCollision identity r id (take count ledger) this that)
