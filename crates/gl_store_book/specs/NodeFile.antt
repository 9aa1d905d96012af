-- The file of a node: what its bytes open to, and whose it is.
use Rattle.std.specs.Prelude.{◌≡◌, ◌≤◌, ◌||◌, ℕ, List, Result, Ok, IsTrue, Bool, length, nat_lt}
use Rattle.sha2.specs.Sha256.{sha256}
use Rattle.gl_hss.specs.Tree.{key_bytes}
use Rattle.gl_hss.specs.Secrets.{PrivateKey, public_of}
use Rattle.gl_hss.specs.Profile.{key_of_seed}
use Rattle.gl_rules.specs.Identity.{NodeId}
use Rattle.gl_outside.specs.Disk.{Step, IsImage}
use Rattle.gl_journal.specs.Durable.{Durable, durable, leaf_count}
use Rattle.gl_journal.specs.declared.key.KeyKind.TheVariants.{Node}
use Rattle.gl_journal.specs.Kept.{IsKept}
use Rattle.gl_journal.specs.declared.fault.JournalFault.{JournalFault}
use Rattle.gl_journal.specs.declared.journal.Journal.{Journal}
use Rattle.gl_journal.specs.RecordView.{StandsOn, state_of}
use Rattle.gl_journal.specs.declared.durable.Durable as journal
use Rattle.gl_store_book.specs.Frames.{frames_of, goes_on_ledger, snapshot_in}
use Rattle.gl_store_book.specs.declared.node_file.ledger_log.LedgerLog.{LedgerLog}

-- What a node's file opened to, over the ledger that its records built.
abbrev pub seen_state : journal.Durable LedgerLog → Durable
seen_state d = state_of (λ log. frames_of log.ledger) d

-- What the bytes of a node's file open to.
abbrev pub opened : List ℕ → Result Durable JournalFault
opened file = durable goes_on_ledger file

-- Each image that a stop may leave, once these steps were done, opens to this state.
abbrev pub OpensOnlyTo : List Step → Durable → Type 0
OpensOnlyTo past state = (image : List ℕ) → IsImage past image → opened image ≡ Ok state

-- The node's key, which grows from the seed of the file.
abbrev pub key_of : Durable → PrivateKey
key_of state = key_of_seed state.key.types state.key.seed

-- The node, by the digest of its public key (RFC 8554, section 5.3).
abbrev pub node_of : Durable → NodeId
node_of state = sha256 (key_bytes (public_of (key_of state)))

-- A node's file that was opened: the disk, and what the file opened to.
pub record OpenFile (D : Type 0) : Type 0 where
  pub disk : D
  pub state : Durable

-- Over an honest disk with these bytes and this history the file is a settled journal, and opens to
-- this state.
pub record IsOpened {D : Type 0} (honest : Bool) (bytes : D → List ℕ) (past : D → List Step)
    (journal : Journal D) (state : Durable) : Type 0 where
  pub kept : IsTrue honest → IsKept bytes past journal
  pub opens : IsTrue honest → opened (bytes journal.gated.disk) ≡ Ok state

-- The ledger that was read from the file begins behind the snapshot that the file holds.
abbrev pub StandsOnSnapshot : journal.Durable LedgerLog → Type 0
StandsOnSnapshot d = StandsOn (λ log. snapshot_in log.ledger) d

-- The file has a ledger, or at least the snapshot behind which one begins.
abbrev pub has_ledger : Durable → Bool
has_ledger d = nat_lt 0 d.base || nat_lt 0 (length d.log)

-- The same of the file of a node whose key and identifier these are: its key is a node's, and no
-- more leaves are reserved than it has.
pub record IsNodeFile {D : Type 0} (honest : Bool) (bytes : D → List ℕ) (past : D → List Step)
    (journal : Journal D) (state : Durable) (key : PrivateKey) (me : NodeId) : Type 0 where
  pub file : IsOpened honest bytes past journal state
  pub kind : state.key.kind ≡ Node
  pub within : state.reserved ≤ leaf_count state
  pub grown : key ≡ key_of state
  pub named : me ≡ node_of state

-- The same of what the file opened to, whose ledger begins behind its snapshot.
pub record IsFileOfNode {D : Type 0} (honest : Bool) (bytes : D → List ℕ) (past : D → List Step)
    (j : Journal D) (d : journal.Durable LedgerLog) (key : PrivateKey) (me : NodeId) :
    Type 0 where
  pub file : IsNodeFile honest bytes past j (seen_state d) key me
  pub stands : StandsOnSnapshot d
