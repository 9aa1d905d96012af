-- A node of a world that serves from a file on a disk in memory.
use Rattle.std.specs.Prelude.{◌≡◌, ℕ, List, Option, None, Some, Ok, true}
use Rattle.gl_rules.specs.Identity.{NodeId}
use Rattle.gl_rules.specs.Node.{Node}
use Rattle.gl_entry.specs.declared.entry.Entry.{Entry}
use Rattle.gl_requests.specs.declared.request.GovernanceRequest.{GovernanceRequest}
use Rattle.gl_tx.specs.declared.request.Operation.{Operation}
use Rattle.ccfg.specs.Disk.{HeldDisk}
use Rattle.gl_journal.specs.Durable.{Durable}
use Rattle.gl_journal.specs.declared.journal.Journal.{Journal}
use Rattle.gl_journal.specs.declared.key.KeyKind.TheVariants as kinds
use Rattle.gl_ledger.specs.declared.response.Response.{Response}
use Rattle.gl_ledger.specs.declared.response.Reads.{Reads}
use Rattle.gl_ledger.specs.declared.response.Rejection.{Rejection}
use Rattle.gl_ledger.specs.LedgerBook.{ServiceBook, ledger_book}
use Rattle.gl_ledger.specs.NodeKeys.{NodeKeys, service_layers}
use Rattle.gl_replication.specs.Events.{has_few_entries, rule_of}
use Rattle.gl_replication.specs.declared.event.Event.{Event}
use Rattle.gl_replication.specs.Stands.{StandsFor}
use Rattle.gl_node.specs.Seen.{Seen}
use Rattle.gl_rules.specs.Replication.{restart}
use Rattle.gl_world.specs.WorldNodes.{Rule}
use Rattle.gl_store_book.specs.NodeFile.{IsOpened, key_of, node_of, opened}
use Rattle.gl_store_book.specs.Stands.{HasLedger, NodeStore, Stands}

-- The node, the disk with its file, and whether it has stopped.
abbrev pub SeenFileNode : Type 0
SeenFileNode = Seen HeldDisk NodeStore (List Operation) GovernanceRequest Reads Response Rejection

-- The file opens to this state, and has a node's key.
pub record OpensToNode (bytes : List ℕ) (state : Durable) : Type 0 where
  pub opens : opened bytes ≡ Ok state
  pub kind : state.key.kind ≡ kinds.Node

-- The node serves, its snapshot, if it has one, stands for a ledger, and its file is a node's.
pub record IsFileNode (f : SeenFileNode) : Type 0 where
  pub serves : f.stopped ≡ None
  pub ledger : HasLedger f.core.book.ledger.snapshot
  pub state : Durable
  pub file : OpensToNode f.disk.bytes state

-- A file with this durable state is this node's, in the service of which this is the book: the
-- node's key is the file's.
pub record IsFileIn (state : Durable) (b : ServiceBook) (x : NodeId) : Type 0 where
  pub keys : NodeKeys
  pub book : b ≡ ledger_book service_layers keys
  pub named : x ≡ node_of state
  pub key : keys.key_of (node_of state) ≡ key_of state

-- The node's core stands for a node of the rules, and the file is that node's.
pub record StandsOverFile (f : SeenFileNode) (b : ServiceBook) (x : NodeId) (n : Node Entry) :
    Type 0 where
  pub core : StandsFor Stands f.core b x n
  pub file : (state : Durable) → opened f.disk.bytes ≡ Ok state → IsFileIn state b x

-- A journal on a disk in memory is settled, and opens to this state.
abbrev pub IsMemoryFile : Journal HeldDisk → Durable → Type 0
IsMemoryFile journal state = IsOpened true (λ disk. disk.bytes) (λ disk. disk.past) journal state

-- An event of a world with this rule is one of its node, with the same rule, or a restart.
abbrev pub IsEventOf : Rule →
    Option (Event NodeStore (List Operation) GovernanceRequest Reads Response Rejection) → Type 0
IsEventOf rule None =
    (b : ServiceBook) (x : NodeId) (n : Node Entry) → rule b x n ≡ restart b n
IsEventOf rule (Some event) =
    (has_few_entries event ≡ true)
    × ((b : ServiceBook) (x : NodeId) (n : Node Entry) → rule_of event b x n ≡ rule b x n)
