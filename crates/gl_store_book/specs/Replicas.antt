-- For which node of the rules a node stands that serves from its file.
use Rattle.std.specs.Prelude.{◌≡◌, List}
use Rattle.gl_rules.specs.Node.{Node}
use Rattle.gl_entry.specs.declared.entry.Entry.{Entry}
use Rattle.gl_journal.specs.Durable.{Durable}
use Rattle.gl_ledger.specs.NodeKeys.{NodeKeys, service_layers}
use Rattle.gl_ledger.specs.LedgerBook.{ServiceBook, ledger_book}
use Rattle.gl_ledger.specs.declared.response.Response.{Response}
use Rattle.gl_ledger.specs.declared.response.Reads.{Reads}
use Rattle.gl_ledger.specs.declared.response.Rejection.{Rejection}
use Rattle.gl_replication.specs.Stands.{StandsFor}
use Rattle.gl_replication.specs.declared.node.Core.{Core}
use Rattle.gl_requests.specs.declared.request.GovernanceRequest.{GovernanceRequest}
use Rattle.gl_tx.specs.declared.request.Operation.{Operation}
use Rattle.gl_ledger_base.specs.Ledgers.{IsBase}
use Rattle.gl_store_book.specs.BasedLedgers.{body_of}
use Rattle.gl_store_book.specs.NodeFile.{key_of, node_of}
use Rattle.gl_store_book.specs.Stands.{NodeStore, Stands}

-- The core of a node over its store.
abbrev pub NodeCore : Type 0
NodeCore = Core NodeStore (List Operation) GovernanceRequest Reads Response Rejection

-- The entries up to the base of a file's ledger: its snapshot stands for them. Without a snapshot
-- there are none.
abbrev pub IsBelow : Durable → List Entry → Type 0
IsBelow d below = IsBase service_layers (body_of d.snapshot) below

-- Under the book of each service in which the node of a file has the file's key it stands for this
-- node of the rules.
abbrev pub StandsForKey : Durable → NodeCore → (ServiceBook → Node Entry) → Type 0
StandsForKey d core node =
    (keys : NodeKeys) → keys.key_of (node_of d) ≡ key_of d →
    StandsFor Stands core (ledger_book service_layers keys) (node_of d)
    (node (ledger_book service_layers keys))

-- Under the book of each service in which the node of a file has the file's key, and whatever
-- entries stand up to its base, it stands for this node of the rules.
abbrev pub StandsForFile : Durable → NodeCore → (ServiceBook → List Entry → Node Entry) → Type 0
StandsForFile d core node =
    (keys : NodeKeys) → keys.key_of (node_of d) ≡ key_of d →
    (below : List Entry) → IsBelow d below →
    StandsFor Stands core (ledger_book service_layers keys) (node_of d)
    (node (ledger_book service_layers keys) below)
