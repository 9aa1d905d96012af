-- A service that began with an opening ledger: its events, and its nodes after them.
use Rattle.std.specs.Prelude.{◌≡◌, List}
use Rattle.gl_rules.specs.Identity.{NodeId}
use Rattle.gl_rules.specs.Node.{Node, Leader}
use Rattle.gl_rules.specs.World.{Start, Event}
use Rattle.gl_rules.specs.Safety.{node_after}
use Rattle.gl_tx.specs.declared.request.Operation.{Operation}
use Rattle.gl_entry.specs.declared.entry.Entry.{Entry}
use Rattle.gl_requests.specs.declared.request.GovernanceRequest.{GovernanceRequest}
use Rattle.gl_ledger.specs.Layers.{Layers}
use Rattle.gl_ledger.specs.NodeKeys.{NodeKeys}
use Rattle.gl_ledger.specs.declared.response.Reads.{Reads}
use Rattle.gl_ledger.specs.LedgerBook.{ledger_book}

abbrev pub ServiceEvent : Type 0
ServiceEvent = Event (List Operation) GovernanceRequest Reads

module _ (layers : Layers) (keys : NodeKeys) where
  -- Node x of the service after these events.
  abbrev pub node_of : Start Entry → List ServiceEvent → NodeId → Node Entry
  node_of s events x = node_after (ledger_book layers keys) s events x

  -- Node x leads after these events.
  abbrev pub Leads : Start Entry → List ServiceEvent → NodeId → Type 0
  Leads s events x = (node_of s events x).role ≡ Leader
