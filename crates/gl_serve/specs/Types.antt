-- The types of a node of a service.
use Rattle.std.specs.Prelude.{List}
use Rattle.gl_tx.specs.declared.request.Operation.{Operation}
use Rattle.gl_requests.specs.declared.request.GovernanceRequest.{GovernanceRequest}
use Rattle.gl_ledger.specs.declared.response.Response.{Response}
use Rattle.gl_ledger.specs.declared.response.Reads.{Reads}
use Rattle.gl_ledger.specs.declared.response.Rejection.{Rejection}
use Rattle.gl_replication.specs.declared.event.Event.{Event}
use Rattle.gl_replication.specs.declared.done.Done.{Done}
use Rattle.gl_replication.specs.declared.done.Refusal.{Refusal}
use Rattle.gl_replication.specs.declared.node.Core.{Core}
use Rattle.gl_node.specs.Leaves.{Happening}
use Rattle.gl_node.specs.Seen.{Seen}
use Rattle.gl_node.specs.declared.fault.NodeFault.{NodeFault}

-- Over a disk D and a store S.
abbrev pub NodeSeen : Type 0 → Type 0 → Type 0
NodeSeen D S = Seen D S (List Operation) GovernanceRequest Reads Response Rejection

abbrev pub NodeCore : Type 0 → Type 0
NodeCore S = Core S (List Operation) GovernanceRequest Reads Response Rejection

abbrev pub NodeEvent : Type 0 → Type 0
NodeEvent S = Event S (List Operation) GovernanceRequest Reads Response Rejection

abbrev pub NodeDone : Type 0 → Type 0
NodeDone S = Done S (List Operation) GovernanceRequest Reads Response Rejection

abbrev pub NodeRefusal : Type 0 → Type 0
NodeRefusal S = Refusal S (List Operation) GovernanceRequest Reads Response Rejection

abbrev pub NodeFaults : Type 0 → Type 0
NodeFaults S = NodeFault S (List Operation) GovernanceRequest Reads Response Rejection

abbrev pub NodeHappening : Type 0 → Type 0
NodeHappening S = Happening S (List Operation) GovernanceRequest Reads Response Rejection
