-- The types of a load's node, over a store S.
use Rattle.std.specs.Prelude.{List}
use Rattle.gl_tx.specs.declared.request.Operation.{Operation}
use Rattle.gl_requests.specs.declared.request.GovernanceRequest.{GovernanceRequest}
use Rattle.gl_ledger.specs.declared.response.Response.{Response}
use Rattle.gl_ledger.specs.declared.response.Reads.{Reads}
use Rattle.gl_ledger.specs.declared.response.Rejection.{Rejection}
use Rattle.gl_replication.specs.declared.event.Event.{Event}
use Rattle.gl_replication.specs.declared.node.Core.{Core}
use Rattle.gl_rules.specs.Outcome.{Outcome}
use Rattle.gl_node.specs.Seen.{Seen}
use Rattle.gl_load.specs.declared.memory_disk.MemoryDisk.{MemoryDisk}

abbrev pub LoadSeen : Type 0 → Type 0
LoadSeen S = Seen MemoryDisk S (List Operation) GovernanceRequest Reads Response Rejection

abbrev pub LoadCore : Type 0 → Type 0
LoadCore S = Core S (List Operation) GovernanceRequest Reads Response Rejection

abbrev pub LoadEvent : Type 0 → Type 0
LoadEvent S = Event S (List Operation) GovernanceRequest Reads Response Rejection

abbrev pub LoadOutcome : Type 0
LoadOutcome = Outcome Response Rejection
