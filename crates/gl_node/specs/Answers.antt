-- What a node that serves from a file answers.
use Rattle.std.specs.Prelude.{ℕ, Option, None, Some, Result, Ok, Err}
use Rattle.gl_replication.specs.declared.done.Done.{Done}
use Rattle.gl_replication.specs.declared.done.Refusal.{Refusal}
use Rattle.gl_node.specs.declared.fault.NodeFault.{NodeFault}
use Rattle.gl_node.specs.declared.fault.NodeFault.TheVariants.{Refused, DiskFault, Stopped}

module _ {S Q G R A F : Type 0} where
  -- This holds of the refusal, if the event was refused.
  abbrev pub OnRefusal : Result (Done S Q G R A F) (NodeFault S Q G R A F) →
      (Refusal S Q G R A F → Type 0) → Type 0
  OnRefusal (Ok done) P = Unit {0}
  OnRefusal (Err (Refused why)) P = P why
  OnRefusal (Err DiskFault) P = Unit {0}
  OnRefusal (Err (Stopped count)) P = Unit {0}

  -- The count of faults with which a node answers that has stopped.
  abbrev pub stopped_count : Result (Done S Q G R A F) (NodeFault S Q G R A F) → Option ℕ
  stopped_count (Ok done) = None
  stopped_count (Err (Refused why)) = None
  stopped_count (Err DiskFault) = None
  stopped_count (Err (Stopped count)) = Some count

  -- When it has stopped, by what an event came to and by how often the disk has failed.
  abbrev pub stopped_by : Result (Done S Q G R A F) (NodeFault S Q G R A F) → ℕ → Option ℕ
  stopped_by (Ok done) faults = None
  stopped_by (Err (Refused why)) faults = None
  stopped_by (Err DiskFault) faults = Some faults
  stopped_by (Err (Stopped count)) faults = None
