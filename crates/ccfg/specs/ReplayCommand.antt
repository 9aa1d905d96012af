-- What `replay` does.
use Rattle.ccfg.specs.ExpectedOutput.{output_of_schedule}
use Rattle.ccfg.specs.Exits.{ExitsBy}
use Rattle.ccfg.specs.Run.{LeavesDisk, Run}
use Rattle.ccfg.specs.declared.ending.Ending.{Ending}

pub record ReplayDoes {S D : Type 0} (r : Run S D) (e : Ending) : Type 0 where
  -- It ends, and writes, by the limits, by the schedule that the bytes are, and by what that tells.
  pub exact : ExitsBy r e output_of_schedule
  pub disk : LeavesDisk r.disk e
