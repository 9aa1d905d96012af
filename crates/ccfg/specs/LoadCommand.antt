-- What `load` does: it makes a ledger of so many requests, audits it, and tells of it.
use Rattle.ccfg.specs.ExpectedOutput.{WritesOutput, output_of_load}
use Rattle.ccfg.specs.Run.{IsUnread, LeavesDisk, Run}
use Rattle.ccfg.specs.declared.ending.Ending.{Ending}
use Rattle.gl_commands.specs.declared.task.LoadTask.{LoadTask}

pub record LoadDoes {S D : Type 0} (load : LoadTask) (r : Run S D) (e : Ending) : Type 0 where
  -- It ends, and writes, by the limit and by what the ledger comes to.
  pub exact : WritesOutput e r.sink (output_of_load load)
  pub source : IsUnread r.source
  pub disk : LeavesDisk r.disk e
