-- What `deal` does with a secret and the seed of its dealing.
use Rattle.std.specs.Prelude.{ℕ, List}
use Rattle.ccfg.specs.ExpectedOutput.{output_of_dealing}
use Rattle.ccfg.specs.Exits.{ExitsBy}
use Rattle.ccfg.specs.Run.{LeavesDisk, Run}
use Rattle.ccfg.specs.declared.ending.Ending.{Ending}

pub record DealDoes {S D : Type 0} (threshold : ℕ) (members : List ℕ) (r : Run S D) (e : Ending)
    : Type 0 where
  -- It ends, and writes, by the number of bytes, the members and the dealing.
  pub exact : ExitsBy r e (output_of_dealing threshold members)
  pub disk : LeavesDisk r.disk e
