-- What `audit` does with a ledger, under the key of a service.
use Rattle.std.specs.Prelude.{ℕ, List}
use Rattle.gl_audit.specs.Verdict.{verdict}
use Rattle.ccfg.specs.ExpectedOutput.{output_of_audit}
use Rattle.ccfg.specs.Exits.{ExitsBy}
use Rattle.ccfg.specs.Run.{LeavesDisk, Run}
use Rattle.ccfg.specs.declared.ending.Ending.{Ending}

-- The run of an audit, with the key that is wanted.
pub record AuditDoes {S D : Type 0} (identity : List ℕ) (r : Run S D) (e : Ending) : Type 0 where
  -- It ends, and writes, by the verdict on the bytes.
  pub exact : ExitsBy r e (λ given. output_of_audit (verdict identity given))
  pub disk : LeavesDisk r.disk e
