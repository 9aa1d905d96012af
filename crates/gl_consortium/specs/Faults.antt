-- Which faults come from the calls below.
use Rattle.std.specs.Prelude.{◌≡◌}
use Rattle.gl_base.specs.declared.or_no_memory.OrNoMemory.{OrNoMemory}
use Rattle.gl_base.specs.declared.or_no_memory.OrNoMemory.TheVariants.{NoMemory, Fault}
use Rattle.gl_gov_rules.specs.declared.refusal.GovernanceRefusal.{GovernanceRefusal}
use Rattle.gl_gov_rules.specs.declared.refusal.GovernanceRefusal.TheVariants.{BadAction, Signature}
use Rattle.gl_journal.specs.declared.fault.JournalFault.TheVariants.{DiskFault}
use Rattle.gl_keyfile.specs.declared.fault.KeyFileFault.{KeyFileFault}
use Rattle.gl_keyfile.specs.declared.fault.KeyFileFault.TheVariants.{Journal}
use Rattle.gl_consortium.specs.declared.fault.SigningFault.{SigningFault}
use Rattle.gl_consortium.specs.declared.fault.SigningFault.TheVariants.{DiskFailed}

-- A genesis is refused so: for an action or for a signature.
abbrev pub IsOfFounding : GovernanceRefusal → Type 0
IsOfFounding (BadAction index cause) = Unit {0}
IsOfFounding Signature = Unit {0}
IsOfFounding other = ⊥

-- A key file that has a leaf left gives none so: memory ran out, or the disk failed.
abbrev pub IsOfKeeping : OrNoMemory KeyFileFault → Type 0
IsOfKeeping NoMemory = Unit {0}
IsOfKeeping (Fault fault) = fault ≡ Journal DiskFault

-- It is told so.
abbrev pub IsReportedAs : OrNoMemory KeyFileFault → OrNoMemory SigningFault → Type 0
IsReportedAs NoMemory reported = reported ≡ NoMemory
IsReportedAs (Fault fault) reported = reported ≡ Fault DiskFailed
