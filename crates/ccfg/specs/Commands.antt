-- What the program does, by what its words ask for. Each command has its file.
use Rattle.std.specs.Prelude.{◌≡◌, ◌≢◌, Option, None, Some, Bool, true, false}
use Rattle.clap.specs.Kinds.{Kinds, IsAmong}
use Rattle.clap.specs.declared.error.kind.ErrorKind.{ErrorKind}
use Rattle.ccfg.specs.AuditCommand.{AuditDoes}
use Rattle.ccfg.specs.DealCommand.{DealDoes}
use Rattle.ccfg.specs.ExpectedOutput.{Due, BySource, ByDisk, WritesOutput, on_empty, output_of_audit, output_of_dealing, output_of_fault, output_of_receipt, output_of_recovering, output_of_schedule, output_of_seed, output_of_signing}
use Rattle.ccfg.specs.KeygenCommand.{KeygenDoes}
use Rattle.ccfg.specs.LoadCommand.{LoadDoes}
use Rattle.ccfg.specs.NodeCommand.{NodeDoes}
use Rattle.ccfg.specs.RecoverCommand.{RecoverDoes}
use Rattle.ccfg.specs.ReplayCommand.{ReplayDoes}
use Rattle.ccfg.specs.Run.{IsUnread, LeavesDisk, LinkRun, Run}
use Rattle.ccfg.specs.SignCommand.{SignDoes}
use Rattle.ccfg.specs.VerifyCommand.{VerifyDoes}
use Rattle.ccfg.specs.declared.ending.Ending.{Ending}
use Rattle.ccfg.specs.declared.ending.Ending.TheVariants.{LinkFailed, SourceFailed}
use Rattle.ccfg.specs.declared.fault.Fault.TheVariants.{Words}
use Rattle.gl_audit.specs.Verdict.{verdict}
use Rattle.gl_commands.specs.declared.task.Asked.{Asked}
use Rattle.gl_commands.specs.declared.task.Asked.TheVariants as asks
use Rattle.gl_commands.specs.declared.task.Task.{Task}
use Rattle.gl_commands.specs.declared.task.Task.TheVariants as tasks
use Rattle.gl_journal.specs.declared.key.KeyKind.{KeyKind}
use Rattle.gl_journal.specs.declared.key.KeyKind.TheVariants.{Node}
use Rattle.gl_keyfile.specs.SigningRequest.{kind_of, use_of}
use Rattle.gl_keyfile.specs.declared.leaf.LeafUse.{LeafUse}
use Rattle.gl_keyfile.specs.declared.leaf.LeafUse.TheVariants.{Start}

-- What is due to a task. A key is begun on an empty disk alone, and one that is there signs; that
-- is tried before the source. The other tasks use no disk.
abbrev pub output_of : Task → Due
output_of tasks.Replay = BySource output_of_schedule
output_of (tasks.Verify identity) = BySource (output_of_receipt identity)
output_of (tasks.Audit identity) = BySource (λ given. output_of_audit (verdict identity given))
output_of (tasks.Keygen kind types) =
    ByDisk (λ shown given. on_empty shown.len (output_of_seed kind types given))
output_of (tasks.Deal threshold members) = BySource (output_of_dealing threshold members)
output_of (tasks.Sign signing) = ByDisk (λ shown. output_of_signing signing shown.opens)
output_of tasks.Recover = ByDisk (λ shown. output_of_recovering shown.opens)

-- Whether what is due depends on what the disk shows.
abbrev pub is_by_disk : Due → Bool
is_by_disk (BySource output) = false
is_by_disk (ByDisk output) = true

-- A task uses the disk where it does.
abbrev pub uses_disk : Task → Bool
uses_disk task = is_by_disk (output_of task)

-- For which use a task takes the next leaf of the key of the disk's file, if it takes one.
abbrev pub leaf_use : Task → Option LeafUse
leaf_use tasks.Replay = None
leaf_use (tasks.Verify identity) = None
leaf_use (tasks.Audit identity) = None
leaf_use (tasks.Keygen kind types) = None
leaf_use (tasks.Deal threshold members) = None
leaf_use (tasks.Sign signing) = Some (use_of signing)
leaf_use tasks.Recover = Some Start

-- Of which kind the key of the disk's file has to be, if a task uses one.
abbrev pub key_kind : Task → Option KeyKind
key_kind tasks.Replay = None
key_kind (tasks.Verify identity) = None
key_kind (tasks.Audit identity) = None
key_kind (tasks.Keygen kind types) = None
key_kind (tasks.Deal threshold members) = None
key_kind (tasks.Sign signing) = Some (kind_of signing)
key_kind tasks.Recover = Some Node

-- A command that uses no link.
abbrev pub TaskDoes : {S D : Type 0} → Task → Run S D → Ending → Type 0
TaskDoes tasks.Replay r e = ReplayDoes r e
TaskDoes (tasks.Verify identity) r e = VerifyDoes identity r e
TaskDoes (tasks.Audit identity) r e = AuditDoes identity r e
TaskDoes (tasks.Keygen kind types) r e = KeygenDoes kind types r e
TaskDoes (tasks.Deal threshold members) r e = DealDoes threshold members r e
TaskDoes (tasks.Sign signing) r e = SignDoes signing r e
TaskDoes tasks.Recover r e = RecoverDoes r e

-- Where the source failed the run ends by that, and in no other way.
abbrev pub TellsFailure : {S D : Type 0} → Run S D → Ending → Type 0
TellsFailure r e = e ≢ SourceFailed → r.source.faults_now ≡ r.source.faults

-- So it is of the link.
abbrev pub TellsLinkFailure : {L : Type 0} → LinkRun L → Ending → Type 0
TellsLinkFailure link e =
    e ≢ LinkFailed → (link.inward link.after).faults ≡ (link.inward link.before).faults

-- Each command.
abbrev pub Does : {S D L : Type 0} → Asked → Run S D → LinkRun L → Ending → Type 0
Does (asks.Task task) r link e =
    TaskDoes task r e × TellsFailure r e × (link.after ≡ link.before)
Does (asks.Load load) r link e = LoadDoes load r e × (link.after ≡ link.before)
Does (asks.Node node) r link e =
    NodeDoes node r link e × TellsFailure r e × TellsLinkFailure link e

-- Words that ask for nothing: the line of a kind of their fault is written, and no more is done.
pub record ReportsFault {S D L : Type 0} (kinds : Kinds) (r : Run S D) (link : LinkRun L)
    (e : Ending) : Type 0 where
  pub kind : ErrorKind
  pub among : IsAmong kind kinds
  pub exact : WritesOutput e r.sink (output_of_fault (Words kind))
  pub source : IsUnread r.source
  pub disk : LeavesDisk r.disk e
  pub link_same : link.after ≡ link.before
