-- The one line that reports why words or bytes are refused.
use Rattle.std.specs.Prelude.{ℕ, List, ◌++◌, codes, decimal}
use Rattle.hex.specs.Hex.{encode_lower}
use Rattle.gl_store_book.specs.declared.node_file.fault.OpeningFault.{OpeningFault}
use Rattle.gl_store_book.specs.declared.node_file.fault.OpeningFault.TheVariants as openings
use Rattle.gl_snapshot.specs.declared.fault.SnapshotFault.{SnapshotFault}
use Rattle.gl_snapshot.specs.declared.fault.SnapshotFault.TheVariants as snapshots
use Rattle.gl_consortium.specs.declared.fault.SigningFault.{SigningFault}
use Rattle.gl_consortium.specs.declared.fault.SigningFault.TheVariants as signing
use Rattle.gl_commands.specs.Texts.{bad_action_text, form_text, journal_text, key_kinds_text, kind_name, nodes_text, receipt_text}
use Rattle.gl_gov_rules.specs.Numbers.{cause_number}
use Rattle.gl_recovery.specs.declared.fault.RecoveryFault.{RecoveryFault}
use Rattle.gl_recovery.specs.declared.fault.RecoveryFault.TheVariants as recovery
use Rattle.gl_recovery.specs.declared.recovering_fault.RecoveringFault.{RecoveringFault}
use Rattle.gl_recovery.specs.declared.recovering_fault.RecoveringFault.TheVariants as recovering
use Rattle.ccfg.specs.declared.fault.BeginFault.{BeginFault}
use Rattle.ccfg.specs.declared.fault.BeginFault.TheVariants as beginnings
use Rattle.ccfg.specs.declared.fault.Fault.{Fault}
use Rattle.ccfg.specs.declared.fault.Fault.TheVariants as faults

-- Why nothing is signed.
abbrev pub signing_text : SigningFault → List ℕ
signing_text (signing.Form fault) = form_text fault
signing_text (signing.NotFirstNode want got) = nodes_text want got
signing_text (signing.KeyExhausted reserved) = codes "KeyExhausted " ++ decimal reserved
signing_text (signing.BadAction index cause) = bad_action_text index (cause_number cause)
signing_text signing.Signature = codes "Signature"
signing_text signing.DiskFailed = codes "DiskFailed"

-- Why no service is recovered after an old ledger.
abbrev pub recovery_text : RecoveryFault → List ℕ
recovery_text (recovery.Audit seqno rule) =
    codes "Audit " ++ decimal seqno ++ codes " " ++ decimal rule
recovery_text recovery.NothingSigned = codes "NothingSigned"
recovery_text recovery.ViewLimit = codes "ViewLimit"
recovery_text recovery.SeqnoLimit = codes "SeqnoLimit"
recovery_text (recovery.BadAction index cause) = bad_action_text index (cause_number cause)
recovery_text recovery.Signature = codes "Signature"
recovery_text (recovery.TooLarge size) = codes "TooLarge " ++ decimal size
recovery_text recovery.SourceFailed = codes "SourceFailed"

-- Why no service is recovered.
abbrev pub recovering_text : RecoveringFault → List ℕ
recovering_text recovering.SourceFailed = codes "SourceFailed"
recovering_text recovering.TooMuchJson = codes "json 1048576"
recovering_text (recovering.Short at) = codes "Short " ++ decimal at
recovering_text (recovering.Form fault) = form_text fault
recovering_text (recovering.NotFirstNode want got) = nodes_text want got
recovering_text (recovering.KeyExhausted reserved) = codes "KeyExhausted " ++ decimal reserved
recovering_text (recovering.Recovery fault) = recovery_text fault
recovering_text recovering.DiskFailed = codes "DiskFailed"

-- Why a node's file can't be opened, or can't begin with an opening ledger.
abbrev pub opening_text : OpeningFault → List ℕ
opening_text (openings.Journal fault) = journal_text fault
opening_text (openings.KeyKind want got) = key_kinds_text want got
opening_text (openings.NotOpening seqno) = codes "NotOpening " ++ decimal seqno
opening_text (openings.TooLarge size) = codes "TooLarge " ++ decimal size

-- Why bytes are no snapshot that a node can begin behind. Of two digests the one that is wanted is
-- told first.
abbrev pub snapshot_text : SnapshotFault → List ℕ
snapshot_text (snapshots.Shape at) = codes "Shape " ++ decimal at
snapshot_text (snapshots.Receipt fault) = codes "Receipt " ++ receipt_text fault
snapshot_text (snapshots.Digest want got) =
    codes "Digest " ++ encode_lower want ++ codes " " ++ encode_lower got

-- Why a node doesn't begin.
abbrev pub beginning_text : BeginFault → List ℕ
beginning_text (beginnings.Opening fault) = opening_text fault
beginning_text (beginnings.Snapshot fault) = snapshot_text fault

abbrev pub fault_text : Fault → List ℕ
fault_text (faults.Words kind) = kind_name kind
fault_text faults.TooManyBytes = codes "bytes 16777216"
fault_text faults.TooManyLines = codes "lines 100000"
fault_text faults.TooManyRequests = codes "count 100000"
fault_text faults.TooMuchJson = codes "json 1048576"
fault_text (faults.BadLine number) = codes "line " ++ decimal number
fault_text (faults.Form fault) = form_text fault
fault_text (faults.NotValid fault) = receipt_text fault
fault_text (faults.Broken seqno rule) =
    codes "seqno " ++ decimal seqno ++ codes " rule " ++ decimal rule
fault_text (faults.Foreign identity) = codes "foreign " ++ encode_lower identity
fault_text (faults.NotEmpty len) = codes "NotEmpty " ++ decimal len
fault_text (faults.Short at) = codes "Short " ++ decimal at
fault_text (faults.Trailing at) = codes "Trailing " ++ decimal at
fault_text (faults.Journal fault) = journal_text fault
fault_text (faults.KeyKind want got) = key_kinds_text want got
fault_text faults.BadDealing = codes "BadAction 0 10"
fault_text (faults.Signing fault) = signing_text fault
fault_text (faults.Recovering fault) = recovering_text fault
fault_text (faults.Opening fault) = beginning_text fault
fault_text (faults.Turns turns) = codes "turns " ++ decimal turns

-- The line.
abbrev pub fault_line : Fault → List ℕ
fault_line fault = codes "fault " ++ fault_text fault ++ codes "\n"
