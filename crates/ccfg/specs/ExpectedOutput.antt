-- What a run of the program owes to its words, its disk and its source: how it ends, and what it
-- writes.
use Rattle.std.specs.Prelude.{◌≡◌, ℕ, zero, suc, List, [], ◌++◌, Option, None, Some, Result, Ok, Err, Bool, true, false, ◌==◌, codes, decimal, drop, length, nat_lt, take, if◌then◌else◌}
use Rattle.std.specs.Io.KnownBytes.{Appends}
use Rattle.clap.specs.declared.error.kind.ErrorKind.{ErrorKind}
use Rattle.gl_base.specs.TxId.{text_of}
use Rattle.gl_base.specs.declared.json.FormsFault.{FormsFault}
use Rattle.gl_base.specs.declared.tx_id.TxId.{TxId}
use Rattle.gl_consortium.specs.ExpectedOutput.{expected_output}
use Rattle.gl_consortium.specs.declared.fault.SigningFault.{SigningFault}
use Rattle.gl_consortium.specs.declared.fault.SigningFault.TheVariants as signings
use Rattle.gl_consortium.specs.Dealt.{deal_text, dealt}
use Rattle.gl_consortium.specs.Members.{can_deal}
use Rattle.gl_entry.specs.SourceBytes.{OfBytes}
use Rattle.gl_forms.specs.Key.{key_tree}
use Rattle.gl_journal.specs.Durable.{Durable}
use Rattle.gl_journal.specs.Records.{key_kind_tag}
use Rattle.gl_journal.specs.declared.fault.JournalFault.{JournalFault}
use Rattle.gl_journal.specs.declared.key.Key.{Key}
use Rattle.gl_journal.specs.declared.key.KeyKind.{KeyKind}
use Rattle.gl_journal.specs.declared.key.KeyKind.TheVariants.{Node}
use Rattle.gl_keyfile.specs.Form.{key_form_of}
use Rattle.gl_store_book.specs.NodeFile.{opened}
use Rattle.gl_keyfile.specs.SigningRequest.{kind_of}
use Rattle.gl_keyfile.specs.declared.signature.Signing.{Signing}
use Rattle.gl_hss.specs.declared.types.Types.{Types}
use Rattle.gl_load.specs.Events.{load_ledger}
use Rattle.gl_load.specs.Report.{report_of}
use Rattle.gl_load.specs.declared.report.Report.{Report}
use Rattle.gl_outside.specs.Fault.{Rose}
use Rattle.gl_outside.specs.Sink.{AppendsPrefix}
use Rattle.gl_lines.specs.declared.fault.ScheduleFault.{ScheduleFault}
use Rattle.gl_lines.specs.declared.fault.ScheduleFault.TheVariants.{BadLine}
use Rattle.gl_lines.specs.Lines.{line_count}
use Rattle.gl_receipt.specs.Form.{receipt_from}
use Rattle.gl_receipt.specs.Verdict.{verdict}
use Rattle.gl_receipt.specs.declared.components.Receipt.{Receipt}
use Rattle.gl_receipt.specs.declared.fault.ReceiptFault.{ReceiptFault}
use Rattle.gl_recovery.specs.RecoveryOutput.{expected_recover, is_source_read}
use Rattle.gl_recovery.specs.declared.recovering_fault.RecoveringFault.{RecoveringFault}
use Rattle.gl_recovery.specs.declared.recovering_fault.RecoveringFault.TheVariants as recoverings
use Rattle.gl_audit.specs.declared.verdict.Verdict.{Verdict}
use Rattle.gl_audit.specs.declared.verdict.Verdict.TheVariants as audits
use Rattle.hex.specs.Hex.{encode_lower}
use Rattle.serde_json.specs.Written.{compact_text}
use Rattle.ccfg.specs.declared.fault.Fault.{Fault}
use Rattle.ccfg.specs.declared.fault.Fault.TheVariants as faults
use Rattle.ccfg.specs.declared.ending.Ending.{Ending}
use Rattle.ccfg.specs.declared.ending.Ending.TheVariants as endings
use Rattle.gl_schedule.specs.declared.schedule.Schedule.{Schedule}
use Rattle.ccfg.specs.declared.plan.PlanError.{PlanError}
use Rattle.ccfg.specs.declared.plan.PlanError.TheVariants as stops
use Rattle.gl_commands.specs.declared.task.LoadTask.{LoadTask}
use Rattle.ccfg.specs.Faults.{fault_line}
use Rattle.gl_schedule.specs.Schedules.{reads}
use Rattle.gl_schedule.specs.Output.{text_of_schedule}

-- The status with which the process ends.
abbrev pub exit_status : Ending → ℕ
exit_status endings.Done = 0
exit_status endings.NotValid = 1
exit_status endings.OtherWords = 2
exit_status endings.SourceFailed = 3
exit_status endings.SinkFailed = 4
exit_status endings.DiskFailed = 5
exit_status endings.LinkFailed = 6
exit_status endings.Memory = 7
exit_status endings.PastLimit = 8
exit_status endings.NoReading = 9

-- How a run ends that reports why no service is recovered.
abbrev pub ending_of_recovering : RecoveringFault → Ending
ending_of_recovering recoverings.SourceFailed = endings.NotValid
ending_of_recovering recoverings.TooMuchJson = endings.PastLimit
ending_of_recovering (recoverings.Short at) = endings.NoReading
ending_of_recovering (recoverings.Form fault) = endings.NoReading
ending_of_recovering (recoverings.NotFirstNode want got) = endings.NotValid
ending_of_recovering (recoverings.KeyExhausted reserved) = endings.NotValid
ending_of_recovering (recoverings.Recovery fault) = endings.NotValid
ending_of_recovering recoverings.DiskFailed = endings.NotValid

-- How a run ends that tells a fault.
abbrev pub ending_of_fault : Fault → Ending
ending_of_fault (faults.Words kind) = endings.OtherWords
ending_of_fault faults.TooManyBytes = endings.PastLimit
ending_of_fault faults.TooManyLines = endings.PastLimit
ending_of_fault faults.TooManyRequests = endings.PastLimit
ending_of_fault faults.TooMuchJson = endings.PastLimit
ending_of_fault (faults.BadLine number) = endings.NoReading
ending_of_fault (faults.Form fault) = endings.NoReading
ending_of_fault (faults.NotValid fault) = endings.NotValid
ending_of_fault (faults.Broken seqno rule) = endings.NotValid
ending_of_fault (faults.Foreign identity) = endings.NotValid
ending_of_fault (faults.NotEmpty len) = endings.NotValid
ending_of_fault (faults.Short at) = endings.NoReading
ending_of_fault (faults.Trailing at) = endings.NoReading
ending_of_fault (faults.Journal fault) = endings.NotValid
ending_of_fault (faults.KeyKind want got) = endings.NotValid
ending_of_fault faults.BadDealing = endings.NotValid
ending_of_fault (faults.Signing fault) = endings.NotValid
ending_of_fault (faults.Recovering fault) = ending_of_recovering fault
ending_of_fault (faults.Opening fault) = endings.NotValid
ending_of_fault (faults.Turns turns) = endings.PastLimit

-- How a run ends that has no plan of what to do.
abbrev pub ending_of_stop : PlanError → Ending
ending_of_stop stops.Memory = endings.Memory
ending_of_stop stops.SourceFailed = endings.SourceFailed
ending_of_stop stops.DiskFailed = endings.DiskFailed

-- Whether a source is read whole before this fault is told of it. Where it has more bytes than are
-- wanted it isn't, nor is a ledger in which an entry breaks a rule: the audit stops there. Where a
-- disk isn't empty, or has no key file of the kind that is wanted, it isn't read at all. Where a
-- service is to be recovered, settings that are refused are read no further than their end.
abbrev pub is_read_whole : Fault → Bool
is_read_whole (faults.Words kind) = false
is_read_whole faults.TooManyBytes = false
is_read_whole faults.TooManyLines = true
is_read_whole faults.TooManyRequests = false
is_read_whole faults.TooMuchJson = false
is_read_whole (faults.BadLine number) = true
is_read_whole (faults.Form fault) = true
is_read_whole (faults.NotValid fault) = true
is_read_whole (faults.Broken seqno rule) = false
is_read_whole (faults.Foreign identity) = true
is_read_whole (faults.NotEmpty len) = false
is_read_whole (faults.Short at) = true
is_read_whole (faults.Trailing at) = false
is_read_whole (faults.Journal fault) = false
is_read_whole (faults.KeyKind want got) = false
is_read_whole faults.BadDealing = true
is_read_whole (faults.Signing fault) = true
is_read_whole (faults.Recovering fault) = is_source_read fault
is_read_whole (faults.Opening fault) = false
is_read_whole (faults.Turns turns) = false

-- What is owed

-- An ending, the text that belongs to it, and whether the source is read whole before.
pub record Output : Type 0 where
  pub ending : Ending
  pub text : List ℕ
  pub whole : Bool

-- An answer: all of the source is read for it.
abbrev pub output_of_answer : List ℕ → Output
output_of_answer text = record { ending = endings.Done; text = text; whole = true }

abbrev pub output_of_fault : Fault → Output
output_of_fault fault = record {
  ending = ending_of_fault fault;
  text = fault_line fault;
  whole = is_read_whole fault;
}

-- The most bytes and lines that a schedule has.
abbrev pub bytes_limit : ℕ
bytes_limit = 16777216

abbrev pub lines_limit : ℕ
lines_limit = 100000

abbrev pub output_of_reading : Result Schedule ScheduleFault → Output
output_of_reading (Err (BadLine number)) = output_of_fault (faults.BadLine number)
output_of_reading (Ok schedule) = output_of_answer (text_of_schedule schedule)

-- The expected output for bytes that are to be a schedule. The limits are tried before the reading,
-- the one on bytes first.
unfoldable pub output_of_schedule : List ℕ → Output
output_of_schedule given =
    if nat_lt bytes_limit (length given) then output_of_fault faults.TooManyBytes
    else (if nat_lt lines_limit (line_count given) then output_of_fault faults.TooManyLines
    else output_of_reading (reads given))

-- The most bytes that JSON has.
abbrev pub json_limit : ℕ
json_limit = 1048576

-- The line that tells which transaction a receipt shows.
abbrev pub valid_line : TxId → List ℕ
valid_line id = codes "valid " ++ text_of id ++ codes "\n"

abbrev pub output_of_verdict : Result TxId ReceiptFault → Output
output_of_verdict (Ok id) = output_of_answer (valid_line id)
output_of_verdict (Err fault) = output_of_fault (faults.NotValid fault)

abbrev pub output_of_form : List ℕ → Result Receipt FormsFault → Output
output_of_form identity (Err fault) = output_of_fault (faults.Form fault)
output_of_form identity (Ok receipt) = output_of_verdict (verdict identity receipt)

-- The expected output for bytes that are to be a receipt under a service's key. The limit is tried
-- before the form, and the form before the verdict.
unfoldable pub output_of_receipt : List ℕ → List ℕ → Output
output_of_receipt identity given =
    if nat_lt json_limit (length given) then output_of_fault faults.TooMuchJson
    else output_of_form identity (receipt_from given)

-- The transaction of a signature, or a dash where there is none.
abbrev pub signed_text : Option TxId → List ℕ
signed_text None = codes "-"
signed_text (Some id) = text_of id

-- The line that tells the last transaction of a valid ledger, and that of its last signature.
abbrev pub ledger_line : TxId → Option TxId → List ℕ
ledger_line last signed =
    codes "valid " ++ text_of last ++ codes " " ++ signed_text signed ++ codes "\n"

-- The expected output for the verdict of an audit.
abbrev pub output_of_audit : Verdict → Output
output_of_audit (audits.Valid last signed) = output_of_answer (ledger_line last signed)
output_of_audit (audits.Foreign identity) = output_of_fault (faults.Foreign identity)
output_of_audit (audits.Fault seqno rule) = output_of_fault (faults.Broken seqno rule)

-- The expected output for so many bytes. Fewer are reported, and where more go on.
abbrev pub on_length : ℕ → List ℕ → Output → Output
on_length size given output =
    if nat_lt (length given) size then output_of_fault (faults.Short (length given))
    else (if nat_lt size (length given) then output_of_fault (faults.Trailing size) else output)

-- How many bytes the seed of a key has.
abbrev pub seed_len : ℕ
seed_len = 32

-- The line of a key's public form.
abbrev pub key_line : Key → List ℕ
key_line key = compact_text (key_tree (key_form_of key)) ++ codes "\n"

-- The expected output for bytes that are to be the seed of a key.
unfoldable pub output_of_seed : KeyKind → Types → List ℕ → Output
output_of_seed kind types given =
    on_length seed_len given
    (output_of_answer (key_line (record { kind = kind; types = types; seed = given })))

-- How many bytes a recovery secret has, and how many it has with the seed of its dealing after it.
abbrev pub secret_len : ℕ
secret_len = 32

abbrev pub dealing_len : ℕ
dealing_len = 64

-- The text of the dealing of a secret that the seed stands behind.
abbrev pub text_of_dealing : ℕ → List ℕ → List ℕ → List ℕ
text_of_dealing threshold members given =
    deal_text threshold
    (dealt threshold members (take secret_len given) (drop secret_len given))
    (take secret_len given)

-- What is owed to such bytes: the members have to be some among whom a secret can be dealt so.
abbrev pub output_of_secret : ℕ → List ℕ → List ℕ → Output
output_of_secret threshold members given =
    if can_deal threshold members then output_of_answer (text_of_dealing threshold members given)
    else output_of_fault faults.BadDealing

-- The expected output for bytes that are to be a secret and the seed of its dealing. Their length
-- is tried before the members.
unfoldable pub output_of_dealing : ℕ → List ℕ → List ℕ → Output
output_of_dealing threshold members given =
    on_length dealing_len given (output_of_secret threshold members given)

-- What a disk shows: how many bytes it holds, and what they open to as a key file.
pub record Shown : Type 0 where
  pub len : ℕ
  pub opens : Result Durable JournalFault

abbrev pub shown_by : List ℕ → Shown
shown_by held = record { len = length held; opens = opened held }

-- What is owed where the disk has to be empty: else the number of its bytes.
abbrev pub on_empty : ℕ → Output → Output
on_empty zero output = output
on_empty (suc more) output = output_of_fault (faults.NotEmpty (suc more))

-- The expected output for what is signed, or to why nothing is.
abbrev pub output_of_signed : Result (List ℕ) SigningFault → Output
output_of_signed (Ok printed) = output_of_answer printed
output_of_signed (Err (signings.Form fault)) = output_of_fault (faults.Form fault)
output_of_signed (Err (signings.NotFirstNode want got)) =
    output_of_fault (faults.Signing (signings.NotFirstNode want got))
output_of_signed (Err (signings.KeyExhausted reserved)) =
    output_of_fault (faults.Signing (signings.KeyExhausted reserved))
output_of_signed (Err (signings.BadAction index cause)) =
    output_of_fault (faults.Signing (signings.BadAction index cause))
output_of_signed (Err signings.Signature) = output_of_fault (faults.Signing signings.Signature)
output_of_signed (Err signings.DiskFailed) = output_of_fault (faults.Signing signings.DiskFailed)

-- The expected output for bytes that are to be signed with the key of a file. The limit is tried
-- before all else.
unfoldable pub output_of_text : Signing → Durable → List ℕ → Output
output_of_text signing state given =
    if nat_lt json_limit (length given) then output_of_fault faults.TooMuchJson
    else output_of_signed (expected_output signing state given)

abbrev pub is_kind : KeyKind → KeyKind → Bool
is_kind want got = key_kind_tag want == key_kind_tag got

-- The key has to be of the kind that signs this.
abbrev pub on_kind : KeyKind → KeyKind → Output → Output
on_kind want got output =
    if is_kind want got then output else output_of_fault (faults.KeyKind want got)

-- What is owed with the key of a file, which has to be of a kind, by what the disk opens to.
abbrev pub output_with_key :
    KeyKind → (Durable → List ℕ → Output) → Result Durable JournalFault → List ℕ → Output
output_with_key kind owes (Err fault) given = output_of_fault (faults.Journal fault)
output_with_key kind owes (Ok state) given = on_kind kind state.key.kind (owes state given)

-- The expected output for bytes that are to be signed.
abbrev pub output_of_signing : Signing → Result Durable JournalFault → List ℕ → Output
output_of_signing signing opens given =
    output_with_key (kind_of signing) (output_of_text signing) opens given

-- What is owed to a ledger that is reported, or to why no service is recovered.
abbrev pub output_of_recovered : Result (List ℕ) RecoveringFault → Output
output_of_recovered (Ok printed) = output_of_answer printed
output_of_recovered (Err fault) = output_of_fault (faults.Recovering fault)

-- The expected output for the settings and the old ledger of a service, by the state of a node's
-- file.
abbrev pub output_of_old : Durable → List ℕ → Output
output_of_old state given = output_of_recovered (expected_recover state given)

-- What is owed to bytes by which a service is to be recovered.
abbrev pub output_of_recovering : Result Durable JournalFault → List ℕ → Output
output_of_recovering opens given = output_with_key Node output_of_old opens given

-- The lines that tell of a ledger that was made: how many entries, signatures and bytes it has, how
-- many keys the requests wrote to, its last transaction, and the root of the tree over its entries.
abbrev pub report_text : Report → List ℕ
report_text report =
    codes "entries " ++ decimal report.entries ++ codes "\nsignatures "
    ++ decimal report.signatures ++ codes "\nbytes " ++ decimal report.bytes ++ codes "\nkeys "
    ++ decimal report.keys ++ codes "\nlast " ++ text_of report.last ++ codes "\nroot "
    ++ encode_lower report.root ++ codes "\n"

-- The most requests of a ledger that is made.
abbrev pub requests_limit : ℕ
requests_limit = 100000

-- What is owed where a ledger of so many requests is to be made. The limit is tried first.
abbrev pub output_of_load : LoadTask → Output
output_of_load load =
    if nat_lt requests_limit load.count then output_of_fault faults.TooManyRequests
    else output_of_answer (report_text (report_of (load_ledger load.seed load.count)))

-- What holds of what a disk shows: of an honest disk of what its bytes show, of another one of
-- something that a disk may show.
abbrev pub OfShown : Bool → List ℕ → (Shown → Type 0) → Type 0
OfShown true held P = P (shown_by held)
OfShown false held P = (printed : Shown) × P printed

-- What is due to a task: by the bytes of its source alone, or by what its disk shows too.
pub data Due : Type 0 where
  BySource : (List ℕ → Output) → Due
  ByDisk : (Shown → List ℕ → Output) → Due

-- What holds of the output that is due.
abbrev pub OfDue : Due → Bool → List ℕ → Option (List ℕ) → (Output → Type 0) → Type 0
OfDue (BySource output) honest held given P = OfBytes given (λ bytes. P (output bytes))
OfDue (ByDisk output) honest held given P =
    OfShown honest held (λ shown. OfBytes given (λ bytes. P (output shown bytes)))

-- What a run does

-- What a sink held before a run and after it, where it tells that, and its counts of faults then.
pub record Written : Type 0 where
  pub held : Option (List ℕ)
  pub holds : Option (List ℕ)
  pub faults : ℕ
  pub faults_now : ℕ

-- All of the expected text was written, and the run ends as is due.
abbrev pub Writes : Ending → Written → Output → Type 0
Writes e w output = (output.ending ≡ e) × Appends w.held w.holds output.text

-- What was written, by how the run ended: where the sink failed, by its count of faults, or memory
-- ran out, a prefix of the expected output; else all of it.
abbrev pub WritesOutput : Ending → Written → Output → Type 0
WritesOutput endings.SourceFailed w output = ⊥
WritesOutput endings.DiskFailed w output = ⊥
WritesOutput endings.LinkFailed w output = ⊥
WritesOutput endings.SinkFailed w output =
    Rose w.faults w.faults_now × AppendsPrefix w.held w.holds output.text
WritesOutput endings.Memory w output = AppendsPrefix w.held w.holds output.text
WritesOutput endings.Done w output = Writes endings.Done w output
WritesOutput endings.NotValid w output = Writes endings.NotValid w output
WritesOutput endings.OtherWords w output = Writes endings.OtherWords w output
WritesOutput endings.PastLimit w output = Writes endings.PastLimit w output
WritesOutput endings.NoReading w output = Writes endings.NoReading w output

-- Where a source is read whole, it gave its end.
abbrev pub EndsSource : Output → Bool → Type 0
EndsSource output ended = output.whole ≡ true → ended ≡ true

-- A prefix of such a text was written.
abbrev pub PrintsPrefix : (List ℕ → Type 0) → Option (List ℕ) → Option (List ℕ) → Type 0
PrintsPrefix P held holds = (text : List ℕ) × P text × AppendsPrefix held holds text

-- A prefix of the line of a fault was written, or nothing.
abbrev pub PrintsFaultPrefix : Option (List ℕ) → Option (List ℕ) → Type 0
PrintsFaultPrefix held holds = (fault : Fault) × AppendsPrefix held holds (fault_line fault)
