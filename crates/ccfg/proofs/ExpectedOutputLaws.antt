-- What plans and faults owe, and what a task owes to the bytes of its source, whether the source
-- tells them or not.
use Rattle.std.proofs.Common.{◌≡◌, ◌⊎◌, inl, inr, ℕ, ◌<◌, List, length, Option, None, Some, Bool, true, nat_lt, if◌then◌else◌, refl, sym, ap, ◌∙◌, subst, arith, length-append}
use Rattle.std.proofs.lemmas.Bool.Decides.{nat_tests}
use Rattle.std.specs.Io.KnownBytes.{Appends, Consumes, Keeps}
use Rattle.gl_outside.specs.Sink.{AppendsPrefix}
use Rattle.gl_lines.specs.Lines.{line_count}
use Rattle.gl_receipt.specs.Form.{receipt_from}
use Rattle.gl_entry.specs.SourceBytes.{OfBytes}
use Rattle.gl_load.specs.Events.{load_ledger}
use Rattle.gl_load.specs.Report.{report_of}
use Rattle.gl_audit.specs.Verdict.{verdict as verdict_on}
use Rattle.gl_audit.specs.declared.verdict.Verdict.{Verdict}
use Rattle.ccfg.specs.declared.ending.Ending.{Ending}
use Rattle.ccfg.specs.declared.ending.Ending.TheVariants as endings
use Rattle.ccfg.specs.declared.fault.Fault.{Fault}
use Rattle.ccfg.specs.declared.fault.Fault.TheVariants as faults
use Rattle.ccfg.specs.declared.plan.Plan.{Plan}
use Rattle.ccfg.specs.declared.plan.Plan.TheVariants.{Play, Show, ShowLedger, Print, Refuse}
use Rattle.gl_commands.specs.declared.task.LoadTask.{LoadTask}
use Rattle.gl_commands.specs.declared.task.Task.{Task}
use Rattle.gl_commands.specs.declared.task.Task.TheVariants as tasks
use Rattle.ccfg.specs.Faults.{fault_line}
use Rattle.ccfg.specs.Exits.{Exits, ExitsAsDue}
use Rattle.ccfg.specs.Run.{Run}
use Rattle.ccfg.specs.VerifyCommand.{PrintsAccepted}
use Rattle.ccfg.specs.ExpectedOutput.{Due, EndsSource, OfDue, Output, PrintsFaultPrefix, WritesOutput, Written, bytes_limit, ending_of_fault, ending_of_stop, json_limit, ledger_line, lines_limit, output_of_answer, output_of_audit, output_of_fault, output_of_form, output_of_load, output_of_reading, output_of_receipt, output_of_schedule, report_text, requests_limit, valid_line}
use Rattle.ccfg.specs.Plans.{KeepsKey, SpendsLeaf, PrintsFault, PrintsSpent, ShowsAccepted, ShowsKept, output_of_plan}
use Rattle.ccfg.specs.declared.plan.PlanError.{PlanError}
use Rattle.ccfg.specs.declared.plan.PlanError.TheVariants as stops
use Rattle.ccfg.proofs.ShownLemmas.{due_any, due_map, from_given, of_map}
use Rattle.gl_journal.specs.declared.key.KeyKind.{KeyKind}
use Rattle.gl_keyfile.specs.declared.leaf.LeafUse.{LeafUse}
use Rattle.gl_hss.specs.declared.types.Types.{Types}
use Rattle.gl_outside.specs.Disk.{Step}
use Rattle.gl_outside.specs.Fault.{Rose}
use Rattle.gl_schedule.specs.Output.{text_of_schedule}
use Rattle.gl_recovery.specs.declared.recovering_fault.RecoveringFault.TheVariants as recoverings
use Rattle.gl_schedule.specs.Schedules.{reads}

-- a fault that is reported
pub writes_fault : (fault : Fault) (w : Written) → Appends w.held w.holds (fault_line fault) → WritesOutput (ending_of_fault fault) w (output_of_fault fault)
writes_fault (faults.Recovering recoverings.SourceFailed) w all = (refl, all)
writes_fault (faults.Recovering recoverings.TooMuchJson) w all = (refl, all)
writes_fault (faults.Recovering (recoverings.Short at)) w all = (refl, all)
writes_fault (faults.Recovering (recoverings.Form fault)) w all = (refl, all)
writes_fault (faults.Recovering (recoverings.NotFirstNode want got)) w all = (refl, all)
writes_fault (faults.Recovering (recoverings.KeyExhausted reserved)) w all = (refl, all)
writes_fault (faults.Recovering (recoverings.Recovery fault)) w all = (refl, all)
writes_fault (faults.Recovering recoverings.DiskFailed) w all = (refl, all)
writes_fault fault w all = (refl, all)

-- bytes of which more were read than the limit
pub of_more : (old new : Option (List ℕ)) (text : List ℕ) (limit : ℕ) → Consumes old new text → limit < length text → OfBytes old (λ g. limit < length g)
of_more None new text limit taken more = (text, more)
of_more (Some g) (Some rest) text limit taken more = omega (arith, more, ap length taken, length-append text rest)
of_more (Some g) None text limit taken more = absurd taken

-- more bytes than a limit
pub past_limit : (limit : ℕ) (fault : Fault) (due : List ℕ → Output) (given : Option (List ℕ)) → OfBytes given (λ g. limit < length g) →
    OfBytes given (λ g. (if nat_lt limit (length g) then output_of_fault fault else due g) ≡ output_of_fault fault)
past_limit limit fault due given more =
    of_map given (λ g. limit < length g) (λ g. (if nat_lt limit (length g) then output_of_fault fault else due g) ≡ output_of_fault fault)
    (λ g long. ap (λ (b : Bool). if b then output_of_fault fault else due g) (let t : nat_lt limit (length g) ≡ true = grind (arith, nat_tests) in t)) more

pub long_schedules : (given : Option (List ℕ)) → OfBytes given (λ g. bytes_limit < length g) → OfBytes given (λ g. output_of_schedule g ≡ output_of_fault faults.TooManyBytes)
unfolding output_of_schedule
long_schedules given more =
    past_limit bytes_limit faults.TooManyBytes (λ g. if nat_lt lines_limit (line_count g) then output_of_fault faults.TooManyLines else output_of_reading (reads g)) given more

pub long_receipts : (identity : List ℕ) (given : Option (List ℕ)) → OfBytes given (λ g. json_limit < length g) →
    OfBytes given (λ g. output_of_receipt identity g ≡ output_of_fault faults.TooMuchJson)
unfolding output_of_receipt
long_receipts identity given more = past_limit json_limit faults.TooMuchJson (λ g. output_of_form identity (receipt_from g)) given more

-- more requests than the limit
many_requests : (load : LoadTask) → requests_limit < load.count → output_of_load load ≡ output_of_fault faults.TooManyRequests
many_requests load more =
    ap (λ (b : Bool). if b then output_of_fault faults.TooManyRequests else output_of_answer (report_text (report_of (load_ledger load.seed load.count))))
    (let t : nat_lt requests_limit load.count ≡ true = grind (arith, nat_tests) in t)

pub refused_load : (e : Ending) (w : Written) (load : LoadTask) → requests_limit < load.count → WritesOutput e w (output_of_fault faults.TooManyRequests) → WritesOutput e w (output_of_load load)
refused_load e w load more writes = subst (λ (d : Output). WritesOutput e w d) (sym (many_requests load more)) writes

-- the verdict of an audit of what a source gives
pub verdict_output : (identity : List ℕ) (given : Option (List ℕ)) (printed : Verdict) (output : Output) → OfBytes given (λ g. printed ≡ verdict_on identity g) → output_of_audit printed ≡ output →
    OfBytes given (λ g. output_of_audit (verdict_on identity g) ≡ output)
verdict_output identity given printed output is same =
    of_map given (λ g. printed ≡ verdict_on identity g) (λ g. output_of_audit (verdict_on identity g) ≡ output) (λ g v. ap output_of_audit (sym v) ∙ same) is

no_fault_done : (fault : Fault) → ending_of_fault fault ≡ endings.Done → ⊥
no_fault_done (faults.Recovering recoverings.SourceFailed) is = cc
no_fault_done (faults.Recovering recoverings.TooMuchJson) is = cc
no_fault_done (faults.Recovering (recoverings.Short at)) is = cc
no_fault_done (faults.Recovering (recoverings.Form fault)) is = cc
no_fault_done (faults.Recovering (recoverings.NotFirstNode want got)) is = cc
no_fault_done (faults.Recovering (recoverings.KeyExhausted reserved)) is = cc
no_fault_done (faults.Recovering (recoverings.Recovery fault)) is = cc
no_fault_done (faults.Recovering recoverings.DiskFailed) is = cc
no_fault_done fault is = cc

-- a plan that was carried out under a key
accepted_by : (identity : List ℕ) (plan : Plan) (w : Written) (g : List ℕ) → ShowsAccepted (tasks.Verify identity) g plan → WritesOutput endings.Done w (output_of_plan plan) → PrintsAccepted identity g w.held w.holds
accepted_by identity (Play schedule) w g sound writes = absurd sound
accepted_by identity (Show id) w g sound writes = (sound.0, sound.1, id, sound.2, writes.1)
accepted_by identity (ShowLedger last signed) w g sound writes = absurd sound
accepted_by identity (Print text) w g sound writes = absurd sound
accepted_by identity (Refuse fault) w g sound writes = absurd (no_fault_done fault writes.0)

pub accepted : (task : Task) (identity : List ℕ) (plan : Plan) (e : Ending) (w : Written) (given : Option (List ℕ)) → task ≡ tasks.Verify identity → OfBytes given (λ g. ShowsAccepted task g plan) →
    e ≡ endings.Done → WritesOutput e w (output_of_plan plan) → OfBytes given (λ g. PrintsAccepted identity g w.held w.holds)
accepted task identity plan e w given asks sound is writes =
    go given (subst (λ (t : Task). OfBytes given (λ g. ShowsAccepted t g plan)) asks sound)
  where
    done : WritesOutput endings.Done w (output_of_plan plan)
    done = subst (λ (x : Ending). WritesOutput x w (output_of_plan plan)) is writes

    go : (given : Option (List ℕ)) → OfBytes given (λ g. ShowsAccepted (tasks.Verify identity) g plan) → OfBytes given (λ g. PrintsAccepted identity g w.held w.holds)
    go None sound = (sound.0, accepted_by identity plan w sound.0 sound.1 done)
    go (Some g) sound = accepted_by identity plan w g sound done

-- a key that is shown
kept_by : (kind : KeyKind) (types : Types) (past : List Step) (plan : Plan) (w : Written) (g : List ℕ) → ShowsKept kind types past g plan → WritesOutput endings.Done w (output_of_plan plan) → KeepsKey kind types past g
kept_by kind types past (Play schedule) w g sound writes = absurd sound
kept_by kind types past (Show id) w g sound writes = absurd sound
kept_by kind types past (ShowLedger last signed) w g sound writes = absurd sound
kept_by kind types past (Print text) w g sound writes = sound
kept_by kind types past (Refuse fault) w g sound writes = absurd (no_fault_done fault writes.0)

pub kept : (kind : KeyKind) (types : Types) (past : List Step) (plan : Plan) (e : Ending) (w : Written) (given : Option (List ℕ)) → OfBytes given (λ g. ShowsKept kind types past g plan) →
    e ≡ endings.Done → WritesOutput e w (output_of_plan plan) → OfBytes given (KeepsKey kind types past)
kept kind types past plan e w given sound is writes =
    of_map given (λ g. ShowsKept kind types past g plan) (KeepsKey kind types past) (λ g shown. kept_by kind types past plan w g shown (subst (λ (x : Ending). WritesOutput x w (output_of_plan plan)) is writes)) sound

-- it is, or a prefix of a fault's line was written
pub kept_or_refused : (kind : KeyKind) (types : Types) (past : List Step) (plan : Plan) (e : Ending) (w : Written) (given : Option (List ℕ)) → OfBytes given (λ g. ShowsKept kind types past g plan) → WritesOutput e w (output_of_plan plan) →
    (e ≡ endings.SinkFailed) ⊎ (e ≡ endings.Memory) → OfBytes given (KeepsKey kind types past) ⊎ PrintsFaultPrefix w.held w.holds
kept_or_refused kind types past (Play schedule) e w given sound writes is = from_given given (λ g. ⊥) (OfBytes given (KeepsKey kind types past) ⊎ PrintsFaultPrefix w.held w.holds) (λ g none. absurd none) sound
kept_or_refused kind types past (Show id) e w given sound writes is = from_given given (λ g. ⊥) (OfBytes given (KeepsKey kind types past) ⊎ PrintsFaultPrefix w.held w.holds) (λ g none. absurd none) sound
kept_or_refused kind types past (ShowLedger last signed) e w given sound writes is = from_given given (λ g. ⊥) (OfBytes given (KeepsKey kind types past) ⊎ PrintsFaultPrefix w.held w.holds) (λ g none. absurd none) sound
kept_or_refused kind types past (Print text) e w given sound writes is = inl sound
kept_or_refused kind types past (Refuse fault) e w given sound writes (inl is) = inr (fault, (subst (λ (x : Ending). WritesOutput x w (output_of_fault fault)) is writes).1)
kept_or_refused kind types past (Refuse fault) e w given sound writes (inr is) = inr (fault, subst (λ (x : Ending). WritesOutput x w (output_of_fault fault)) is writes)

-- a sink doesn't fail as a disk does
pub no_disk : (e : Ending) (w : Written) (output : Output) → WritesOutput e w output → e ≡ endings.DiskFailed → ⊥
no_disk e w output writes is = subst (λ (x : Ending). WritesOutput x w output) is writes

-- what is done is read whole
done_whole : (plan : Plan) → (output_of_plan plan).ending ≡ endings.Done → (output_of_plan plan).whole ≡ true
done_whole (Play schedule) is = refl
done_whole (Show id) is = refl
done_whole (ShowLedger last signed) is = refl
done_whole (Print text) is = refl
done_whole (Refuse fault) is = absurd (no_fault_done fault is)

-- how a run ends that does what a plan owes
exits_so : {S D : Type 0} (r : Run S D) (e : Ending) (plan : Plan) → EndsSource (output_of_plan plan) r.source.ended → WritesOutput e r.sink (output_of_plan plan) → Exits r e (output_of_plan plan)
exits_so r endings.Done plan ends writes = (ends (done_whole plan writes.0), writes)
exits_so r endings.NotValid plan ends writes = (ends, writes)
exits_so r endings.OtherWords plan ends writes = writes
exits_so r endings.SourceFailed plan ends writes = absurd writes
exits_so r endings.SinkFailed plan ends writes = writes
exits_so r endings.DiskFailed plan ends writes = absurd writes
exits_so r endings.LinkFailed plan ends writes = writes
exits_so r endings.Memory plan ends writes = writes
exits_so r endings.PastLimit plan ends writes = (ends, writes)
exits_so r endings.NoReading plan ends writes = (ends, writes)

-- a run that does what is due
pub output_runs : {S D : Type 0} (r : Run S D) (due : Due) (e : Ending) (plan : Plan) →
    OfDue due r.disk.honest (r.disk.bytes r.disk.before) r.source.given (λ o. o ≡ output_of_plan plan) →
    EndsSource (output_of_plan plan) r.source.ended → WritesOutput e r.sink (output_of_plan plan) → ExitsAsDue r e due
output_runs r due e plan is ends writes =
    due_map due r.disk.honest (r.disk.bytes r.disk.before) r.source.given (λ o. o ≡ output_of_plan plan) (Exits r e) (λ o same. subst (Exits r e) (sym same) (exits_so r e plan ends writes)) is

-- a run that came to no plan
stops_as : {S D : Type 0} (r : Run S D) (output : Output) (stop : PlanError) → (stop ≡ stops.SourceFailed → Rose r.source.faults r.source.faults_now) →
    (stop ≡ stops.DiskFailed → Rose (r.disk.faults r.disk.before) (r.disk.faults r.disk.after)) → Keeps r.sink.held r.sink.holds →
    ((text : List ℕ) → AppendsPrefix r.sink.held r.sink.holds text) → Exits r (ending_of_stop stop) output
stops_as r output stops.Memory source disk keeps prefix = prefix output.text
stops_as r output stops.SourceFailed source disk keeps prefix = (source refl, keeps)
stops_as r output stops.DiskFailed source disk keeps prefix = (disk refl, keeps)

pub stop_runs : {S D : Type 0} (r : Run S D) (due : Due) (stop : PlanError) → (stop ≡ stops.SourceFailed → Rose r.source.faults r.source.faults_now) →
    (stop ≡ stops.DiskFailed → Rose (r.disk.faults r.disk.before) (r.disk.faults r.disk.after)) → Keeps r.sink.held r.sink.holds →
    ((text : List ℕ) → AppendsPrefix r.sink.held r.sink.holds text) → ExitsAsDue r (ending_of_stop stop) due
stop_runs r due stop source disk keeps prefix =
    due_any due r.disk.honest (r.disk.bytes r.disk.before) r.source.given (Exits r (ending_of_stop stop)) (λ o. stops_as r o stop source disk keeps prefix)

-- how a run ends
pub as_due : {S D : Type 0} (r : Run S D) (e : Ending) (output : Output) → Exits r e output → (e ≡ output.ending) ⊎ (e ≡ endings.SourceFailed) ⊎ (e ≡ endings.SinkFailed) ⊎ (e ≡ endings.DiskFailed) ⊎ (e ≡ endings.Memory)
as_due r endings.Done output exits = inl (sym exits.1.0)
as_due r endings.NotValid output exits = inl (sym exits.1.0)
as_due r endings.OtherWords output exits = inl (sym exits.0)
as_due r endings.SourceFailed output exits = inr (inl refl)
as_due r endings.SinkFailed output exits = inr (inr (inl refl))
as_due r endings.DiskFailed output exits = inr (inr (inr (inl refl)))
as_due r endings.LinkFailed output exits = absurd exits
as_due r endings.Memory output exits = inr (inr (inr (inr refl)))
as_due r endings.PastLimit output exits = inl (sym exits.1.0)
as_due r endings.NoReading output exits = inl (sym exits.1.0)

-- an ending by which something is refused, or the source failed
abbrev pub Refuses : Ending → Type 0
Refuses e = (e ≡ endings.NotValid) ⊎ (e ≡ endings.SourceFailed) ⊎ (e ≡ endings.PastLimit) ⊎ (e ≡ endings.NoReading)

no_answer_refused : (text : List ℕ) (w : Written) (e : Ending) → WritesOutput e w (output_of_answer text) → Refuses e → ⊥
no_answer_refused text w endings.Done writes (inl is) = cc
no_answer_refused text w endings.Done writes (inr (inl is)) = cc
no_answer_refused text w endings.Done writes (inr (inr (inl is))) = cc
no_answer_refused text w endings.Done writes (inr (inr (inr is))) = cc
no_answer_refused text w endings.NotValid writes is = let q : endings.Done ≡ endings.NotValid = writes.0 in cc
no_answer_refused text w endings.NoReading writes is = let q : endings.Done ≡ endings.NoReading = writes.0 in cc
no_answer_refused text w endings.OtherWords writes is = let q : endings.Done ≡ endings.OtherWords = writes.0 in cc
no_answer_refused text w endings.PastLimit writes is = let q : endings.Done ≡ endings.PastLimit = writes.0 in cc
no_answer_refused text w endings.SourceFailed writes is = writes
no_answer_refused text w endings.DiskFailed writes is = writes
no_answer_refused text w endings.LinkFailed writes is = writes
no_answer_refused text w endings.SinkFailed writes (inl is) = cc
no_answer_refused text w endings.SinkFailed writes (inr (inl is)) = cc
no_answer_refused text w endings.SinkFailed writes (inr (inr (inl is))) = cc
no_answer_refused text w endings.SinkFailed writes (inr (inr (inr is))) = cc
no_answer_refused text w endings.Memory writes (inl is) = cc
no_answer_refused text w endings.Memory writes (inr (inl is)) = cc
no_answer_refused text w endings.Memory writes (inr (inr (inl is))) = cc
no_answer_refused text w endings.Memory writes (inr (inr (inr is))) = cc

-- an ending by which a fault is reported
pub refuses_by : (plan : Plan) (w : Written) (e : Ending) → WritesOutput e w (output_of_plan plan) → Refuses e → PrintsFault plan
refuses_by (Refuse fault) w e writes is = tt
refuses_by (Play schedule) w e writes is = absurd (no_answer_refused (text_of_schedule schedule) w e writes is)
refuses_by (Show id) w e writes is = absurd (no_answer_refused (valid_line id) w e writes is)
refuses_by (ShowLedger last signed) w e writes is = absurd (no_answer_refused (ledger_line last signed) w e writes is)
refuses_by (Print text) w e writes is = absurd (no_answer_refused text.items w e writes is)

-- where no limit is passed
pub among_all : (e : Ending) → (e ≡ endings.NotValid) ⊎ (e ≡ endings.SourceFailed) ⊎ (e ≡ endings.NoReading) → Refuses e
among_all e (inl is) = inl is
among_all e (inr (inl is)) = inr (inl is)
among_all e (inr (inr is)) = inr (inr (inr is))

-- something that is reported is signed with a leaf that is spent
spent_by : (leaf : LeafUse) (held : List ℕ) (past : List Step) (plan : Plan) (w : Written) → PrintsSpent leaf held past plan → WritesOutput endings.Done w (output_of_plan plan) → SpendsLeaf leaf held past
spent_by leaf held past (Play schedule) w sound writes = absurd sound
spent_by leaf held past (Show id) w sound writes = absurd sound
spent_by leaf held past (ShowLedger last signed) w sound writes = absurd sound
spent_by leaf held past (Print text) w sound writes = sound
spent_by leaf held past (Refuse fault) w sound writes = absurd (no_fault_done fault writes.0)

-- it is, or a prefix of a fault's line was written
pub spent_or_refused : (leaf : LeafUse) (held : List ℕ) (past : List Step) (plan : Plan) (e : Ending) (w : Written) → PrintsSpent leaf held past plan → WritesOutput e w (output_of_plan plan) →
    (e ≡ endings.Done) ⊎ (e ≡ endings.SinkFailed) ⊎ (e ≡ endings.Memory) → SpendsLeaf leaf held past ⊎ PrintsFaultPrefix w.held w.holds
spent_or_refused leaf held past (Play schedule) e w sound writes is = absurd sound
spent_or_refused leaf held past (Show id) e w sound writes is = absurd sound
spent_or_refused leaf held past (ShowLedger last signed) e w sound writes is = absurd sound
spent_or_refused leaf held past (Print text) e w sound writes is = inl sound
spent_or_refused leaf held past (Refuse fault) e w sound writes (inl is) = absurd (no_fault_done fault (subst (λ (x : Ending). WritesOutput x w (output_of_fault fault)) is writes).0)
spent_or_refused leaf held past (Refuse fault) e w sound writes (inr (inl is)) = inr (fault, (subst (λ (x : Ending). WritesOutput x w (output_of_fault fault)) is writes).1)
spent_or_refused leaf held past (Refuse fault) e w sound writes (inr (inr is)) = inr (fault, subst (λ (x : Ending). WritesOutput x w (output_of_fault fault)) is writes)

pub spent : (leaf : LeafUse) (held : List ℕ) (past : List Step) (plan : Plan) (e : Ending) (w : Written) → PrintsSpent leaf held past plan → e ≡ endings.Done → WritesOutput e w (output_of_plan plan) → SpendsLeaf leaf held past
spent leaf held past plan e w sound is writes = spent_by leaf held past plan w sound (subst (λ (x : Ending). WritesOutput x w (output_of_plan plan)) is writes)
