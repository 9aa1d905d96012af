-- What each command does, from what is promised of its plan.
use Rattle.std.proofs.Common.{◌≡◌, ◌≢◌, ◌⊎◌, inl, inr, ℕ, ◌<◌, List, [], length, Some, Bool, true, false, Result, Ok, Err, IsTrue, refl, sym, ap, subst, ◌∙◌}
use Rattle.std.specs.Io.KnownBytes.{Keeps}
use Rattle.clap.specs.Kinds.{Kinds}
use Rattle.clap.specs.Walk.{Text}
use Rattle.clap.specs.declared.error.kind.ErrorKind.{ErrorKind}
use Rattle.gl_entry.specs.SourceBytes.{OfBytes}
use Rattle.gl_hss.specs.declared.types.Types.{Types}
use Rattle.gl_journal.specs.Durable.{journal_header}
use Rattle.gl_journal.specs.Parts.{HasGate}
use Rattle.gl_journal.specs.declared.key.KeyKind.{KeyKind}
use Rattle.gl_journal.specs.declared.key.KeyKind.TheVariants.{Node}
use Rattle.gl_store_book.specs.NodeFile.{opened}
use Rattle.gl_keyfile.specs.SigningRequest.{kind_of, use_of}
use Rattle.gl_keyfile.specs.declared.leaf.LeafUse.{LeafUse}
use Rattle.gl_keyfile.specs.declared.leaf.LeafUse.TheVariants.{Start}
use Rattle.gl_outside.specs.Disk.{IsImage, Leaves}
use Rattle.gl_outside.specs.Sink.{AppendsPrefix}
use Rattle.gl_outside.proofs.Moments.{started, stayed}
use Rattle.gl_commands.specs.Words.{RefusesWords, asked}
use Rattle.gl_commands.specs.declared.task.Asked.{Asked}
use Rattle.gl_commands.specs.declared.task.Asked.TheVariants as asks
use Rattle.gl_commands.specs.declared.task.NodeTask.{NodeTask}
use Rattle.gl_commands.specs.declared.task.Task.{Task}
use Rattle.gl_commands.specs.declared.task.Task.TheVariants as tasks
use Rattle.gl_commands.specs.declared.task.WordsFault.TheVariants.{Refused}
use Rattle.gl_commands.proofs.WordLemmas.{HasKind, some_kind}
use Rattle.ccfg.specs.Commands.{Does, ReportsFault, TaskDoes, key_kind, leaf_use, output_of, uses_disk}
use Rattle.ccfg.specs.Exits.{Exits, ExitsAsDue}
use Rattle.ccfg.specs.ExpectedOutput.{PrintsFaultPrefix, WritesOutput, output_of_fault}
use Rattle.ccfg.specs.Faults.{fault_line}
use Rattle.ccfg.specs.NodeCommand.{NodeDoes}
use Rattle.ccfg.specs.Nodes.{IsUnserved, KeepsNode}
use Rattle.ccfg.specs.Plans.{IsUntouched, KeepsKey, MovesByLeaf, MovesToKey, OpensAsBefore, SpendsLeaf}
use Rattle.ccfg.specs.Run.{LinkRun, Run}
use Rattle.ccfg.specs.SignCommand.{HasNoKey, IsForeign, TakesLeaf}
use Rattle.ccfg.specs.VerifyCommand.{PrintsAccepted}
use Rattle.ccfg.specs.declared.ending.Ending.{Ending}
use Rattle.ccfg.specs.declared.ending.Ending.TheVariants as endings
use Rattle.ccfg.specs.declared.fault.Fault.TheVariants.{TooMuchJson, Words}
use Rattle.ccfg.proofs.MomentLemmas.{no_key, nothing_done}
use Rattle.ccfg.proofs.ShownLemmas.{due_any}

module _ {S D : Type 0} (r : Run S D) (e : Ending) where
  -- the bytes with which the disk began, and the history with which it ended
  abbrev held : List ℕ
  held = r.disk.bytes r.disk.before

  -- a leaf that is taken for a use
  takes : (leaf : LeafUse) → IsTrue r.disk.honest →
      (e ≡ endings.Done → IsTrue r.disk.honest → SpendsLeaf leaf held (r.disk.past r.disk.after)) →
      (IsTrue r.disk.honest → (e ≡ endings.Done) ⊎ (e ≡ endings.SinkFailed) ⊎ (e ≡ endings.Memory) → SpendsLeaf leaf held (r.disk.past r.disk.after) ⊎ PrintsFaultPrefix r.sink.held r.sink.holds) →
      (IsTrue r.disk.honest → HasGate journal_header held → MovesByLeaf leaf held (r.disk.past r.disk.before) (r.disk.past r.disk.after)) →
      (IsTrue r.disk.honest → (e ≡ endings.NotValid) ⊎ (e ≡ endings.SourceFailed) ⊎ (e ≡ endings.PastLimit) ⊎ (e ≡ endings.NoReading) → OpensAsBefore held (r.disk.bytes r.disk.after)) →
      (IsTrue r.disk.honest → IsForeign (opened held) → Leaves (IsImage (r.disk.past r.disk.before)) (r.disk.past r.disk.before) (r.disk.past r.disk.after)) →
      (IsTrue r.disk.honest → IsForeign (opened held) → (e ≢ endings.DiskFailed) → r.disk.bytes r.disk.after ≡ held) → TakesLeaf leaf r e
  takes leaf honest signed spent moved unspent foreign bytes =
      record { signed = λ done. signed done honest; spent = spent honest; unspent = unspent honest; any_moment = moved honest; foreign = foreign honest; foreign_bytes = bytes honest }

  pub task_does : (task : Task) →
      (uses_disk task ≡ false → (r.disk.after ≡ r.disk.before) × (e ≢ endings.DiskFailed)) →
      (e ≡ endings.Done → (identity : List ℕ) → task ≡ tasks.Verify identity → OfBytes r.source.given (λ given. PrintsAccepted identity given r.sink.held r.sink.holds)) →
      (e ≡ endings.Done → IsTrue r.disk.honest → (kind : KeyKind) (types : Types) → task ≡ tasks.Keygen kind types → OfBytes r.source.given (KeepsKey kind types (r.disk.past r.disk.after))) →
      (IsTrue r.disk.honest → (e ≡ endings.SinkFailed) ⊎ (e ≡ endings.Memory) → (kind : KeyKind) (types : Types) → task ≡ tasks.Keygen kind types → OfBytes r.source.given (KeepsKey kind types (r.disk.past r.disk.after)) ⊎ PrintsFaultPrefix r.sink.held r.sink.holds) →
      (IsTrue r.disk.honest → 0 < length held → (kind : KeyKind) (types : Types) → task ≡ tasks.Keygen kind types → IsUntouched r.disk.bytes r.disk.past r.disk.before r.disk.after) →
      (IsTrue r.disk.honest → 0 < length held → (kind : KeyKind) (types : Types) → task ≡ tasks.Keygen kind types → r.source.after ≡ r.source.before) →
      (IsTrue r.disk.honest → (e ≡ endings.NotValid) ⊎ (e ≡ endings.SourceFailed) ⊎ (e ≡ endings.NoReading) → (kind : KeyKind) (types : Types) → task ≡ tasks.Keygen kind types → IsUntouched r.disk.bytes r.disk.past r.disk.before r.disk.after) →
      (IsTrue r.disk.honest → (kind : KeyKind) (types : Types) → task ≡ tasks.Keygen kind types → OfBytes r.source.given (MovesToKey kind types (r.disk.past r.disk.before) (r.disk.past r.disk.after))) →
      (e ≡ endings.Done → IsTrue r.disk.honest → (leaf : LeafUse) → leaf_use task ≡ Some leaf → SpendsLeaf leaf held (r.disk.past r.disk.after)) →
      (IsTrue r.disk.honest → (e ≡ endings.Done) ⊎ (e ≡ endings.SinkFailed) ⊎ (e ≡ endings.Memory) → (leaf : LeafUse) → leaf_use task ≡ Some leaf → SpendsLeaf leaf held (r.disk.past r.disk.after) ⊎ PrintsFaultPrefix r.sink.held r.sink.holds) →
      (IsTrue r.disk.honest → HasGate journal_header held → (leaf : LeafUse) → leaf_use task ≡ Some leaf → MovesByLeaf leaf held (r.disk.past r.disk.before) (r.disk.past r.disk.after)) →
      (IsTrue r.disk.honest → (e ≡ endings.NotValid) ⊎ (e ≡ endings.SourceFailed) ⊎ (e ≡ endings.PastLimit) ⊎ (e ≡ endings.NoReading) → (leaf : LeafUse) → leaf_use task ≡ Some leaf → OpensAsBefore held (r.disk.bytes r.disk.after)) →
      (IsTrue r.disk.honest → (leaf : LeafUse) → leaf_use task ≡ Some leaf → IsForeign (opened held) → Leaves (IsImage (r.disk.past r.disk.before)) (r.disk.past r.disk.before) (r.disk.past r.disk.after)) →
      (IsTrue r.disk.honest → (leaf : LeafUse) → leaf_use task ≡ Some leaf → IsForeign (opened held) → (e ≢ endings.DiskFailed) → r.disk.bytes r.disk.after ≡ held) →
      (IsTrue r.disk.honest → (kind : KeyKind) → key_kind task ≡ Some kind → HasNoKey kind (opened held) → r.source.after ≡ r.source.before) →
      ExitsAsDue r e (output_of task) → TaskDoes task r e
  task_does (tasks.Verify identity) disk accepted kept shown full unread untouched keyed signed spent moved unspent foreign bytes keyless runs =
      record { exact = runs; accepted = λ done. accepted done identity refl; disk = record { same = (disk refl).0; never = (disk refl).1 } }
  task_does (tasks.Keygen kind types) disk accepted kept shown full unread untouched keyed signed spent moved unspent foreign bytes keyless runs =
      record {
        exact = runs;
        kept = λ done honest. kept done honest kind types refl;
        shown = λ honest is. shown honest is kind types refl;
        not_empty = λ honest some. full honest some kind types refl;
        unread = λ honest some. unread honest some kind types refl;
        untouched = λ honest is. untouched honest is kind types refl;
        any_moment = λ honest. keyed honest kind types refl;
      }
  task_does (tasks.Sign signing) disk accepted kept shown full unread untouched keyed signed spent moved unspent foreign bytes keyless runs =
      let leaf = use_of signing in
      record {
        exact = runs;
        leaf = λ honest. takes leaf honest (λ done yes. signed done yes leaf refl) (λ yes is. spent yes is leaf refl) (λ yes gate. moved yes gate leaf refl) (λ yes is. unspent yes is leaf refl)
            (λ yes none. foreign yes leaf refl none) (λ yes none other. bytes yes leaf refl none other);
        unread = λ honest none. keyless honest (kind_of signing) refl none;
      }
  task_does tasks.Recover disk accepted kept shown full unread untouched keyed signed spent moved unspent foreign bytes keyless runs =
      record {
        exact = runs;
        leaf = λ honest. takes Start honest (λ done yes. signed done yes Start refl) (λ yes is. spent yes is Start refl) (λ yes gate. moved yes gate Start refl) (λ yes is. unspent yes is Start refl)
            (λ yes none. foreign yes Start refl none) (λ yes none other. bytes yes Start refl none other);
        unread = λ honest none. keyless honest Node refl none;
      }
  -- a task that uses no disk, and of which no more is promised
  task_does task disk accepted kept shown full unread untouched keyed signed spent moved unspent foreign bytes keyless runs =
      record { exact = runs; disk = record { same = (disk refl).0; never = (disk refl).1 } }

-- what no run of which memory ran out came to
not_done : endings.Memory ≡ endings.Done → ⊥
not_done is = cc

abbrev Stops : Ending → Type 0
Stops e = (e ≡ endings.NotValid) ⊎ (e ≡ endings.SourceFailed) ⊎ (e ≡ endings.NoReading)

not_stopped : Stops endings.Memory → ⊥
not_stopped (inl is) = cc
not_stopped (inr (inl is)) = cc
not_stopped (inr (inr is)) = cc

abbrev StopsUnsigned : Ending → Type 0
StopsUnsigned e = (e ≡ endings.NotValid) ⊎ (e ≡ endings.SourceFailed) ⊎ (e ≡ endings.PastLimit) ⊎ (e ≡ endings.NoReading)

not_unsigned : StopsUnsigned endings.Memory → ⊥
not_unsigned (inl is) = cc
not_unsigned (inr (inl is)) = cc
not_unsigned (inr (inr (inl is))) = cc
not_unsigned (inr (inr (inr is))) = cc

-- memory ran out before anything was done
module _ {S D L : Type 0} (r : Run S D) (link : LinkRun L) (source : r.source.after ≡ r.source.before) (faults : r.source.faults_now ≡ r.source.faults) (disk : r.disk.after ≡ r.disk.before) (same : link.after ≡ link.before)
    (keeps : Keeps r.sink.held r.sink.holds) (prefix : (text : List ℕ) → AppendsPrefix r.sink.held r.sink.holds text) where
  untouched : IsUntouched r.disk.bytes r.disk.past r.disk.before r.disk.after
  untouched = record { bytes = ap r.disk.bytes disk; past = ap r.disk.past disk }

  no_moments : (P : List ℕ → Type 0) → ((image : List ℕ) → IsImage (r.disk.past r.disk.before) image → P image) → Leaves P (r.disk.past r.disk.before) (r.disk.past r.disk.after)
  no_moments P here =
      let before = r.disk.past r.disk.before in
      stayed P before before (r.disk.past r.disk.after) (started P before here) (ap r.disk.past disk)

  same_images : Leaves (IsImage (r.disk.past r.disk.before)) (r.disk.past r.disk.before) (r.disk.past r.disk.after)
  same_images = no_moments (IsImage (r.disk.past r.disk.before)) (λ image left. left)

  no_task : (task : Task) → TaskDoes task r endings.Memory
  no_task task =
      task_does r endings.Memory task
      (λ plain. (disk, λ is. cc))
      (λ done identity is. absurd (not_done done))
      (λ done honest kind types is. absurd (not_done done))
      (λ honest end kind types is. inr (TooMuchJson, prefix (fault_line TooMuchJson)))
      (λ honest some kind types is. untouched)
      (λ honest some kind types is. source)
      (λ honest stop kind types is. absurd (not_stopped stop))
      (λ honest kind types is. no_key r.source.given kind types (r.disk.past r.disk.before) (r.disk.past r.disk.after) (ap r.disk.past disk))
      (λ done honest leaf is. absurd (not_done done))
      (λ honest end leaf is. inr (TooMuchJson, prefix (fault_line TooMuchJson)))
      (λ honest gate leaf is. nothing_done leaf (r.disk.bytes r.disk.before) (r.disk.past r.disk.before) (r.disk.past r.disk.after) (ap r.disk.past disk))
      (λ honest stop leaf is. absurd (not_unsigned stop))
      (λ honest leaf is none. same_images)
      (λ honest leaf is none other. ap r.disk.bytes disk)
      (λ honest kind is none. source)
      (due_any (output_of task) r.disk.honest (r.disk.bytes r.disk.before) r.source.given (Exits r endings.Memory) (λ o. prefix o.text))

  pub nothing_does : (command : Asked) → Does command r link endings.Memory
  nothing_does (asks.Task task) = (no_task task, λ other. faults, same)
  nothing_does (asks.Node node) =
      let does : NodeDoes node r link endings.Memory = record {
        exact = inl (inl (record { link_same = same; any_moment = λ honest gate. no_moments (IsUnserved (r.disk.bytes r.disk.before) (r.disk.past r.disk.before)) (λ image left. inl (inl left)) }), keeps);
        any_moment = λ honest gate of. no_moments (KeepsNode (r.disk.bytes r.disk.before) (r.disk.past r.disk.before)) (λ image left. inl (inl left));
        foreign = λ honest none. same_images;
        foreign_bytes = λ honest none other. ap r.disk.bytes disk;
        unread = λ honest none. source;
      } in
      (does, λ other. faults, λ other. ap (λ (l : L). (link.inward l).faults) same)
  nothing_does (asks.Load load) = (record { exact = prefix _; source = source; disk = record { same = disk; never = λ is. cc } }, same)

  -- and where the words ask for nothing
  pub nothing_reports : (words : List Text) (kinds : Kinds) → asked words ≡ Err kinds → ReportsFault kinds r link endings.Memory
  nothing_reports words kinds is =
      let has = subst HasKind is (some_kind words) in
      record { kind = has.0; among = has.1; exact = prefix (fault_line (Words has.0)); source = source; disk = record { same = disk; never = λ never. cc }; link_same = same }

-- what the words ask for is the command that they were read as
pub as_asked : {S D L : Type 0} (r : Run S D) (link : LinkRun L) (e : Ending) (found : Result Asked Kinds) (own command : Asked) → found ≡ Ok own → found ≡ Ok command → Does own r link e → Does command r link e
as_asked r link e found own command read asks does =
    let one : own ≡ command = let both : ◌≡◌ {A = Result Asked Kinds} (Ok own) (Ok command) = sym read ∙ asks in cc in
    subst (λ (a : Asked). Does a r link e) one does

-- words that ask for nothing ask for no command
pub no_command : {A : Type 0} (found : Result Asked Kinds) (own : Asked) (kinds : Kinds) → found ≡ Ok own → found ≡ Err kinds → A
no_command found own kinds read refused = absurd (let both : ◌≡◌ {A = Result Asked Kinds} (Ok own) (Err kinds) = sym read ∙ refused in cc)

-- a kind of their fault is told
pub told : {S D L : Type 0} (r : Run S D) (link : LinkRun L) (e : Ending) (found : Result Asked Kinds) (kind : ErrorKind) (kinds : Kinds) → RefusesWords found (Refused kind) → found ≡ Err kinds →
    WritesOutput e r.sink (output_of_fault (Words kind)) → r.source.after ≡ r.source.before → r.disk.after ≡ r.disk.before → (e ≢ endings.DiskFailed) → link.after ≡ link.before → ReportsFault kinds r link e
told r link e found kind kinds refuses is writes source disk never same =
    let one : refuses.0 ≡ kinds = let both : ◌≡◌ {A = Result Asked Kinds} (Err refuses.0) (Err kinds) = sym refuses.1 ∙ is in cc in
    record { kind = kind; among = rw one at refuses.2; exact = writes; source = source; disk = record { same = disk; never = never }; link_same = same }

pub none_asked : {A : Type 0} (found : Result Asked Kinds) (kind : ErrorKind) (command : Asked) → RefusesWords found (Refused kind) → found ≡ Ok command → A
none_asked found kind command refuses asks = no_command found command refuses.0 asks refuses.1
