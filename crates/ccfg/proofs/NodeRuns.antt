-- What a run of a node comes to, by how it stopped before it served, or how it served.
use Rattle.std.proofs.Common.{◌≡◌, ◌≢◌, ◌⊎◌, inl, inr, ℕ, Bool, true, false, ◌||◌, List, Option, None, Some, Result, Ok, Err, IsTrue, is_ok, refl, sym, subst, ◌∙◌}
use Rattle.std.specs.Io.KnownBytes.{Appends, Keeps}
use Rattle.gl_outside.specs.Fault.{Rose}
use Rattle.ccfg.specs.declared.fault.BeginFault.{BeginFault}
use Rattle.gl_commands.specs.declared.task.NodeTask.{NodeTask}
use Rattle.gl_serve.specs.Serves.{calls_after}
use Rattle.gl_serve.specs.declared.settings.ServeEnd.{ServeEnd}
use Rattle.gl_serve.specs.declared.settings.ServeEnd.TheVariants as ends
use Rattle.ccfg.specs.Faults.{fault_line}
use Rattle.ccfg.specs.Plans.{OpensAsBefore}
use Rattle.ccfg.specs.Run.{LinkRun, Run}
use Rattle.ccfg.specs.Nodes.{NodeRuns, NotBegun, NotOpened, NotServed, OfBeginning, Served, beginning_of, served_line}
use Rattle.ccfg.specs.ExpectedOutput.{WritesOutput, output_of_answer, output_of_fault}
use Rattle.ccfg.specs.declared.ending.Ending.{Ending}
use Rattle.ccfg.specs.declared.ending.Ending.TheVariants as endings
use Rattle.ccfg.specs.declared.fault.Fault.TheVariants as printed
use Rattle.ccfg.specs.declared.node.NodeError.{NodeError}
use Rattle.ccfg.specs.declared.node.NodeError.TheVariants as stops

-- nothing was written
pub keeps_same : (held holds : Option (List ℕ)) → holds ≡ held → Keeps held holds
keeps_same held holds e = subst (λ now. Keeps held now) (sym e) (same held)
  where
    same : (known : Option (List ℕ)) → Keeps known known
    same None = tt
    same (Some xs) = refl

-- an end that was given stays given
ends_true : (before : Bool) (now : Bool) → now ≡ (before || true) → now ≡ true
ends_true true now e = e
ends_true false now e = e

-- and where it wasn't given now it is as it was
ends_same : (before : Bool) (now : Bool) → now ≡ (before || false) → now ≡ before
ends_same true now e = e
ends_same false now e = e

module _ {S D L : Type 0} (task : NodeTask) (r : Run S D) (link : LinkRun L) where
  abbrev Comes : Ending → Type 0
  Comes e = NodeRuns task r link e

  -- it is told why the node didn't begin
  prints_refusal : (fault : BeginFault) → NotBegun task r link fault → (e : Ending) → WritesOutput e r.sink (output_of_fault (printed.Opening fault)) → Comes e
  prints_refusal fault none endings.Done w = absurd (let q : endings.NotValid ≡ endings.Done = w.0 in cc)
  prints_refusal fault none endings.NotValid w = (fault, none, w.1)
  prints_refusal fault none endings.OtherWords w = absurd (let q : endings.NotValid ≡ endings.OtherWords = w.0 in cc)
  prints_refusal fault none endings.SourceFailed w = absurd w
  prints_refusal fault none endings.SinkFailed w = (w.0, (fault_line (printed.Opening fault), inl (fault, none, refl), w.1))
  prints_refusal fault none endings.DiskFailed w = absurd w
  prints_refusal fault none endings.LinkFailed w = absurd w
  prints_refusal fault none endings.Memory w = inr (fault_line (printed.Opening fault), inl (fault, none, refl), w)
  prints_refusal fault none endings.PastLimit w = absurd (let q : endings.NotValid ≡ endings.PastLimit = w.0 in cc)
  prints_refusal fault none endings.NoReading w = absurd (let q : endings.NotValid ≡ endings.NoReading = w.0 in cc)

  -- the counts are reported
  prints_counts : (counts : ℕ × ℕ) → (link.inward link.after).ended ≡ true → Served task r link (Ok counts) →
      (e : Ending) → WritesOutput e r.sink (output_of_answer (served_line counts)) → Comes e
  prints_counts counts ended served endings.Done w = (ended, counts, served, w.1)
  prints_counts counts ended served endings.NotValid w = absurd (let q : endings.Done ≡ endings.NotValid = w.0 in cc)
  prints_counts counts ended served endings.OtherWords w = absurd (let q : endings.Done ≡ endings.OtherWords = w.0 in cc)
  prints_counts counts ended served endings.SourceFailed w = absurd w
  prints_counts counts ended served endings.SinkFailed w = (w.0, (served_line counts, inr (inl (counts, served, refl)), w.1))
  prints_counts counts ended served endings.DiskFailed w = absurd w
  prints_counts counts ended served endings.LinkFailed w = absurd w
  prints_counts counts ended served endings.Memory w = inr (served_line counts, inr (inl (counts, served, refl)), w)
  prints_counts counts ended served endings.PastLimit w = absurd (let q : endings.Done ≡ endings.PastLimit = w.0 in cc)
  prints_counts counts ended served endings.NoReading w = absurd (let q : endings.Done ≡ endings.NoReading = w.0 in cc)

  -- it is told that its turns are over
  prints_turns : (link.inward link.after).calls ≡ calls_after task.turns (link.inward link.before).calls → (link.inward link.after).ended ≡ (link.inward link.before).ended → Served task r link (Err ends.Turns) →
      (e : Ending) → WritesOutput e r.sink (output_of_fault (printed.Turns task.turns)) → Comes e
  prints_turns calls none served endings.Done w = absurd (let q : endings.PastLimit ≡ endings.Done = w.0 in cc)
  prints_turns calls none served endings.NotValid w = absurd (let q : endings.PastLimit ≡ endings.NotValid = w.0 in cc)
  prints_turns calls none served endings.OtherWords w = absurd (let q : endings.PastLimit ≡ endings.OtherWords = w.0 in cc)
  prints_turns calls none served endings.SourceFailed w = absurd w
  prints_turns calls none served endings.SinkFailed w = (w.0, (fault_line (printed.Turns task.turns), inr (inr (served, refl)), w.1))
  prints_turns calls none served endings.DiskFailed w = absurd w
  prints_turns calls none served endings.LinkFailed w = absurd w
  prints_turns calls none served endings.Memory w = inr (fault_line (printed.Turns task.turns), inr (inr (served, refl)), w)
  prints_turns calls none served endings.PastLimit w = (calls, none, served, w.1)
  prints_turns calls none served endings.NoReading w = absurd (let q : endings.PastLimit ≡ endings.NoReading = w.0 in cc)

  -- nothing is reported, and the run ends so
  abbrev Quiet : Ending → Ending → Type 0
  Quiet e ending = (e ≡ ending) × Keeps r.sink.held r.sink.holds

  -- it didn't begin
  pub stops_so : (stop : NodeError) (e : Ending) → NotServed task r link → ((stop ≢ stops.DiskFailed) → (stop ≢ stops.Memory) → IsTrue r.disk.honest → OpensAsBefore (r.disk.bytes r.disk.before) (r.disk.bytes r.disk.after)) →
      ((fault : BeginFault) → stop ≡ stops.Refused fault → OfBeginning task r link (λ opens given. beginning_of opens given ≡ Err fault)) →
      (stop ≡ stops.SourceFailed → Rose r.source.faults r.source.faults_now) →
      (stop ≡ stops.DiskFailed → Rose (r.disk.faults r.disk.before) (r.disk.faults r.disk.after)) →
      ((fault : BeginFault) → stop ≡ stops.Refused fault → WritesOutput e r.sink (output_of_fault (printed.Opening fault))) →
      (stop ≡ stops.SourceFailed → Quiet e endings.SourceFailed) →
      (stop ≡ stops.DiskFailed → Quiet e endings.DiskFailed) →
      (stop ≡ stops.Memory → Quiet e endings.Memory) → Comes e
  stops_so (stops.Refused fault) e served file refused source disk prints prints_source prints_disk prints_memory =
      prints_refusal fault (refused fault refl, record { served = served; file = file (λ is. cc) (λ is. cc) }) e (prints fault refl)
  stops_so stops.SourceFailed e served file refused source disk prints prints_source prints_disk prints_memory =
      let q = prints_source refl in subst Comes (sym q.0) (source refl, record { served = served; file = file (λ is. cc) (λ is. cc) }, q.1)
  stops_so stops.DiskFailed e served file refused source disk prints prints_source prints_disk prints_memory =
      let q = prints_disk refl in subst Comes (sym q.0) (disk refl, inl served, q.1)
  stops_so stops.Memory e served file refused source disk prints prints_source prints_disk prints_memory =
      let q = prints_memory refl in subst Comes (sym q.0) (inl (inl served, q.1))

  -- it served
  pub serves_so : (end : Result (ℕ × ℕ) ServeEnd) (e : Ending) → Served task r link end →
      (link.inward link.after).ended ≡ ((link.inward link.before).ended || is_ok end) →
      (end ≡ Err ends.Turns → (link.inward link.after).calls ≡ calls_after task.turns (link.inward link.before).calls) →
      (end ≡ Err ends.LinkFailed → Rose (link.inward link.before).faults (link.inward link.after).faults) →
      (end ≡ Err ends.Stopped → Rose (r.disk.faults r.disk.before) (r.disk.faults r.disk.after)) →
      ((counts : ℕ × ℕ) → end ≡ Ok counts → WritesOutput e r.sink (output_of_answer (served_line counts))) →
      (end ≡ Err ends.Turns → WritesOutput e r.sink (output_of_fault (printed.Turns task.turns))) →
      (end ≡ Err ends.LinkFailed → Quiet e endings.LinkFailed) →
      (end ≡ Err ends.Stopped → Quiet e endings.DiskFailed) →
      (end ≡ Err ends.NoMemory → Quiet e endings.Memory) → Comes e
  serves_so (Ok counts) e served ended calls failed disk prints prints_turned prints_link prints_stop prints_memory =
      prints_counts counts (ends_true (link.inward link.before).ended (link.inward link.after).ended ended) served e (prints counts refl)
  serves_so (Err ends.Turns) e served ended calls failed disk prints prints_turned prints_link prints_stop prints_memory =
      prints_turns (calls refl) (ends_same (link.inward link.before).ended (link.inward link.after).ended ended) served e (prints_turned refl)
  serves_so (Err ends.LinkFailed) e served ended calls failed disk prints prints_turned prints_link prints_stop prints_memory =
      let q = prints_link refl in subst Comes (sym q.0) (failed refl, served, q.1)
  serves_so (Err ends.Stopped) e served ended calls failed disk prints prints_turned prints_link prints_stop prints_memory =
      let q = prints_stop refl in subst Comes (sym q.0) (disk refl, inr served, q.1)
  serves_so (Err ends.NoMemory) e served ended calls failed disk prints prints_turned prints_link prints_stop prints_memory =
      let q = prints_memory refl in subst Comes (sym q.0) (inl (inr served, q.1))
