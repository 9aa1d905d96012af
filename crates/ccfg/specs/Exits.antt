-- How a run of a command ends, by what it owes: said once for all commands but `node` and `load`.
use Rattle.std.specs.Prelude.{◌≡◌, ℕ, List, true}
use Rattle.std.specs.Io.KnownBytes.{Keeps}
use Rattle.gl_entry.specs.SourceBytes.{OfBytes}
use Rattle.gl_outside.specs.Fault.{Rose}
use Rattle.ccfg.specs.ExpectedOutput.{Due, EndsSource, OfDue, OfShown, Output, Shown, WritesOutput}
use Rattle.ccfg.specs.Run.{Run}
use Rattle.ccfg.specs.declared.ending.Ending.{Ending}
use Rattle.ccfg.specs.declared.ending.Ending.TheVariants as endings

-- 3 and 5: the source or the disk failed, by its count of faults, and nothing was written. 4: the
-- sink failed, by its count of faults; then, and at 7, a prefix of the text was written. 0, 1, 2, 8
-- and 9: this is the ending that is due, and exactly its text was written; the source gave its end
-- at 0, and at 1, 8 and 9 where it is read whole before. 6: never. No task's output ends with 2.
abbrev pub Exits : {S D : Type 0} → Run S D → Ending → Output → Type 0
Exits r endings.SourceFailed output =
    Rose r.source.faults r.source.faults_now × Keeps r.sink.held r.sink.holds
Exits r endings.DiskFailed output =
    Rose (r.disk.faults r.disk.before) (r.disk.faults r.disk.after)
    × Keeps r.sink.held r.sink.holds
Exits r endings.LinkFailed output = ⊥
Exits r endings.SinkFailed output = WritesOutput endings.SinkFailed r.sink output
Exits r endings.Memory output = WritesOutput endings.Memory r.sink output
Exits r endings.OtherWords output = WritesOutput endings.OtherWords r.sink output
Exits r endings.Done output =
    (r.source.ended ≡ true) × WritesOutput endings.Done r.sink output
Exits r endings.NotValid output =
    EndsSource output r.source.ended × WritesOutput endings.NotValid r.sink output
Exits r endings.PastLimit output =
    EndsSource output r.source.ended × WritesOutput endings.PastLimit r.sink output
Exits r endings.NoReading output =
    EndsSource output r.source.ended × WritesOutput endings.NoReading r.sink output

-- The run ends so where this output is due for the bytes that its source gives,
abbrev pub ExitsBy : {S D : Type 0} → Run S D → Ending → (List ℕ → Output) → Type 0
ExitsBy r e expected = OfBytes r.source.given (λ given. Exits r e (expected given))

-- and where it is due for what its disk showed, and these bytes.
abbrev pub ExitsByDisk : {S D : Type 0} → Run S D → Ending → (Shown → List ℕ → Output) → Type 0
ExitsByDisk r e expected =
    OfShown r.disk.honest (r.disk.bytes r.disk.before) (λ shown. ExitsBy r e (expected shown))

-- So it is of what is due to a task, by its source alone or by its disk too.
abbrev pub ExitsAsDue : {S D : Type 0} → Run S D → Ending → Due → Type 0
ExitsAsDue r e due =
    OfDue due r.disk.honest (r.disk.bytes r.disk.before) r.source.given (Exits r e)
