-- The text and the headline speak of the same events.
use Rattle.std.specs.Prelude.{◌≡◌, ℕ, List, Result, Ok, Err, take}
use Rattle.gl_rules.specs.World.{after}
use Rattle.gl_world.specs.declared.settings.Settings.{Settings}
use Rattle.gl_world.specs.Service.{ServiceEvent}
use Rattle.gl_world.specs.Group.{book_of}
use Rattle.gl_world.specs.Headline.{Headline}
use Rattle.gl_world.specs.World.{ServiceWorld, start_of}
use Rattle.gl_lines.specs.declared.fault.ScheduleFault.{ScheduleFault}
use Rattle.gl_lines.specs.declared.line.Line.{Line}
use Rattle.gl_schedule.specs.declared.schedule.Schedule.{Schedule}
use Rattle.gl_schedule.specs.declared.schedule.Schedule.TheVariants.{Empty, Service}
use Rattle.gl_schedule.specs.Output.{output_of}

-- A world that the service comes to by some of these events, from the first on.
abbrev pub IsMoment : Settings → List ServiceEvent → ServiceWorld → Type 0
IsMoment s events w = (i : ℕ) × (w ≡ after (book_of s) (start_of s) (take i events))

-- After any number of lines, the world is one that the service comes to by some prefix of the
-- events of all lines.
abbrev pub IsPrintedInMoments : Settings → List Line → Type 0
IsPrintedInMoments s lines =
    (k : ℕ) → IsMoment s (output_of s lines).events (output_of s (take k lines)).world

-- Where bytes are a schedule with a service, each line of it is told in a moment.
abbrev pub PrintsMoments : Result Schedule ScheduleFault → Type 0
PrintsMoments (Err fault) = Unit {0}
PrintsMoments (Ok Empty) = Unit {0}
PrintsMoments (Ok (Service settings lines)) = IsPrintedInMoments settings lines

-- What is promised of the service of a schedule, over the same events.
abbrev pub KeepsHeadline : Result Schedule ScheduleFault → Type 0
KeepsHeadline (Err fault) = Unit {0}
KeepsHeadline (Ok Empty) = Unit {0}
KeepsHeadline (Ok (Service settings lines)) = Headline settings (output_of settings lines).events
