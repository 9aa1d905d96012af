-- What every schedule that is read keeps to.
use Rattle.std.specs.List.{AllByRecursion}
use Rattle.gl_lines.specs.Kept.{IsFit}
use Rattle.gl_world.specs.Group.{IsGroup}
use Rattle.gl_schedule.specs.declared.schedule.Schedule.{Schedule}
use Rattle.gl_schedule.specs.declared.schedule.Schedule.TheVariants.{Empty, Service}

-- The service of a schedule, if it has one, is one that there may be, and each line is one that may
-- be read.
abbrev pub IsPlayable : Schedule → Type 0
IsPlayable Empty = Unit {0}
IsPlayable (Service settings lines) = IsGroup settings × AllByRecursion IsFit lines
