-- A schedule with the keys of its service.
use Rattle.std.specs.Prelude.{◌≡◌, List, Option, None, Some}
use Rattle.gl_lines.specs.declared.line.Line.{Line}
use Rattle.gl_world.specs.declared.service_keys.ServiceKeys.{ServiceKeys}
use Rattle.gl_world.specs.declared.settings.Settings.{Settings}
use Rattle.gl_world.specs.Keyed.{HasKeysOf}
use Rattle.gl_schedule.specs.declared.schedule.Schedule.{Schedule}
use Rattle.gl_schedule.specs.declared.schedule.Schedule.TheVariants.{Empty, Service}

-- Where a schedule has a service, these are its keys.
abbrev pub HoldsKeys : Schedule → Option ServiceKeys → Type 0
HoldsKeys Empty keys = Unit {0}
HoldsKeys (Service settings lines) None = ⊥
HoldsKeys (Service settings lines) (Some keys) = HasKeysOf settings keys

-- The service of a schedule, its lines and its keys.
abbrev pub IsServiceOf : Schedule → Option (Settings × List Line × ServiceKeys) → Type 0
IsServiceOf schedule None = schedule ≡ Empty
IsServiceOf schedule (Some service) =
    (schedule ≡ Service service.0 service.1) × HasKeysOf service.0 service.2
