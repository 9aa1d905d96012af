-- The service of a schedule, and which texts are schedules.
use Rattle.std.specs.Prelude.{ℕ, List, [], ◌∷◌, Result, Ok, Err, Bool, true, not, ◌&&◌, length, ◌==◌, if◌then◌else◌}
use Rattle.std.specs.List.{list_any}
use Rattle.gl_base.specs.Bytes.{same_bytes}
use Rattle.gl_rules.specs.Identity.{NodeId}
use Rattle.gl_requests.specs.declared.genesis.ServiceState.TheVariants.{Opening, Open}
use Rattle.gl_lines.specs.declared.world.WorldLine.{WorldLine}
use Rattle.gl_base.specs.Steps.{◌>>=◌}
use Rattle.gl_lines.specs.declared.fault.ScheduleFault.{ScheduleFault}
use Rattle.gl_lines.specs.declared.fault.ScheduleFault.TheVariants.{BadLine}
use Rattle.gl_lines.specs.Parsing.{first_line, lines_after}
use Rattle.gl_world.specs.declared.settings.Settings.{Settings}
use Rattle.gl_world.specs.Founding.{has_distinct_keys, node_ids}
use Rattle.gl_schedule.specs.declared.schedule.Schedule.{Schedule}
use Rattle.gl_schedule.specs.declared.schedule.Schedule.TheVariants.{Empty, Service}

abbrev pub settings_of : WorldLine → Settings
settings_of world = record {
  starting = world.starting;
  joiners = world.joiners;
  members = world.members;
  state = if world.is_open then Open else Opening;
  seed = world.seed;
}

-- No two of these identifiers are one.
abbrev pub are_apart : List NodeId → Bool
are_apart [] = true
are_apart (x ∷ xs) = not (list_any (λ y. same_bytes y x) xs) && are_apart xs

-- No two nodes have one identifier, of those that start and those that join.
abbrev pub has_distinct_ids : Settings → Bool
has_distinct_ids s = are_apart (node_ids s)

-- The service that a first line begins. A seed that gives two members one key, or two nodes one
-- identifier, begins none.
abbrev pub service_of : WorldLine → Result Settings ScheduleFault
service_of world =
    if has_distinct_keys (settings_of world) && has_distinct_ids (settings_of world)
    then Ok (settings_of world)
    else Err (BadLine 1)

-- The schedule that a text is, or the number of its first bad line, from 1. No bytes are a schedule
-- without a service.
unfoldable pub reads : List ℕ → Result Schedule ScheduleFault
reads text =
    if length text == 0 then Ok Empty
    else (first_line text >>= λ first. service_of first.0 >>= λ settings.
    lines_after (node_ids settings) first.1 >>= λ lines. Ok (Service settings lines))
