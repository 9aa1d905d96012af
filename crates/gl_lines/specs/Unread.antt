-- A text that has another form says nothing.
use Rattle.std.specs.Prelude.{◌≡◌}
use Rattle.gl_base.specs.declared.json.FormsFault.{FormsFault}
use Rattle.gl_base.specs.declared.or_no_memory.OrNoMemory.{OrNoMemory}
use Rattle.gl_base.specs.declared.or_no_memory.OrNoMemory.TheVariants.{NoMemory, Fault}
use Rattle.gl_lines.specs.declared.fault.LineFault.{LineFault}
use Rattle.gl_lines.specs.declared.fault.LineFault.TheVariants.{NoReading}

-- It has another form, and so no reading, or memory ran out.
abbrev pub IsUnread : OrNoMemory FormsFault → OrNoMemory LineFault → Type 0
IsUnread NoMemory stop = stop ≡ NoMemory
IsUnread (Fault fault) stop = stop ≡ Fault NoReading
