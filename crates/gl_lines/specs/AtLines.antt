-- What stops the reading of a schedule at a line.
use Rattle.std.specs.Prelude.{◌≡◌, ℕ}
use Rattle.gl_base.specs.declared.or_no_memory.OrNoMemory.{OrNoMemory}
use Rattle.gl_base.specs.declared.or_no_memory.OrNoMemory.TheVariants.{NoMemory, Fault}
use Rattle.gl_lines.specs.declared.fault.LineFault.{LineFault}
use Rattle.gl_lines.specs.declared.fault.ScheduleFault.{ScheduleFault}
use Rattle.gl_lines.specs.declared.fault.ScheduleFault.TheVariants.{BadLine}

-- The line with this number says nothing, or memory ran out.
abbrev pub AtLine : ℕ → OrNoMemory LineFault → OrNoMemory ScheduleFault → Type 0
AtLine number NoMemory stop = stop ≡ NoMemory
AtLine number (Fault fault) stop = stop ≡ Fault (BadLine number)
