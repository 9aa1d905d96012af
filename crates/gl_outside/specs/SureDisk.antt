-- A disk in memory as its record tells it.
use Rattle.std.specs.Prelude.{List}
use Rattle.gl_outside.specs.Disk.{Step}
use Rattle.gl_outside.specs.Record.{past_of}
use Rattle.gl_outside.specs.declared.sure_disk.SureDisk.{SureDisk}

-- What was done to it, the newest step first.
abbrev pub disk_past : SureDisk → List Step
disk_past disk = past_of disk.first.items disk.pieces.items disk.calls.items
