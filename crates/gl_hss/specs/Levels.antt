-- The number of levels of an HSS key.
use Rattle.std.specs.Prelude.{ℕ, Option, Some, None, ◌==◌, if◌then◌else◌}
use Rattle.gl_hss.specs.declared.levels.Levels.{Levels}
use Rattle.gl_hss.specs.declared.levels.Levels.TheVariants.{One, Two}

-- L (RFC 8554, 6.1)
abbrev pub level_count : Levels → ℕ
level_count One = 1
level_count Two = 2

-- the levels of this number, if there are such
abbrev pub levels_named : ℕ → Option Levels
levels_named n = if n == 1 then Some One else (if n == 2 then Some Two else None)
