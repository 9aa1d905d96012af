-- What every first line keeps to.
use Rattle.std.specs.Prelude.{◌≤◌}
use Rattle.gl_lines.specs.declared.world.WorldLine.{WorldLine}

-- 1 to 9 nodes start, at most 9 join, and 1 to 64 members govern the service.
pub record IsWithinLimits (world : WorldLine) : Type 0 where
  pub some_start : 1 ≤ world.starting
  pub few_start : world.starting ≤ 9
  pub few_join : world.joiners ≤ 9
  pub some_govern : 1 ≤ world.members
  pub few_govern : world.members ≤ 64
