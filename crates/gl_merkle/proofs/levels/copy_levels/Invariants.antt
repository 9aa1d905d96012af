use Rattle.std.proofs.Common.{◌≡◌, take}
use Rattle.gl_merkle.specs.Levels.{nodes_of}
use Rattle.gl_merkle.proofs.levels.copy_levels.Given as goal

abbrev pub invariant-loop-level : goal.invariant-loop-level
invariant-loop-level l = nodes_of l.copied.items ≡ nodes_of (take l.level-index l.levels)
