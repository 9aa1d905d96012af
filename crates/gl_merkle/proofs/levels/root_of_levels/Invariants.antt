use Rattle.std.proofs.Common.{◌≡◌, ◌≤◌, None, drop}
use Rattle.gl_merkle.specs.Levels.{nodes_of, HoldFirst, tail_of}
use Rattle.gl_merkle.proofs.levels.root_of_levels.Given as goal

abbrev pub invariant-loop-level : goal.invariant-loop-level
invariant-loop-level l = record {
  tail : tail_of (nodes_of l.levels) l.fn.base l.fn.size None ≡ tail_of (nodes_of (drop l.level-index l.levels)) l.base l.size l.tail;
  from_base : l.base ≤ l.size;
  within : HoldFirst l.base l.size (nodes_of (drop l.level-index l.levels));
}
