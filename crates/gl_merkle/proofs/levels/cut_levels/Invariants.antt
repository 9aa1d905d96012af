use Rattle.std.proofs.Common.{◌≡◌, ◌++◌, take, drop}
use Rattle.gl_merkle.specs.Levels.{nodes_of, rooms_of, cut_to}
use Rattle.gl_merkle.proofs.levels.cut_levels.Given as goal

abbrev pub invariant-loop-level : goal.invariant-loop-level
invariant-loop-level l = record {
  nodes : cut_to l.fn.base l.fn.to (nodes_of l.initial.levels) ≡ nodes_of (take l.level-index l.levels) ++ cut_to l.base l.to (nodes_of (drop l.level-index l.levels));
  rooms : rooms_of l.levels ≡ rooms_of l.initial.levels;
}
