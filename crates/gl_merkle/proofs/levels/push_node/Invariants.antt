use Rattle.std.proofs.Common.{◌≡◌, ◌++◌, take, drop}
use Rattle.gl_merkle.specs.Levels.{nodes_of, rooms_of, HasRoom, with_node}
use Rattle.gl_merkle.proofs.levels.push_node.Given as goal

abbrev pub invariant-loop-level : goal.invariant-loop-level
invariant-loop-level l = record {
  nodes : with_node (nodes_of l.initial.levels) l.fn.leaf ≡ nodes_of (take l.level-index l.levels) ++ with_node (nodes_of (drop l.level-index l.levels)) l.node;
  rooms : rooms_of l.levels ≡ rooms_of l.initial.levels;
  room : HasRoom (drop l.level-index l.levels);
}
