use Rattle.std.proofs.Common.{◌≡◌, ℕ, ◌≤◌, ◌++◌, List, take}
use Rattle.std.specs.List.{AllZip}
use Rattle.gl_merkle.specs.Levels.{nodes_of, rooms_of, AreRoomy}
use Rattle.gl_merkle.proofs.levels.reserve_levels.Given as goal

abbrev pub invariant-loop-level : goal.invariant-loop-level
invariant-loop-level l = record {
  nodes : nodes_of l.levels ≡ nodes_of l.initial.levels;
  grown : AllZip ◌≤◌ (rooms_of l.initial.levels) (rooms_of l.levels);
  room : (rest : List ℕ) → AreRoomy l.base l.limit rest → AreRoomy l.fn.base l.fn.limit (rooms_of (take l.level-index l.levels) ++ rest);
}
