use Rattle.std.proofs.Common.{◌≡◌, ◌≤◌, ◌++◌, None, drop}
use Rattle.gl_merkle.specs.Levels.{nodes_of, HoldFirst, steps_of}
use Rattle.gl_merkle.proofs.levels.steps_from.Given as goal

abbrev pub invariant-loop-level : goal.invariant-loop-level
invariant-loop-level l = record {
  steps : steps_of (nodes_of l.levels) l.fn.base l.fn.size l.fn.place None ≡ l.steps.items ++ steps_of (nodes_of (drop l.level-index l.levels)) l.base l.size l.place l.tail;
  from_base : l.base ≤ l.place;
  inside : l.place ≤ l.size;
  within : HoldFirst l.base l.size (nodes_of (drop l.level-index l.levels));
}
