use Rattle.std.proofs.Common.{◌≡◌, ◌-◌, ◌++◌, length, count_ones}
use Rattle.gl_merkle.specs.Levels.{nodes_of, base_levels}
use Rattle.gl_merkle.proofs.levels.make_levels.Given as goal

abbrev pub invariant-loop-height : goal.invariant-loop-height
invariant-loop-height l = record {
  nodes : base_levels 64 l.fn.base l.fn.peaks ≡ nodes_of l.levels.items ++ base_levels (64 - l._height) l.base l.peaks;
  count : length l.peaks ≡ count_ones l.base;
}
