use Rattle.std.proofs.Common.{◌≡◌, ◌≤◌, ◌++◌, drop, reverse}
use Rattle.gl_merkle.specs.Levels.{nodes_of, HoldFirst, level_peaks}
use Rattle.gl_merkle.proofs.levels.peaks_of_levels.Given as goal

abbrev pub invariant-loop-level : goal.invariant-loop-level
invariant-loop-level l = record {
  peaks : level_peaks (nodes_of l.levels) l.fn.base l.fn.size ≡ level_peaks (nodes_of (drop l.level-index l.levels)) l.base l.size ++ reverse l.peaks.items;
  from_base : l.base ≤ l.size;
  within : HoldFirst l.base l.size (nodes_of (drop l.level-index l.levels));
}
