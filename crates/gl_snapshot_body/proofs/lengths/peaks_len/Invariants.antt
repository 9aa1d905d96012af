use Rattle.std.proofs.Common.{◌≡◌, ◌≤◌, ◌*◌, length, take}
use Rattle.std.specs.List.{flat_map}
use Rattle.gl_snapshot_body.proofs.lengths.peaks_len.Given as goal

-- the length of the peaks so far, which is within a limit
abbrev pub invariant-loop-peak : goal.invariant-loop-peak
invariant-loop-peak l = record {
  exact : l.len ≡ length (flat_map (λ peak. peak) (take l.peak-index l.peaks));
  limit : l.len ≤ l.peak-index * 32;
}
