use Rattle.std.proofs.Common.{◌≡◌, ◌++◌, take}
use Rattle.std.specs.List.{flat_map}
use Rattle.gl_snapshot_body.proofs.encode.put_digests.Given as goal

-- what is written so far
abbrev pub invariant-loop-peak : goal.invariant-loop-peak
invariant-loop-peak l = l.out.items ≡ l.fn.out.items ++ flat_map (λ peak. peak) (take l.peak-index l.peaks)
