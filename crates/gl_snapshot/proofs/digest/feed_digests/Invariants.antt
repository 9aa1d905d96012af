use Rattle.std.proofs.Common.{take}
use Rattle.std.specs.List.{flat_map}
use Rattle.gl_entry.specs.Leaf.{Feeds}
use Rattle.gl_snapshot.proofs.digest.feed_digests.Given as goal

-- what was fed so far
abbrev pub invariant-loop-peak : goal.invariant-loop-peak
invariant-loop-peak l = Feeds l.fn.hasher l.hasher (flat_map (λ peak. peak) (take l.peak-index l.peaks))
