use Rattle.std.proofs.Common.{◌≡◌, ℕ, ◌-◌, ◌^◌, ◌<◌}
use Rattle.gl_merkle.proofs.tree.split_of.Given as goal

abbrev pub invariant-loop-width : goal.invariant-loop-width
invariant-loop-width l = record { below : l.width < l.count; power : (k : ℕ) × (l.width ≡ 2 ^ k) }

abbrev pub decreases-loop-width : goal.decreases-loop-width
decreases-loop-width l = l.count - l.width
