use Rattle.std.proofs.Common.{◌≡◌, ◌-◌, ◌*◌, ◌^◌, ◌≤◌}
use Rattle.gl_hss.specs.Types.{width}
use Rattle.gl_hss.specs.Ots.{digit_sum}
use Rattle.gl_hss.proofs.ots.digit_sum.Given as goal

abbrev pub invariant-loop-i : goal.invariant-loop-i
invariant-loop-i l = (l.sum ≡ digit_sum l.digest (width l.types) l.i) × (l.sum ≤ (2 ^ width l.types - 1) * l.i)
