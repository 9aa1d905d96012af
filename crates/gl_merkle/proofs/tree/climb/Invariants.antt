use Rattle.std.proofs.Common.{◌≡◌, take}
use Rattle.gl_merkle.specs.Path.{climb_of}
use Rattle.gl_merkle.proofs.tree.climb.Given as goal

abbrev pub invariant-loop-step : goal.invariant-loop-step
invariant-loop-step l = l.node ≡ climb_of l.fn.leaf (take l.step-index l.steps)
