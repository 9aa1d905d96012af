use Rattle.std.proofs.Common.{◌≡◌, ◌-◌}
use Rattle.gl_hss.specs.Ots.{steps}
use Rattle.gl_hss.specs.Steps.{step_prefix, step_value}
use Rattle.gl_hss.proofs.ots.steps.Given as goal

abbrev pub invariant-loop-j : goal.invariant-loop-j
invariant-loop-j l =
    (step_prefix l.input ≡ step_prefix l.fn.input)
    × (step_value l.input ≡ steps (step_prefix l.fn.input) l.from (l.j - l.from) (step_value l.fn.input))
