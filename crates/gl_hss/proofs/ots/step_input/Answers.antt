use Rattle.std.proofs.Common.{◌∙◌, arith}
use Rattle.gl_hss.proofs.StepInputs.{prefix-of_parts, value-of_parts}
use Rattle.gl_hss.proofs.ots.step_input.Goals as goal

pub returns-clause-prefix : goal.returns-clause-prefix
returns-clause-prefix c =
    prefix-of_parts c.copy_from_slice.new.self c.split_at_mut-end.result.0.now c.copy_from_slice-2.new.self (omega arith)
    ∙ c.copy_from_slice.ensures.after

pub returns-clause-value : goal.returns-clause-value
returns-clause-value c =
    value-of_parts c.copy_from_slice.new.self c.split_at_mut-end.result.0.now c.copy_from_slice-2.new.self (omega arith) (omega arith)
    ∙ c.copy_from_slice-2.ensures.after
