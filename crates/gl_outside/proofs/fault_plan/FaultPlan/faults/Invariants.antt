use Rattle.std.proofs.Common.{◌≡◌}
use Rattle.gl_outside.specs.Plan.{fault_count}
use Rattle.gl_outside.proofs.fault_plan.FaultPlan.faults.Given as goal

abbrev pub invariant-loop-before : goal.invariant-loop-before
invariant-loop-before l = l.faults ≡ fault_count l.self.failing.now l.before
