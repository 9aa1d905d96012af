use Rattle.std.proofs.Common.{arith}
use Rattle.gl_outside.proofs.Plans.{fault_count-next, fault_count-most}
use Rattle.gl_outside.proofs.fault_plan.FaultPlan.faults.Goals as goal

pub overflow_add-faults : goal.overflow_add-faults
overflow_add-faults c = omega (arith, fault_count-most c.args.self.now.failing.now c.loop-before.before)

pub loop-before-preserved : goal.loop-before-preserved
loop-before-preserved c =
    let next = fault_count-next c.args.self.now.failing.now c.loop-before.before in
    grind (arith, next)
