use Rattle.std.proofs.Common.{◌+◌, sym, arith}
use Rattle.std.proofs.lemmas.List.{get_or_default}
use Rattle.gl_outside.proofs.Plans.{none_above}
use Rattle.gl_outside.proofs.fault_plan.is_next_chosen.Goals as goal

pub returns-in-None-clause-chosen : goal.returns-in-None-clause-chosen
returns-in-None-clause-chosen c =
    sym (none_above c.args.failing.now (c.args.calls + 1)
    (λ k d inside. omega (arith, c.type_inv.failing k, get_or_default c.args.failing.now k d 0 inside, c.in-None.ensures)))
