use Rattle.std.proofs.Common.{◌≡◌, ◌-◌, refl, sym, ap₂, ◌∙◌, arith, List, ℕ}
use Rattle.gl_hss.specs.Ots.{step}
use Rattle.gl_hss.specs.Steps.{step_prefix, step_value}
use Rattle.gl_hss.proofs.Chains.{steps-none, steps-more}
use Rattle.gl_hss.proofs.ots.steps.Goals as goal

pub loop-j-init : goal.loop-j-init
loop-j-init c =
    let none : c.args.from - c.args.from ≡ 0 = omega arith in
    (refl, rw none (sym (steps-none (step_prefix c.args.input.now) c.args.from (step_value c.args.input.now))))

pub loop-j-preserved : goal.loop-j-preserved
loop-j-preserved c =
    let more = steps-more (step_prefix c.args.input.now) c.args.from c.loop-j.j (step_value c.args.input.now) c.loop-j.auto.j in (
      c.step.ensures.prefix ∙ c.loop-j.invariant.0,
      c.step.ensures.value ∙ ap₂ (λ (p v : List ℕ). step p c.loop-j.j v) c.loop-j.invariant.0 c.loop-j.invariant.1 ∙ sym more,
    )

pub returns-clause-value : goal.returns-clause-value
returns-clause-value c =
    let there : c.loop-j.j ≡ c.args.to = omega arith in
    rw (← there) c.loop-j.invariant.1
