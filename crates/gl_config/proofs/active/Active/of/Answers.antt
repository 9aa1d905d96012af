use Rattle.std.proofs.Common.{[], sym, ◌∙◌, arith}
use Rattle.gl_config.proofs.Skips.{active_of-rest, active_of-end}
use Rattle.gl_config.proofs.active.Active.of.Goals as goal
use Rattle.gl_config.proofs.active.Active.of.Goals.{then-loop-rest-test+else-rest-commit, else-loop-rest-test}

pub loop-rest-preserved : goal.loop-rest-preserved
loop-rest-preserved c =
    let next = active_of-rest c.loop-rest.rest.now c.args.commit _ c.loop-rest.invariant.0 c.loop-rest-test.true c.if-rest-commit.true in
    (next.0, next.1 ∙ c.loop-rest.invariant.1)

pub returns : goal.returns
returns c =
    elim c.loop-rest-test.branch [
      | then-loop-rest-test+else-rest-commit w ↦ sym (active_of-end c.loop-rest.rest.now c.args.commit _ c.loop-rest.invariant.0 (λ more. w.if-rest-commit.false)) ∙ c.loop-rest.invariant.1
      | else-loop-rest-test w ↦ sym (active_of-end c.loop-rest.rest.now c.args.commit (record { seqno = 0; nodes = [] }) c.loop-rest.invariant.0 (λ more. absurd (omega arith))) ∙ c.loop-rest.invariant.1
    ]
