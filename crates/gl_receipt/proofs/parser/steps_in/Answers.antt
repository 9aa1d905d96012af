use Rattle.std.proofs.Common.{◌≡◌, ℕ, suc, ◌+◌, List, [], ◌∷◌, ◌++◌, drop, vec_len, sym, ap, subst, ◌∙◌, arith}
use Rattle.std.proofs.lemmas.List.{drop_all}
use Rattle.std.proofs.lemmas.Result.{err_from_is_err_and}
use Rattle.serde_json.specs.View.{view, items_view}
use Rattle.gl_base.specs.Answers.{Fails}
use Rattle.gl_merkle.specs.declared.tree.Step.{Step}
use Rattle.gl_receipt.specs.Form.{step_in, steps_from}
use Rattle.gl_receipt.proofs.StepLemmas.{after, values_at, steps_more, steps_stop, steps_end}
use Rattle.gl_receipt.proofs.parser.steps_in.Goals as goal

pub returns-in_err-step : goal.returns-in_err-step
returns-in_err-step c =
    let p = err_from_is_err_and c.from_residual.result c.from_residual.ensures.1 in
    let values = values_at c.args.values.now c.loop-value.value-index c.value-item.result c.loop-value-test.true c.value-item.is in
    let whole = rw values at c.loop-value.invariant.reads in
    let fails = subst (λ (n : ℕ). Fails c.in_err-step.field-0.0 (step_in n (view c.value-item.result))) c.len.ensures c.in_err-step.ensures in
    rw (p.1, p.2) (steps_stop _ c.loop-value.steps.items (vec_len c.loop-value.steps) _ _ _ fails whole)

pub loop-value-preserved : goal.loop-value-preserved
loop-value-preserved c =
    let values = values_at c.args.values.now c.loop-value.value-index c.value-item.result c.loop-value-test.true c.value-item.is in
    let whole = rw values at c.loop-value.invariant.reads in
    let rest = items_view (drop (c.loop-value.value-index + 1) c.args.values.now) in
    let read = ap (λ (n : ℕ). step_in n (view c.value-item.result)) (sym c.len.ensures) ∙ c.in_ok-step.ensures in
    let more = whole ∙ steps_more c.loop-value.steps.items (vec_len c.loop-value.steps) c.in_ok-step.step (view c.value-item.result) rest read in
    let len : suc (vec_len c.loop-value.steps) ≡ vec_len c.push.new.self = omega (arith, c.in_ok-push.ensures.len) in
    record {
      count = omega (arith, c.in_ok-push.ensures.len, c.loop-value.invariant.count);
      reads = more ∙ ap (λ (n : ℕ). after (c.loop-value.steps.items ++ c.in_ok-step.step ∷ []) (steps_from n rest)) len
          ∙ ap (λ (steps : List Step). after steps (steps_from (vec_len c.push.new.self) rest)) (sym c.in_ok-push.ensures.items);
    }

pub returns : goal.returns
returns c =
    let none = ap items_view (drop_all c.loop-value.value-index c.args.values.now c.loop-value-test.false) in
    steps_end c.loop-value.steps.items (vec_len c.loop-value.steps) _ (rw none at c.loop-value.invariant.reads)
