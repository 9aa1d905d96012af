use Rattle.std.proofs.Common.{[], List, map, sym, ap, subst, ◌∙◌}
use Rattle.std.specs.List.{AllByRecursion}
use Rattle.std.proofs.lemmas.List.{take_more}
use Rattle.serde_json.specs.View.{view}
use Rattle.gl_merkle.specs.declared.tree.Step.{Step}
use Rattle.gl_merkle.specs.declared.tree.Step.TheVariants.{Left}
use Rattle.gl_receipt.specs.Ranges.{HasDigest}
use Rattle.gl_receipt.specs.Tree.{step_tree}
use Rattle.gl_receipt.proofs.StepLemmas.{all_more, trees_more}
use Rattle.gl_receipt.proofs.tree.proof_tree.Goals as goal

pub loop-step-preserved : goal.loop-step-preserved
loop-step-preserved c =
    let more = take_more c.args.steps.now c.loop-step.step-index (Left []) c.loop-step-test.true in
    let one = trees_more c.loop-step.items.items c.in_ok-step_tree.field-0 _ _ c.loop-step.invariant.trees c.in_ok-step_tree.ensures.tree in
    let all = all_more _ _ c.loop-step.invariant.digests c.in_ok-step_tree.ensures.digest in
    record {
      trees = ap (map view) c.in_ok-push.ensures.items ∙ one ∙ ap (map step_tree) (sym more);
      digests = subst (λ (steps : List Step). AllByRecursion HasDigest steps) (sym more) all;
    }
