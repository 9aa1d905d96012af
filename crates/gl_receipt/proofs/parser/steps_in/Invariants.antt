use Rattle.std.proofs.Common.{◌≡◌, drop, vec_len}
use Rattle.serde_json.specs.View.{items_view}
use Rattle.gl_receipt.specs.Form.{steps_from}
use Rattle.gl_receipt.proofs.StepLemmas.{after}
use Rattle.gl_receipt.proofs.parser.steps_in.Given as goal

-- so many elements are read as there are steps, and the others after them
abbrev pub invariant-loop-value : goal.invariant-loop-value
invariant-loop-value l = record {
  count : vec_len l.steps ≡ l.value-index;
  reads : steps_from 0 (items_view l.values) ≡ after l.steps.items (steps_from (vec_len l.steps) (items_view (drop l.value-index l.values)));
}
