use Rattle.std.proofs.Common.{◌≡◌, map, take}
use Rattle.std.specs.List.{AllByRecursion}
use Rattle.serde_json.specs.View.{view}
use Rattle.gl_receipt.specs.Ranges.{HasDigest}
use Rattle.gl_receipt.specs.Tree.{step_tree}
use Rattle.gl_receipt.proofs.tree.proof_tree.Given as goal

abbrev pub invariant-loop-step : goal.invariant-loop-step
invariant-loop-step l = record {
  trees : map view l.items.items ≡ map step_tree (take l.step-index l.steps);
  digests : AllByRecursion HasDigest (take l.step-index l.steps);
}
