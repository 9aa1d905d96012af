-- The tree of a receipt has no float, nests little, and is read as the receipt.
use Rattle.std.proofs.Common.{◌≡◌, ◌≤◌, false, List, [], ◌∷◌, map, refl, arith}
use Rattle.serde_json.specs.Data.{depth, items_depth}
use Rattle.serde_json.specs.Written.{has_float, items_have_float}
use Rattle.serde_json.specs.Read.{max_depth}
use Rattle.serde_json.specs.View.{items_of}
use Rattle.gl_merkle.specs.declared.tree.Step.{Step}
use Rattle.gl_merkle.specs.declared.tree.Step.TheVariants.{Left, Right}
use Rattle.gl_receipt.specs.Tree.{step_tree, receipt_tree}
use Rattle.gl_receipt.specs.declared.components.Receipt.{Receipt}

steps_have_no_float : (steps : List Step) → items_have_float (items_of (map step_tree steps)) ≡ false
steps_have_no_float [] = refl
steps_have_no_float (Left sibling ∷ steps) = steps_have_no_float steps
steps_have_no_float (Right sibling ∷ steps) = steps_have_no_float steps

pub has_float-tree : (r : Receipt) → has_float (receipt_tree r) ≡ false
unfolding receipt_tree
has_float-tree r = rw (steps_have_no_float r.proof) refl

steps_depth : (steps : List Step) → items_depth (items_of (map step_tree steps)) ≤ 1
steps_depth [] = omega arith
steps_depth (Left sibling ∷ steps) = let rest = steps_depth steps in omega arith
steps_depth (Right sibling ∷ steps) = let rest = steps_depth steps in omega arith

pub depth-tree : (r : Receipt) → depth (receipt_tree r) ≤ max_depth
unfolding receipt_tree
depth-tree r = let steps = steps_depth r.proof in omega arith
