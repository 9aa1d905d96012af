-- The text that is written is read back.
use Rattle.std.proofs.Common.{◌≡◌, ℕ, false, List, Some, Result, Ok, Err, IfOk, ◌≤◌, ap, ◌∙◌}
use Rattle.std.specs.Str.{IsUtf8}
use Rattle.serde_json.specs.Data.{depth}
use Rattle.serde_json.specs.View.{view}
use Rattle.serde_json.specs.Written.{has_float, compact_text}
use Rattle.serde_json.specs.declared.value.Value.{Value}
use Rattle.serde_json.specs.Read.{read, max_depth}
use Rattle.gl_receipt.specs.Form.{receipt_from}
use Rattle.gl_receipt.specs.Tree.{receipt_tree}
use Rattle.gl_receipt.specs.declared.components.Receipt.{Receipt}
use Rattle.gl_receipt.specs.Ranges.{IsReceipt}
use Rattle.gl_json.proofs.TextLemmas.{tree_is}
use Rattle.gl_receipt.proofs.TreeLemmas.{has_float-tree, depth-tree}
use Rattle.gl_receipt.proofs.FormLemmas.{receipt_in-tree}

pub reads_back : (text : List ℕ) (r : Receipt) → IsReceipt r → IsUtf8 text → read text ≡ Some (receipt_tree r) → receipt_from text ≡ Ok r
unfolding receipt_from
reads_back text r is utf8 found = rw (tree_is text (receipt_tree r) utf8 found) (receipt_in-tree r is)

pub written : {X E : Type 0} (result : Result X E) (items : X → List ℕ) (value : Value) (r : Receipt) → view value ≡ receipt_tree r
    → IfOk result (λ t. has_float (view value) ≡ false → items t ≡ compact_text (view value)) → IfOk result (λ t. items t ≡ compact_text (receipt_tree r))
written (Ok t) items value r tree text = text (ap has_float tree ∙ has_float-tree r) ∙ ap compact_text tree
written (Err e) items value r tree text = tt

pub back : {X E : Type 0} (result : Result X E) (items : X → List ℕ) (value : Value) (r : Receipt) → IsReceipt r → view value ≡ receipt_tree r
    → IfOk result (λ t. IsUtf8 (items t)) → IfOk result (λ t. depth (view value) ≤ max_depth → read (items t) ≡ Some (view value))
    → IfOk result (λ t. receipt_from (items t) ≡ Ok r)
back (Ok t) items value r is tree utf8 reads =
    let small : depth (view value) ≤ max_depth = rw tree (depth-tree r) in
    reads_back (items t) r is utf8 (reads small ∙ ap Some tree)
back (Err e) items value r is tree utf8 reads = tt
