-- The tree that is written for a receipt is read as the receipt.
use Rattle.std.proofs.Common.{◌≡◌, ℕ, suc, ◌^◌, ◌<◌, true, List, [], ◌∷◌, map, Ok, Some, nat_lt, refl, arith}
use Rattle.std.specs.List.{AllByRecursion}
use Rattle.std.proofs.lemmas.Bool.Decides.{nat_tests}
use Rattle.hex.specs.Hex.{IsBytes}
use Rattle.hex.proofs.HexLemmas.{decode_of-encode_lower, decode_sized-encode_lower}
use Rattle.serde_json.specs.View.{items_of}
use Rattle.gl_merkle.specs.declared.tree.Step.{Step}
use Rattle.gl_merkle.specs.declared.tree.Step.TheVariants.{Left, Right}
use Rattle.gl_receipt.specs.Form.{bytes_in, digest_in, sibling_in, step_in, steps_from, proof_in, leaf_components_in, signed_in, receipt_in}
use Rattle.gl_receipt.specs.Ranges.{IsDigest, HasDigest, IsReceipt}
use Rattle.gl_receipt.specs.Tree.{hex_tree, step_tree, leaf_components_tree, proof_tree, signed_tree, receipt_tree}
use Rattle.gl_receipt.specs.declared.components.LeafComponents.{LeafComponents}
use Rattle.gl_receipt.specs.declared.components.Signed.{Signed}
use Rattle.gl_receipt.specs.declared.components.Receipt.{Receipt}
use Rattle.gl_json.proofs.HexLemmas.{all_lower}

digest_in-tree : (bytes : List ℕ) → IsDigest bytes → digest_in (Some (hex_tree bytes)) ≡ Ok bytes
digest_in-tree bytes is =
    let lower = all_lower bytes is.bytes in
    let back = decode_sized-encode_lower bytes 32 is.size is.bytes in
    rw (lower, back) refl

bytes_in-tree : (bytes : List ℕ) → IsBytes bytes → bytes_in (Some (hex_tree bytes)) ≡ Ok bytes
bytes_in-tree bytes is =
    let lower = all_lower bytes is in
    let back = decode_of-encode_lower bytes is in
    rw (lower, back) refl

step_in-tree : (index : ℕ) (step : Step) → HasDigest step → step_in index (step_tree step) ≡ Ok step
unfolding step_in sibling_in
step_in-tree index (Left sibling) is = rw (digest_in-tree sibling is) refl
step_in-tree index (Right sibling) is = rw (digest_in-tree sibling is) refl

steps_from-tree : (index : ℕ) (steps : List Step) → AllByRecursion HasDigest steps
    → steps_from index (items_of (map step_tree steps)) ≡ Ok steps
unfolding steps_from
steps_from-tree index [] all = refl
steps_from-tree index (step ∷ steps) all =
    rw (step_in-tree index step all.0, steps_from-tree (suc index) steps all.1) refl

proof_in-tree : (steps : List Step) → AllByRecursion HasDigest steps → proof_in (Some (proof_tree steps)) ≡ Ok steps
unfolding proof_in
proof_in-tree steps all = steps_from-tree 0 steps all

leaf_components_in-tree : (c : LeafComponents) → IsDigest c.claims_digest → IsDigest c.write_set_digest
    → leaf_components_in (leaf_components_tree c) ≡ Ok c
unfolding leaf_components_in
leaf_components_in-tree c claims write_set =
    rw (digest_in-tree c.claims_digest claims, digest_in-tree c.write_set_digest write_set) refl

signed_in-tree : (s : Signed) → s.view < 2 ^ 32 → signed_in (signed_tree s) ≡ Ok s
unfolding signed_in
signed_in-tree s small = let inside : nat_lt s.view (2 ^ 32) ≡ true = grind (arith, nat_tests) in rw inside refl

pub receipt_in-tree : (r : Receipt) → IsReceipt r → receipt_in (receipt_tree r) ≡ Ok r
unfolding receipt_in receipt_tree
receipt_in-tree r is =
    rw (
      leaf_components_in-tree r.leaf_components is.components.claims is.components.write_set,
      proof_in-tree r.proof is.proof,
      bytes_in-tree r.signature is.signature,
      signed_in-tree r.signed is.view,
    ) refl
