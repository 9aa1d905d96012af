-- The JSON tree that is written for a receipt.
use Rattle.std.specs.Prelude.{ℕ, List, map, codes}
use Rattle.hex.specs.Hex.{encode_lower}
use Rattle.serde_json.specs.Data.{Data, number, unsigned, string, array, object, no_members, member}
use Rattle.serde_json.specs.View.{items_of}
use Rattle.gl_merkle.specs.declared.tree.Step.{Step}
use Rattle.gl_merkle.specs.declared.tree.Step.TheVariants.{Left, Right}
use Rattle.gl_receipt.specs.declared.components.LeafComponents.{LeafComponents}
use Rattle.gl_receipt.specs.declared.components.Signed.{Signed}
use Rattle.gl_receipt.specs.declared.components.Receipt.{Receipt}

-- Bytes are texts in lower-case hexadecimal.
abbrev pub hex_tree : List ℕ → Data
hex_tree bytes = string (encode_lower bytes)

abbrev pub integer_tree : ℕ → Data
integer_tree n = number (unsigned n)

abbrev pub leaf_components_tree : LeafComponents → Data
leaf_components_tree c = object (
    member (codes "claims_digest") (hex_tree c.claims_digest) (
    member (codes "commit_evidence") (string c.commit_evidence) (
    member (codes "write_set_digest") (hex_tree c.write_set_digest) no_members
    )
    )
    )

abbrev pub step_tree : Step → Data
step_tree (Left sibling) = object (member (codes "left") (hex_tree sibling) no_members)
step_tree (Right sibling) = object (member (codes "right") (hex_tree sibling) no_members)

abbrev pub proof_tree : List Step → Data
proof_tree steps = array (items_of (map step_tree steps))

abbrev pub signed_tree : Signed → Data
signed_tree s = object (
    member (codes "commit") (integer_tree s.commit) (
    member (codes "seqno") (integer_tree s.seqno) (
    member (codes "view") (integer_tree s.view) no_members
    )
    )
    )

unfoldable pub receipt_tree : Receipt → Data
receipt_tree r = object (
    member (codes "leaf_components") (leaf_components_tree r.leaf_components) (
    member (codes "proof") (proof_tree r.proof) (
    member (codes "signature") (hex_tree r.signature) (
    member (codes "signed") (signed_tree r.signed) no_members
    )
    )
    )
    )
