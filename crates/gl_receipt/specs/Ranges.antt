-- What the types of a receipt's fields say of their values.
use Rattle.std.specs.Prelude.{◌≡◌, ℕ, ◌^◌, ◌<◌, List, length}
use Rattle.std.specs.List.{AllByRecursion}
use Rattle.hex.specs.Hex.{IsBytes}
use Rattle.gl_merkle.specs.declared.tree.Step.{Step}
use Rattle.gl_merkle.specs.declared.tree.Step.TheVariants.{Left, Right}
use Rattle.gl_receipt.specs.declared.components.LeafComponents.{LeafComponents}
use Rattle.gl_receipt.specs.declared.components.Receipt.{Receipt}

-- 32 bytes.
pub record IsDigest (digest : List ℕ) : Type 0 where
  pub size : length digest ≡ 32
  pub bytes : IsBytes digest

abbrev pub HasDigest : Step → Type 0
HasDigest (Left sibling) = IsDigest sibling
HasDigest (Right sibling) = IsDigest sibling

pub record HaveDigests (c : LeafComponents) : Type 0 where
  pub claims : IsDigest c.claims_digest
  pub write_set : IsDigest c.write_set_digest

pub record IsReceipt (r : Receipt) : Type 0 where
  pub components : HaveDigests r.leaf_components
  pub proof : AllByRecursion HasDigest r.proof
  pub signature : IsBytes r.signature
  pub view : r.signed.view < 2 ^ 32
