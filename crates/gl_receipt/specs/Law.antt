-- What a receipt binds: the components that lead to a signed root. Whoever has others has two
-- inputs of SHA-256 with one digest, and each is named here.
use Rattle.std.specs.Prelude.{◌≡◌, ◌≢◌, ◌⊎◌, ℕ, List, ◌++◌, length}
use Rattle.sha2.specs.Sha256.{sha256}
use Rattle.gl_merkle.specs.Collision.{Collide}
use Rattle.gl_receipt.specs.Receipt.{leaf_of}
use Rattle.gl_receipt.specs.declared.components.LeafComponents.{LeafComponents}
use Rattle.gl_receipt.specs.declared.components.Receipt.{Receipt}

-- The two differ and have one digest.
abbrev pub HaveOneDigest : List ℕ → List ℕ → Type 0
HaveOneDigest one other = (one ≢ other) × (sha256 one ≡ sha256 other)

-- The 96 bytes of which a leaf is the digest.
abbrev pub input_of : LeafComponents → List ℕ
input_of c = c.write_set_digest ++ sha256 c.commit_evidence ++ c.claims_digest

-- The digests among the components have 32 bytes.
pub record AreSized (c : LeafComponents) : Type 0 where
  pub claims : length c.claims_digest ≡ 32
  pub write_set : length c.write_set_digest ≡ 32

-- Two leaves that are the same have the same components, or two inputs with one digest are at hand:
-- those of the leaves, or the texts of commit evidence.
abbrev pub AreBound : LeafComponents → LeafComponents → Type 0
AreBound c d =
    (c ≡ d)
    ⊎ (HaveOneDigest (input_of c) (input_of d)
    ⊎ HaveOneDigest c.commit_evidence d.commit_evidence)

-- Two receipts for one root have the same components, or two inputs with one digest are at hand,
-- also on the ways to the root.
abbrev pub ReceiptsAreBound : Receipt → Receipt → Type 0
ReceiptsAreBound r s =
    AreBound r.leaf_components s.leaf_components
    ⊎ Collide (leaf_of r.leaf_components) r.proof (leaf_of s.leaf_components) s.proof
