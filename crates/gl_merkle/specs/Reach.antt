-- Where a way can begin that ends at the root of a list of leaves: at a leaf, whose path it is, or
-- else two inputs of the hash are at hand that tell it apart, whatever the hash is.
use Rattle.std.specs.Prelude.{◌≡◌, ◌≢◌, ◌⊎◌, ℕ, zero, suc, ◌-◌, ◌^◌, ◌≤◌, List, [], ◌∷◌, ◌++◌, Contains, length, take, drop, nat_le, slice_index_or, if◌then◌else◌}
use Rattle.sha2.specs.Sha256.{sha256}
use Rattle.gl_merkle.specs.declared.tree.Step.{Step}
use Rattle.gl_merkle.specs.declared.tree.Step.TheVariants.{Left, Right}
use Rattle.gl_merkle.specs.Tree.{root_within}
use Rattle.gl_merkle.specs.Path.{path_of, joined}
use Rattle.gl_merkle.specs.Collision.{input_of}

-- a digest has 32 bytes
abbrev pub IsDigest : List ℕ → Type 0
IsDigest x = length x ≡ 32

-- the sibling that a step names
abbrev pub sibling_of : Step → List ℕ
sibling_of (Left sibling) = sibling
sibling_of (Right sibling) = sibling

-- what is hashed along the steps that begin at this node
abbrev pub inputs_on : List ℕ → List Step → List (List ℕ)
inputs_on node [] = []
inputs_on node (x ∷ s) = input_of node x ∷ inputs_on (joined node x) s

-- what is hashed for the root of at most 2 ^ h leaves: the children of each inner node
unfoldable pub inputs_within : ℕ → List (List ℕ) → List (List ℕ)
inputs_within zero leaves = []
inputs_within (suc h) leaves =
    if nat_le (length leaves) (2 ^ h)
    then inputs_within h leaves
    else (root_within h (take (2 ^ h) leaves) ++ root_within h (drop (2 ^ h) leaves))
    ∷ inputs_within h (take (2 ^ h) leaves) ++ inputs_within h (drop (2 ^ h) leaves)

-- what is hashed for the root of the leaves
unfoldable pub inputs_of : List (List ℕ) → List (List ℕ)
inputs_of leaves = inputs_within (length leaves) leaves

-- the node is the leaf at this index, counted from 1, and the steps are its path
pub record IsPathFrom (index : ℕ) (node : List ℕ) (steps : List Step)
    (leaves : List (List ℕ)) : Type 0 where
  pub from_one : 1 ≤ index
  pub within : index ≤ length leaves
  pub leaf : node ≡ slice_index_or leaves (index - 1) []
  pub path : steps ≡ path_of leaves index

-- this is hashed on the way and that in the tree, to one digest, and they differ
pub record HaveOneDigest (this that node : List ℕ) (steps : List Step)
    (leaves : List (List ℕ)) : Type 0 where
  pub on_way : Contains (inputs_on node steps) this
  pub in_tree : Contains (inputs_of leaves) that
  pub differ : this ≢ that
  pub one_digest : sha256 this ≡ sha256 that

-- the way begins at an inner node, over these children
pub record IsInner (children node : List ℕ) (leaves : List (List ℕ)) : Type 0 where
  pub in_tree : Contains (inputs_of leaves) children
  pub digest : node ≡ sha256 children

-- the way goes on past a leaf: this is hashed on the way, and its digest is the leaf
pub record IsPastLeaf (this leaf node : List ℕ) (steps : List Step)
    (leaves : List (List ℕ)) : Type 0 where
  pub on_way : Contains (inputs_on node steps) this
  pub in_list : Contains leaves leaf
  pub digest : leaf ≡ sha256 this

-- what a way that ends at the root of the leaves can be
abbrev pub IsReached : List ℕ → List Step → List (List ℕ) → Type 0
IsReached node steps leaves =
    ((index : ℕ) × IsPathFrom index node steps leaves)
    ⊎ (((this : List ℕ) × (that : List ℕ) × HaveOneDigest this that node steps leaves)
    ⊎ (((children : List ℕ) × IsInner children node leaves)
    ⊎ ((this : List ℕ) × (leaf : List ℕ) × IsPastLeaf this leaf node steps leaves)))
