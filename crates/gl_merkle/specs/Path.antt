-- The way from a leaf to the root (RFC 9162, section 2.1.3, inclusion proofs).
use Rattle.std.specs.Prelude.{ℕ, zero, suc, ◌-◌, ◌^◌, List, [], ◌∷◌, ◌++◌, length, take, drop, fold, nat_le, if◌then◌else◌}
use Rattle.gl_merkle.specs.declared.tree.Step.{Step}
use Rattle.gl_merkle.specs.declared.tree.Step.TheVariants.{Left, Right}
use Rattle.gl_merkle.specs.Tree.{inner_of, root_within}

-- The steps from the leaf at this index, counted from 1, up to the root of at most 2 ^ h leaves:
-- those within its part of the tree, and then the root of the other part.
unfoldable pub path_within : ℕ → List (List ℕ) → ℕ → List Step
path_within zero leaves index = []
path_within (suc h) leaves index =
    if nat_le (length leaves) (2 ^ h)
    then path_within h leaves index
    else (if nat_le index (2 ^ h)
    then path_within h (take (2 ^ h) leaves) index ++ Right (root_within h (drop (2 ^ h) leaves))
    ∷ []
    else path_within h (drop (2 ^ h) leaves) (index - 2 ^ h)
    ++ Left (root_within h (take (2 ^ h) leaves)) ∷ [])

-- the steps from the leaf at this index, counted from 1, up to the root: n leaves are at most 2 ^ n
unfoldable pub path_of : List (List ℕ) → ℕ → List Step
path_of leaves index = path_within (length leaves) leaves index

-- the node above this one and the sibling that the step names
abbrev pub joined : List ℕ → Step → List ℕ
joined node (Left sibling) = inner_of sibling node
joined node (Right sibling) = inner_of node sibling

-- the node at the end of the steps that begin at this one
abbrev pub climb_of : List ℕ → List Step → List ℕ
climb_of node steps = fold joined node steps
