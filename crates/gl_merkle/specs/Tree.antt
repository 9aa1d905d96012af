-- The Merkle tree over a list of digests, each a list of bytes: the tree of RFC 9162, section
-- 2.1.1, over leaves that are hashed already, with no byte before a node's children.
use Rattle.std.specs.Prelude.{ℕ, zero, suc, ◌^◌, List, [], ◌++◌, length, take, drop, nat_le, slice_index_or, if◌then◌else◌}
use Rattle.sha2.specs.Sha256.{sha256}

-- an inner node: the SHA-256 of its left and then its right child
abbrev pub inner_of : List ℕ → List ℕ → List ℕ
inner_of left right = sha256 (left ++ right)

-- The root of at most 2 ^ h leaves. One leaf is its own root. Where there are more than half of 2 ^
-- h, so that half of it is the greatest power of two below their number, the tree is split there.
unfoldable pub root_within : ℕ → List (List ℕ) → List ℕ
root_within zero leaves = slice_index_or leaves 0 []
root_within (suc h) leaves =
    if nat_le (length leaves) (2 ^ h)
    then root_within h leaves
    else inner_of (root_within h (take (2 ^ h) leaves)) (root_within h (drop (2 ^ h) leaves))

-- the root of the leaves: n of them are at most 2 ^ n
unfoldable pub root_of : List (List ℕ) → List ℕ
root_of leaves = root_within (length leaves) leaves
