-- A tree's nodes in a list, T[r] at place r.
use Rattle.std.specs.Prelude.{ℕ, ◌≡◌, ◌*◌, ◌^◌, ◌<◌, ◌≤◌, List, [], length, slice_index_or}
use Rattle.gl_hss.specs.Types.{height}
use Rattle.gl_hss.specs.Secrets.{PrivateKey, node}

-- the nodes from place `from` on are the tree's
abbrev pub HoldsFrom : PrivateKey → List (List ℕ) → ℕ → Type 0
HoldsFrom k nodes from =
    (r : ℕ) → from ≤ r → r < 2 * 2 ^ height k.types → slice_index_or nodes r [] ≡ node k r

-- the list has all of the tree's nodes
pub record HoldsTree (k : PrivateKey) (nodes : List (List ℕ)) : Type 0 where
  pub count : length nodes ≡ 2 * 2 ^ height k.types
  pub nodes_are : HoldsFrom k nodes 1
