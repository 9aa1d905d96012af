-- Nodes by their identifiers, and functions that differ at one node.
use Rattle.std.specs.Prelude.{ℕ, List, [], ◌∷◌, Bool, false, ◌||◌, nat_eq, if◌then◌else◌}
use Rattle.std.specs.Cmp.Lexicographic.{pointwise}

-- A node's identifier: the bytes of a digest.
abbrev pub NodeId : Type 0
NodeId = List ℕ

-- Whether two identifiers are one.
unfoldable pub same : NodeId → NodeId → Bool
same x y = pointwise nat_eq x y

-- Whether a node is in a list.
abbrev pub member : NodeId → List NodeId → Bool
member x [] = false
member x (y ∷ ys) = same x y || member x ys

-- The function that has this value at this node, and elsewhere what it had.
abbrev pub put : {A : Type 0} → (NodeId → A) → NodeId → A → NodeId → A
put f x a y = if same y x then a else f y

-- The list with this node in it once more only where it was not there.
abbrev pub with_node : NodeId → List NodeId → List NodeId
with_node x ys = if member x ys then ys else x ∷ ys
