-- Nodes with a seqno each; the first pair of a node counts.
use Rattle.std.specs.Prelude.{◌≡◌, ℕ, suc, List, [], ◌∷◌, Bool, ◌||◌, nat_le, Option, Some, None, if◌then◌else◌}
use Rattle.std.specs.Option.{option_map}
use Rattle.gl_rules.specs.Identity.{NodeId, same, put}

-- A node's seqno, 0 where it has none.
abbrev pub held : List (NodeId × ℕ) → NodeId → ℕ
held [] y = 0
held (p ∷ ps) y = if same y p.0 then p.1 else held ps y

abbrev pub tried : List (NodeId × ℕ) → NodeId → Option ℕ
tried [] y = None
tried (p ∷ ps) y = if same y p.0 then Some p.1 else tried ps y

-- Whether y holds the log of x up to a seqno, by what x knows.
abbrev pub holds : NodeId → ℕ → (NodeId → ℕ) → NodeId → Bool
holds x seqno matched y = same y x || nat_le seqno (matched y)

-- The index of a node's first pair.
abbrev pub index_of : List (NodeId × ℕ) → NodeId → Option ℕ
index_of [] y = None
index_of (p ∷ ps) y = if same y p.0 then Some 0 else option_map suc (index_of ps y)

-- A node has this seqno then, and the others have what they had.
pub record Puts (old : List (NodeId × ℕ)) (y : NodeId) (seqno : ℕ)
    (new : List (NodeId × ℕ)) : Type 0 where
  pub held : (z : NodeId) → held new z ≡ put (held old) y seqno z
  pub tried : (z : NodeId) → tried new z ≡ put (tried old) y (Some seqno) z
