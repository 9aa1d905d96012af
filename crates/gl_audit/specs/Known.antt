-- Which nodes a store knows.
use Rattle.std.specs.Prelude.{◌≡◌, ◌⊎◌, ℕ, List, [], ◌∷◌, ◌++◌}
use Rattle.gl_rules.specs.Identity.{NodeId}
use Rattle.gl_audit.specs.declared.known_nodes.KnownNode.{KnownNode}

-- A node is known, with a key that this identity endorsed.
pub record Knows (identity : List ℕ) (node : NodeId) (known : KnownNode) : Type 0 where
  pub named : known.node ≡ node
  pub endorsed : known.key.identity ≡ identity

-- All that were known still are, and at most this node is known besides, by this identity.
abbrev pub Learns : List ℕ → NodeId → List KnownNode → List KnownNode → Type 0
Learns identity node old new =
    (new ≡ old) ⊎ ((known : KnownNode) × Knows identity node known × (new ≡ old ++ known ∷ []))
