-- The trusted nodes are distinct.
use Rattle.std.proofs.Common.{◌≡◌, ℕ, suc, List, [], ◌∷◌, map, Bool, true, false, not, ◌||◌, cond, Some, slice_get, refl, arith}
use Rattle.std.specs.List.{filter}
use Rattle.std.proofs.lemmas.Bool.{and_from}
use Rattle.gl_rules.specs.Identity.{NodeId, same, member}
use Rattle.gl_rules.proofs.Ids.{same_is}
use Rattle.gl_config.specs.NodeSet.{are_distinct}
use Rattle.gl_gov_rules.specs.declared.change.RecordedNode.{RecordedNode}
use Rattle.gl_gov_rules.specs.Nodes.{is_trusted_status, node_status, nodes, trusted}
use Rattle.gl_gov_rules.proofs.NewNodes.{AreDistinct}
use Rattle.gl_gov_base.proofs.NodesOver.{nodes_distinct_over}
use Rattle.gl_audit.specs.GovState.{Governed, IsGoverned, history_of}

module _ (p : RecordedNode → Bool) where
  -- the identifiers of those that pass a test
  abbrev chosen : List RecordedNode → List NodeId
  chosen ns = map (λ (n : RecordedNode). n.id) (filter p ns)

  record IsThere (x : NodeId) (ns : List RecordedNode) : Type 0 where
    i : ℕ
    node : RecordedNode
    at : slice_get ns i ≡ Some node
    named : x ≡ node.id

  there : (x : NodeId) (ns : List RecordedNode) → member x (chosen ns) ≡ true → IsThere x ns
  there x [] h = absurd (cc)
  there x (n ∷ ns) h = go (p n) h (there x ns)
    where
      suffix : IsThere x ns → IsThere x (n ∷ ns)
      suffix t = record { i = suc t.i; node = t.node; at = t.at; named = t.named }

      first : (b : Bool) → same x n.id ≡ b → (b || member x (chosen ns)) ≡ true → (member x (chosen ns) ≡ true → IsThere x ns) → IsThere x (n ∷ ns)
      first true is w again = record { i = 0; node = n; at = refl; named = same_is x n.id is }
      first false is w again = suffix (again w)

      go : (b : Bool) → member x (map (λ (m : RecordedNode). m.id) (cond b (n ∷ filter p ns) (filter p ns))) ≡ true → (member x (chosen ns) ≡ true → IsThere x ns) → IsThere x (n ∷ ns)
      go true w again = first (same x n.id) refl w again
      go false w again = suffix (again w)

  rest : (n : RecordedNode) (ns : List RecordedNode) → AreDistinct (n ∷ ns) → AreDistinct ns
  rest n ns apart i j l m left right is = let k : suc i ≡ suc j = apart (suc i) (suc j) l m left right is in omega arith

  pub distinct_ids : (ns : List RecordedNode) → AreDistinct ns → are_distinct (chosen ns) ≡ true
  distinct_ids [] apart = refl
  distinct_ids (n ∷ ns) apart = go (p n) (distinct_ids ns (rest n ns apart))
    where
      alone : (b : Bool) → member n.id (chosen ns) ≡ b → not b ≡ true
      alone false is = refl
      alone true is =
          let t = there n.id ns is in
          let k : 0 ≡ suc t.i = apart 0 (suc t.i) n t.node refl t.at t.named in
          absurd (omega arith)

      go : (b : Bool) → are_distinct (chosen ns) ≡ true → are_distinct (map (λ (m : RecordedNode). m.id) (cond b (n ∷ filter p ns) (filter p ns))) ≡ true
      go true again = and_from (not (member n.id (chosen ns))) (are_distinct (chosen ns)) (alone (member n.id (chosen ns)) refl) again
      go false again = again

pub trusted_distinct : (g : Governed) → IsGoverned g → are_distinct (trusted (history_of g)) ≡ true
unfolding trusted
trusted_distinct g all =
    distinct_ids (λ (n : RecordedNode). is_trusted_status (node_status (history_of g) n)) (nodes (history_of g)) (nodes_distinct_over g.base g.requests all.read all.accepted)
