-- The keys of a service's nodes, one more each time; and the nodes that a genesis names with them.
use Rattle.std.proofs.Common.{◌≡◌, ◌+◌, ℕ, zero, suc, List, [], ◌∷◌, ◌++◌, length, Some, slice_get, sym, ap, ap₂, subst, ◌∙◌, arith}
use Rattle.std.proofs.lemmas.List.{length-append}
use Rattle.sha2.specs.Sha256.{sha256}
use Rattle.gl_hss.specs.Tree.{key_bytes}
use Rattle.gl_hss.specs.Secrets.{PrivateKey, public_of}
use Rattle.gl_rules.specs.Identity.{NodeId}
use Rattle.gl_requests.specs.declared.genesis.NewNode.{NewNode}
use Rattle.gl_world.specs.declared.settings.Settings.{Settings}
use Rattle.gl_world.specs.declared.node_key.NodeKey.{NodeKey}
use Rattle.gl_world.specs.Founding.{id_of, node_of}
use Rattle.gl_world.specs.Keyed.{AreKeysOf, IsKeyOf}

-- an element of a list with one more is of the list, or the last one
at_end : (s : Settings) (first : ℕ) (ks : List NodeKey) (k : NodeKey) → ((i : ℕ) (n : NodeKey) → slice_get ks i ≡ Some n → IsKeyOf s (suc (first + i)) n) →
    IsKeyOf s (suc (first + length ks)) k → (i : ℕ) (n : NodeKey) → slice_get (ks ++ k ∷ []) i ≡ Some n → IsKeyOf s (suc (first + i)) n
at_end s first [] k each last zero n is = let same : k ≡ n = cc in subst (IsKeyOf s (suc (first + 0))) same last
at_end s first [] k each last (suc i) n is = absurd (cc)
at_end s first (m ∷ ks) k each last zero n is = each zero n is
at_end s first (m ∷ ks) k each last (suc i) n is =
    subst (λ (j : ℕ). IsKeyOf s (suc j) n) (let next : suc first + i ≡ first + suc i = omega arith in next)
    (at_end s (suc first) ks k (λ j o at. subst (λ (l : ℕ). IsKeyOf s (suc l) o) (let next : first + suc j ≡ suc first + j = omega arith in next) (each (suc j) o at))
    (subst (λ (l : ℕ). IsKeyOf s (suc l) k) (let next : first + suc (length ks) ≡ suc first + length ks = omega arith in next) last) i n is)

pub one_more : (s : Settings) (count : ℕ) (ks new : List NodeKey) (k : NodeKey) → AreKeysOf s count ks → IsKeyOf s (count + 1) k → new ≡ ks ++ k ∷ [] → AreKeysOf s (count + 1) new
one_more s count ks new k are is grown =
    subst (AreKeysOf s (count + 1)) (sym grown) (record {
      counted = length-append ks (k ∷ []) ∙ ap (λ (n : ℕ). n + 1) are.counted;
      each = λ i n at. subst (λ (j : ℕ). IsKeyOf s (suc j) n) (let none : 0 + i ≡ i = omega arith in none) (at_end s 0 ks k (λ j o here. subst (λ (l : ℕ). IsKeyOf s (suc l) o) (let none : j ≡ 0 + j = omega arith in none) (are.each j o here)) (subst (λ (n : ℕ). IsKeyOf s n k) (let w = are.counted in let next : count + 1 ≡ suc (0 + length ks) = omega (arith, w) in next) is) i n at);
    })

-- what a genesis names of a key
pub node_is : (s : Settings) (count : ℕ) (ks : List NodeKey) (i : ℕ) (k : NodeKey) (made : NewNode) → AreKeysOf s count ks → slice_get ks i ≡ Some k →
    made ≡ record { key = key_bytes (public_of k.key); endorsement = k.endorsement.items } → made ≡ node_of s (i + 1)
node_is s count ks i k made are at is =
    let keyed = are.each i k at in
    is ∙ ap₂ (λ (p : PrivateKey) (e : List ℕ). record { key = key_bytes (public_of p); endorsement = e }) keyed.key keyed.endorsement
    ∙ ap (node_of s) (let next : suc i ≡ i + 1 = omega arith in next)

-- and the identifier that it gives
pub id_is : (s : Settings) (count : ℕ) (ks : List NodeKey) (i : ℕ) (k : NodeKey) (id : NodeId) → AreKeysOf s count ks → slice_get ks i ≡ Some k →
    id ≡ sha256 (key_bytes (public_of k.key)) → id ≡ id_of s (i + 1)
id_is s count ks i k id are at is =
    is ∙ ap (λ (p : PrivateKey). sha256 (key_bytes (public_of p))) (are.each i k at).key
    ∙ ap (id_of s) (let next : suc i ≡ i + 1 = omega arith in next)
