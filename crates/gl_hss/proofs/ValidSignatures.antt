-- What a key signs is valid under its public key.
use Rattle.std.proofs.Common.{◌≡◌, ℕ, zero, suc, ◌+◌, ◌-◌, ◌*◌, ◌/◌, ◌%◌, ◌^◌, ◌<◌, ◌≤◌, Bool, true, false, List, ◌++◌, length, refl, sym, ap, ap₂, subst, ◌∙◌, add-one, add-zero, arith, inl, inr}
use Rattle.std.specs.Prelude.{if◌then◌else◌}
use Rattle.std.proofs.lemmas.Bool.{cases_eq}
use Rattle.std.proofs.lemmas.Nat.{and_le_l, div-mul-add}
use Rattle.std.proofs.Math.Nat.{add-suc, add_assoc, div-le_self, one-mul}
use Rattle.sha2.proofs.Facts256.{length-sha256}
use Rattle.gl_hss.specs.Bytes.{block}
use Rattle.gl_hss.specs.Types.{height, width, chain_count}
use Rattle.gl_hss.specs.Ots.{coef, digits, chain_prefix, step, steps, chain, message_digest, chain_ends, one_time_key, key_candidate}
use Rattle.gl_hss.specs.Tree.{signature_bytes, leaf_node, inner_node, parent, climb, root_candidate, IsSigned, Signs}
use Rattle.gl_hss.specs.Secrets.{PrivateKey, secret, whole_chains, key_of_leaf, shown_chains, node_above, node, public_of, sibling, siblings, signature_with}
use Rattle.gl_hss.specs.Profile.{randomizer_of, signature_by}
use Rattle.gl_hss.proofs.Blocks.{AreBlocks, length-blocks, block-blocks}
use Rattle.gl_hss.proofs.Chains.{chain_ends-none, chain_ends-more, whole_chains-none, whole_chains-more, shown_chains-none, shown_chains-more}
use Rattle.gl_hss.proofs.Climbing.{climb-none, climb-more, halved-more}
use Rattle.gl_hss.proofs.Paths.{siblings-none, siblings-more, above_one}
use Rattle.gl_hss.proofs.Trees.{node-leaf, node-inner}

-- ---- lengths

length-secret : (k : PrivateKey) (q i : ℕ) → length (secret k q i) ≡ 32
unfolding secret
length-secret k q i = length-sha256 _

length-steps : (prefix : List ℕ) (from n : ℕ) (tmp : List ℕ) → length tmp ≡ 32 → length (steps prefix from n tmp) ≡ 32
unfolding steps step
length-steps prefix from zero tmp h = h
length-steps prefix from (suc n) tmp h = length-sha256 _

length-leaf_node : (identifier : List ℕ) (r : ℕ) (key : List ℕ) → length (leaf_node identifier r key) ≡ 32
unfolding leaf_node
length-leaf_node identifier r key = length-sha256 _

length-inner_node : (identifier : List ℕ) (r : ℕ) (left right : List ℕ) → length (inner_node identifier r left right) ≡ 32
unfolding inner_node
length-inner_node identifier r left right = length-sha256 _

length-cond : (b : Bool) (x y : List ℕ) → length x ≡ 32 → length y ≡ 32 → length (if b then x else y) ≡ 32
length-cond true x y h g = h
length-cond false x y h g = g

pub length-node_above : (k : PrivateKey) (n r : ℕ) → length (node_above k n r) ≡ 32
unfolding node_above
length-node_above k zero r = length-leaf_node _ _ _
length-node_above k (suc n) r = length-cond _ _ _ (length-leaf_node _ _ _) (length-inner_node _ _ _ _)

pub shown_blocks : (k : PrivateKey) (q : ℕ) (ds : List ℕ) → AreBlocks (shown_chains k q ds) (λ i. chain k.identifier q i 0 (coef ds i (width k.types)) (secret k q i))
shown_blocks k q ds = record {
  none = shown_chains-none k q ds;
  more = shown_chains-more k q ds;
  sized = λ i. length-steps (chain_prefix k.identifier q i) 0 _ (secret k q i) (length-secret k q i);
}

pub sibling_blocks : (k : PrivateKey) (r : ℕ) → AreBlocks (siblings k r) (λ i. node k (sibling (r / 2 ^ i)))
sibling_blocks k r = record {
  none = siblings-none k r;
  more = siblings-more k r;
  sized = λ i. length-node_above k (height k.types) (sibling (r / 2 ^ i));
}

-- ---- a chain that goes on from where it was shown is the whole chain

coef_most : (s : List ℕ) (i w : ℕ) → coef s i w ≤ 2 ^ w - 1
unfolding coef
coef_most s i w = and_le_l (2 ^ w - 1) _

steps_join : (prefix : List ℕ) (from n m : ℕ) (tmp : List ℕ) → steps prefix (from + n) m (steps prefix from n tmp) ≡ steps prefix from (n + m) tmp
unfolding steps
steps_join prefix from n zero tmp = ap (λ (j : ℕ). steps prefix from j tmp) (sym (add-zero n))
steps_join prefix from n (suc m) tmp =
    ap₂ (step prefix) (add_assoc from n m) (steps_join prefix from n m tmp)
    ∙ ap (λ (j : ℕ). steps prefix from j tmp) (sym (add-suc n m))

chain_join : (prefix : List ℕ) (c top : ℕ) (tmp : List ℕ) → c ≤ top → steps prefix c (top - c) (steps prefix 0 (c - 0) tmp) ≡ steps prefix 0 (top - 0) tmp
chain_join prefix c top tmp h =
    let here : c ≡ 0 + (c - 0) = omega arith in
    let all : c - 0 + (top - c) ≡ top - 0 = omega arith in
    ap (λ (j : ℕ). steps prefix j (top - c) (steps prefix 0 (c - 0) tmp)) here ∙ steps_join prefix 0 (c - 0) (top - c) tmp ∙ ap (λ (j : ℕ). steps prefix 0 j tmp) all

chain_ends-shown : (k : PrivateKey) (q : ℕ) (ds : List ℕ) (p n : ℕ) → n ≤ p → chain_ends k.types k.identifier q ds (shown_chains k q ds p) n ≡ whole_chains k q n
chain_ends-shown k q ds p zero h = chain_ends-none k.types k.identifier q ds (shown_chains k q ds p) ∙ sym (whole_chains-none k q)
chain_ends-shown k q ds p (suc n) h =
    let t = k.types in
    let y = shown_chains k q ds p in
    let c = coef ds n (width t) in
    let top = 2 ^ width t - 1 in
    let prefix = chain_prefix k.identifier q n in
    let shown = block-blocks (shown_chains k q ds) _ (shown_blocks k q ds) p n (omega arith) in
    let ends : steps prefix c (top - c) (block y n) ≡ chain k.identifier q n 0 top (secret k q n) =
    ap (steps prefix c (top - c)) shown ∙ chain_join prefix c top (secret k q n) (coef_most ds n (width t)) in
    ap (chain_ends t k.identifier q ds y) (sym (add-one n)) ∙ chain_ends-more t k.identifier q ds y n
    ∙ ap₂ (λ (a b : List ℕ). a ++ b) (chain_ends-shown k q ds p n (omega arith)) ends
    ∙ sym (whole_chains-more k q n) ∙ ap (whole_chains k q) (add-one n)

-- ---- a path climbed leads to the root

parent-odd : (identifier : List ℕ) (m : ℕ) (s v : List ℕ) → m % 2 ≡ 1 → parent identifier m s v ≡ inner_node identifier (m / 2) s v
unfolding parent
parent-odd identifier m s v odd = rw odd refl

parent-even : (identifier : List ℕ) (m : ℕ) (s v : List ℕ) → m % 2 ≡ 0 → parent identifier m s v ≡ inner_node identifier (m / 2) v s
unfolding parent
parent-even identifier m s v even = rw even refl

odd_left : (m : ℕ) → m % 2 ≡ 1 → m - 1 ≡ 2 * (m / 2)
odd_left m odd = omega arith

even_right : (m : ℕ) → m % 2 ≡ 0 → m + 1 ≡ 2 * (m / 2) + 1
even_right m even = omega arith

parent-node : (k : PrivateKey) (m : ℕ) → 2 ≤ m → m < 2 * 2 ^ height k.types → parent k.identifier m (node k (sibling m)) (node k m) ≡ node k (m / 2)
parent-node k m low high =
    let up = node-inner k (m / 2) (omega arith) (omega arith) in
    elim (cases_eq (m % 2) 1) [
      | inl odd ↦
          let left : sibling m ≡ 2 * (m / 2) = (rw odd refl) ∙ odd_left m odd in
          let right : m ≡ 2 * (m / 2) + 1 = omega arith in
          parent-odd k.identifier m (node k (sibling m)) (node k m) odd ∙ ap₂ (inner_node k.identifier (m / 2)) (ap (node k) left) (ap (node k) right) ∙ sym up
      | inr other ↦
          let even : m % 2 ≡ 0 = omega arith in
          let left : m ≡ 2 * (m / 2) = omega arith in
          let right : sibling m ≡ 2 * (m / 2) + 1 = (rw even refl) ∙ even_right m even in
          parent-even k.identifier m (node k (sibling m)) (node k m) even ∙ ap₂ (inner_node k.identifier (m / 2)) (ap (node k) left) (ap (node k) right) ∙ sym up
    ]

climb-node : (k : PrivateKey) (r n : ℕ) → 2 ^ height k.types ≤ r → r < 2 * 2 ^ height k.types → n ≤ height k.types → climb k.identifier (siblings k r (height k.types)) r n (node k r) ≡ node k (r / 2 ^ n)
climb-node k r zero low high below =
    let whole : r / 2 ^ 0 ≡ r = omega arith in
    climb-none k.identifier (siblings k r (height k.types)) r (node k r) ∙ ap (node k) (sym whole)
climb-node k r (suc n) low high below =
    let h = height k.types in
    let path = siblings k r h in
    let m = r / 2 ^ n in
    let two : 2 ≤ m = above_one h r n low (omega arith) in
    let small : m < 2 * 2 ^ h = omega (arith, div-le_self r (2 ^ n)) in
    let beside = block-blocks (siblings k r) _ (sibling_blocks k r) h n (omega arith) in
    let up : climb k.identifier path r (n + 1) (node k r) ≡ node k (r / 2 ^ (n + 1)) =
    climb-more k.identifier path r n (node k r)
    ∙ ap₂ (parent k.identifier m) beside (climb-node k r n low high (omega arith))
    ∙ parent-node k m two small ∙ ap (node k) (halved-more r n) in
    subst (λ (j : ℕ). climb k.identifier path r j (node k r) ≡ node k (r / 2 ^ j)) (add-one n) up

-- ---- the whole

leaf-signed : (k : PrivateKey) (q : ℕ) (randomizer message : List ℕ) → leaf_node k.identifier (2 ^ height k.types + q) (key_candidate k.types k.identifier q randomizer (signature_with k q randomizer message).chains message) ≡ node k (2 ^ height k.types + q)
unfolding key_candidate signature_with key_of_leaf
leaf-signed k q randomizer message =
    let r = 2 ^ height k.types + q in
    let ds = digits k.types (message_digest k.identifier q randomizer message) in
    let p = chain_count k.types in
    let offset : r - 2 ^ height k.types ≡ q = omega arith in
    ap (leaf_node k.identifier r) (ap (one_time_key k.identifier q) (chain_ends-shown k q ds p p (omega arith)) ∙ ap (key_of_leaf k) (sym offset))
    ∙ sym (node-leaf k r (omega arith))

one_at_top : (h q : ℕ) → q < 2 ^ h → (2 ^ h + q) / 2 ^ h ≡ 1
one_at_top h q below = ap (λ (n : ℕ). (n + q) / 2 ^ h) (sym (one-mul (2 ^ h))) ∙ div-mul-add 1 (2 ^ h) q below

-- the signature of a message by a leaf is valid
pub signature_with-IsSigned : (k : PrivateKey) (q : ℕ) (randomizer message : List ℕ) → q < 2 ^ height k.types → length randomizer ≡ 32 → IsSigned (public_of k) message (signature_with k q randomizer message)
unfolding signature_with root_candidate
signature_with-IsSigned k q randomizer message leaf len =
    let h = height k.types in
    let r = 2 ^ h + q in
    let ds = digits k.types (message_digest k.identifier q randomizer message) in
    let top : r / 2 ^ h ≡ 1 = one_at_top h q leaf in
    record {
      form = record {
        leaf = leaf;
        randomizer = len;
        chains = length-blocks (shown_chains k q ds) _ (shown_blocks k q ds) (chain_count k.types);
        path = length-blocks (siblings k r) _ (sibling_blocks k r) h;
      };
      root = ap (climb k.identifier (siblings k r h) r h) (leaf-signed k q randomizer message)
          ∙ climb-node k r h (omega arith) (omega arith) (omega arith) ∙ ap (node k) top;
    }

pub signature_by-IsSigned : (k : PrivateKey) (q : ℕ) (message : List ℕ) → q < 2 ^ height k.types → IsSigned (public_of k) message (signature_by k q message)
signature_by-IsSigned k q message leaf = signature_with-IsSigned k q (randomizer_of k q) message leaf (length-secret k q 0xfffd)

pub leaf_of_signature : (k : PrivateKey) (q : ℕ) (randomizer message : List ℕ) → (signature_with k q randomizer message).leaf ≡ q
unfolding signature_with
leaf_of_signature k q randomizer message = refl

-- the bytes of a signature by a leaf
pub signature_by-Signs : (k : PrivateKey) (q : ℕ) (message bytes : List ℕ) → q < 2 ^ height k.types → bytes ≡ signature_bytes k.types (signature_by k q message) → Signs (public_of k) q message bytes
signature_by-Signs k q message bytes leaf e = record {
  fields = signature_by k q message;
  encoded = e;
  leaf = leaf_of_signature k q (randomizer_of k q) message;
  signed = signature_by-IsSigned k q message leaf;
}
