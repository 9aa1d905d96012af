-- What is hashed on a way and in a tree has 64 bytes, and for a leaf 96; and the leaf of each
-- entry.
use Rattle.std.proofs.Common.{◌≡◌, ℕ, zero, suc, ◌^◌, ◌<◌, ◌≤◌, List, [], ◌∷◌, ◌++◌, length, take, drop, get_or, slice_get, Some, refl, sym, ap, ◌∙◌, arith, length-append, inl, inr, All, Contains}
use Rattle.std.proofs.Math.Nat.{pow-suc}
use Rattle.std.proofs.lemmas.Nat.{pow_pos}
use Rattle.std.proofs.lemmas.Bool.{cases_lt, cond-true, cond-false, le-leb, lt-leb}
use Rattle.std.proofs.lemmas.List.{length-take-le, length-drop}
use Rattle.std.proofs.lemmas.List.Elements.{All-nil, All-cons, All-head, All-tail, All-append, All-take, All-drop, Contains-append_left, Contains-append_right}
use Rattle.sha2.specs.Sha256.{sha256}
use Rattle.sha2.proofs.Facts256.{length-sha256}
use Rattle.gl_merkle.specs.declared.tree.Step.{Step}
use Rattle.gl_merkle.specs.declared.tree.Step.TheVariants.{Left, Right}
use Rattle.gl_merkle.specs.Tree.{root_within}
use Rattle.gl_merkle.specs.Path.{joined}
use Rattle.gl_merkle.specs.Collision as merkle
use Rattle.gl_merkle.specs.Reach.{IsDigest, sibling_of, inputs_on, inputs_within, inputs_of}
use Rattle.gl_merkle.proofs.PathLemmas.{length-joined}
use Rattle.gl_merkle.proofs.TreeLemmas.{below_pow, root_within-low, root_within-split}
use Rattle.gl_vmaps.specs.Tables.{Tables, wrote_all}
use Rattle.gl_vmaps.specs.Versions.{written_after}
use Rattle.gl_entry.specs.Leaf.{id_of}
use Rattle.gl_entry.specs.declared.entry.Entry.{Entry}
use Rattle.gl_ledger.specs.ServiceRow.{identity_in}
use Rattle.gl_ledger.specs.Tree.{writes_of, leaves_from}
use Rattle.gl_receipt.specs.Law.{AreSized, input_of}
use Rattle.gl_receipt.specs.Made.{components_of}
use Rattle.gl_receipt.specs.Receipt.{leaf_of}
use Rattle.gl_receipt.specs.declared.components.LeafComponents.{LeafComponents}
use Rattle.gl_audit.specs.Binding.{hashed_for_leaf, hashed_from}
use Rattle.gl_audit.proofs.InForce.{written_after-cons}

-- two digests side by side
abbrev pub IsPair : List ℕ → Type 0
IsPair x = length x ≡ 64

pair_of : (a b : List ℕ) → IsDigest a → IsDigest b → IsPair (a ++ b)
pair_of a b one two = let long = length-append a b in omega (arith, long, one, two)

-- ---- on a way

length-input_of : (node : List ℕ) (x : Step) → IsDigest node → IsDigest (sibling_of x) → IsPair (merkle.input_of node x)
length-input_of node (Left sibling) digest other = pair_of sibling node other digest
length-input_of node (Right sibling) digest other = pair_of node sibling digest other

pub pairs_on : (node : List ℕ) (steps : List Step) → IsDigest node → All (λ x. IsDigest (sibling_of x)) steps → All IsPair (inputs_on node steps)
pairs_on node [] digest siblings = All-nil IsPair
pairs_on node (x ∷ s) digest siblings =
    All-cons IsPair (merkle.input_of node x) (inputs_on (joined node x) s) (length-input_of node x digest (All-head (λ x. IsDigest (sibling_of x)) x s siblings))
    (pairs_on (joined node x) s (length-joined node x) (All-tail (λ x. IsDigest (sibling_of x)) x s siblings))

-- ---- in a tree

root_at_zero : (ls : List (List ℕ)) → root_within 0 ls ≡ get_or ls 0 []
unfolding root_within
root_at_zero ls = refl

length-root_within : (h : ℕ) (ls : List (List ℕ)) → 0 < length ls → length ls ≤ 2 ^ h → All IsDigest ls → IsDigest (root_within h ls)
length-root_within zero ls some fits all = rw (root_at_zero ls) (all 0 [] some)
length-root_within (suc h) ls some fits all =
    elim (cases_lt (2 ^ h) (length ls)) [
      | inl lt ↦ rw (root_within-split h ls lt) (length-sha256 _)
      | inr le ↦ rw (root_within-low h ls le) (length-root_within h ls some le all)
    ]

inputs_at_zero : (ls : List (List ℕ)) → inputs_within 0 ls ≡ []
unfolding inputs_within
inputs_at_zero ls = refl

inputs_within-low : (h : ℕ) (ls : List (List ℕ)) → length ls ≤ 2 ^ h → inputs_within (suc h) ls ≡ inputs_within h ls
unfolding inputs_within
inputs_within-low h ls le = cond-true _ _ _ (le-leb _ _ le)

inputs_within-split : (h : ℕ) (ls : List (List ℕ)) → 2 ^ h < length ls →
    inputs_within (suc h) ls ≡ (root_within h (take (2 ^ h) ls) ++ root_within h (drop (2 ^ h) ls)) ∷ (inputs_within h (take (2 ^ h) ls) ++ inputs_within h (drop (2 ^ h) ls))
unfolding inputs_within
inputs_within-split h ls lt = cond-false _ _ _ (lt-leb _ _ lt)

pairs_within : (h : ℕ) (ls : List (List ℕ)) → 0 < length ls → length ls ≤ 2 ^ h → All IsDigest ls → All IsPair (inputs_within h ls)
pairs_within zero ls some fits all = rw (inputs_at_zero ls) (All-nil IsPair)
pairs_within (suc h) ls some fits all =
    elim (cases_lt (2 ^ h) (length ls)) [
      | inr le ↦ rw (inputs_within-low h ls le) (pairs_within h ls some le all)
      | inl lt ↦ (
          let two = pow-suc 2 h in
          let full = pow_pos h in
          let prefix = length-take-le (2 ^ h) ls (omega arith) in
          let back = length-drop (2 ^ h) ls in
          let first = All-take IsDigest (2 ^ h) ls all in
          let rest = All-drop IsDigest (2 ^ h) ls all in
          rw (inputs_within-split h ls lt)
          (All-cons IsPair _ _ (pair_of _ _ (length-root_within h (take (2 ^ h) ls) (omega arith) (omega arith) first) (length-root_within h (drop (2 ^ h) ls) (omega arith) (omega arith) rest))
          (All-append IsPair _ _ (pairs_within h (take (2 ^ h) ls) (omega arith) (omega arith) first) (pairs_within h (drop (2 ^ h) ls) (omega arith) (omega arith) rest))))
    ]

pub pairs_of : (ls : List (List ℕ)) → 0 < length ls → All IsDigest ls → All IsPair (inputs_of ls)
unfolding inputs_of
pairs_of ls some all = pairs_within (length ls) ls some (omega (arith, below_pow (length ls))) all

-- ---- for a leaf

pub length-leaf_input : (c : LeafComponents) → AreSized c → length (input_of c) ≡ 96
length-leaf_input c size =
    let a = length-append c.write_set_digest (sha256 c.commit_evidence) in
    let b = length-append (c.write_set_digest ++ sha256 c.commit_evidence) c.claims_digest in
    let d = length-sha256 c.commit_evidence in
    omega (arith, a, b, d, size.write_set, size.claims)

-- ---- the leaf of each entry

-- the entry at a place after tables, its leaf, and what is hashed for it
pub record HasLeaf (tables : Tables) (es : List Entry) (place : ℕ) : Type 0 where
  pub entry : Entry
  pub stands : slice_get es place ≡ Some entry
  pub identity : List ℕ
  pub in_force : identity ≡ identity_in (written_after tables (writes_of (take (suc place) es)))
  pub leaf : (d : List ℕ) → get_or (leaves_from tables es) place d ≡ leaf_of (components_of identity (id_of entry) entry)
  pub hashed : (x : List ℕ) → Contains (hashed_for_leaf identity (id_of entry) (components_of identity (id_of entry) entry)) x → Contains (hashed_from tables es) x

pub has_leaf : (place : ℕ) (t : Tables) (es : List Entry) → place < length es → HasLeaf t es place
has_leaf place t [] within = absurd (omega arith)
has_leaf zero t (e ∷ es) within = record {
  entry = e;
  stands = refl;
  identity = identity_in (wrote_all t e.writes);
  in_force = ap identity_in (sym (written_after-cons t e []));
  leaf = λ d. refl;
  hashed = λ x at.
      let identity : List ℕ = identity_in (wrote_all t e.writes) in
      Contains-append_left (hashed_for_leaf identity (id_of e) (components_of identity (id_of e) e)) (hashed_from (wrote_all t e.writes) es) x at;
}
has_leaf (suc place) t (e ∷ es) within =
    let rest = has_leaf place (wrote_all t e.writes) es (omega arith) in
    record {
      entry = rest.entry;
      stands = rest.stands;
      identity = rest.identity;
      in_force = rest.in_force ∙ ap identity_in (sym (written_after-cons t e (take (suc place) es)));
      leaf = rest.leaf;
      hashed = λ x at.
          let identity : List ℕ = identity_in (wrote_all t e.writes) in
          Contains-append_right (hashed_for_leaf identity (id_of e) (components_of identity (id_of e) e)) (hashed_from (wrote_all t e.writes) es) x (rest.hashed x at);
    }
