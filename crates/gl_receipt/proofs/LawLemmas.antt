-- Components are bound by a root.
use Rattle.std.proofs.Common.{◌≡◌, ◌≢◌, ◌⊎◌, ℕ, List, ◌++◌, length, take, drop, refl, sym, ap, ◌∙◌, append_assoc, inl, inr}
use Rattle.std.proofs.lemmas.Bool.{cases_Bool, both_ways}
use Rattle.std.proofs.lemmas.List.{take_at, drop_at}
use Rattle.std.proofs.lemmas.Slice.Eq.{bytes_eq-Decides}
use Rattle.std.specs.Str.{bytes_eq}
use Rattle.sha2.specs.Sha256.{sha256}
use Rattle.sha2.proofs.Facts256.{length-sha256}
use Rattle.gl_merkle.specs.Collision.{HaveSameSides}
use Rattle.gl_merkle.proofs.PathLemmas.{collide-climb}
use Rattle.gl_receipt.specs.Receipt.{leaf_of, root_of}
use Rattle.gl_receipt.specs.Law.{input_of, AreSized, AreBound, ReceiptsAreBound}
use Rattle.gl_receipt.specs.declared.components.LeafComponents.{LeafComponents}
use Rattle.gl_receipt.specs.declared.components.Receipt.{Receipt}

-- equal, or not
same_or_not : (xs ys : List ℕ) → (xs ≡ ys) ⊎ (xs ≢ ys)
same_or_not xs ys = elim (cases_Bool (bytes_eq xs ys)) [
  | inl same ↦ inl ((bytes_eq-Decides xs ys).0 same)
  | inr other ↦ inr (λ e. both_ways _ other ((bytes_eq-Decides xs ys).1 e))
]

-- parts of one length are the same where the whole is
same_prefix : (a b x y : List ℕ) → length a ≡ length b → a ++ x ≡ b ++ y → a ≡ b
same_prefix a b x y len e = sym (take_at a x (length a) refl) ∙ ap (take (length a)) e ∙ take_at b y (length a) (sym len)

same_rest : (a b x y : List ℕ) → length a ≡ length b → a ++ x ≡ b ++ y → x ≡ y
same_rest a b x y len e = sym (drop_at a x (length a) refl) ∙ ap (drop (length a)) e ∙ drop_at b y (length a) (sym len)

abbrev made_of : List ℕ → List ℕ → List ℕ → LeafComponents
made_of claims evidence write_set = record { claims_digest = claims; commit_evidence = evidence; write_set_digest = write_set }

parts_are : (c d : LeafComponents) → c.claims_digest ≡ d.claims_digest → c.commit_evidence ≡ d.commit_evidence
    → c.write_set_digest ≡ d.write_set_digest → c ≡ d
parts_are c d claims evidence write_set =
    ap (λ (x : List ℕ). made_of x c.commit_evidence c.write_set_digest) claims
    ∙ ap (λ (x : List ℕ). made_of d.claims_digest x c.write_set_digest) evidence
    ∙ ap (λ (x : List ℕ). made_of d.claims_digest d.commit_evidence x) write_set

same_input : (c d : LeafComponents) → AreSized c → AreSized d → input_of c ≡ input_of d → AreBound c d
same_input c d size other same =
    let flat : c.write_set_digest ++ (sha256 c.commit_evidence ++ c.claims_digest) ≡ d.write_set_digest ++ (sha256 d.commit_evidence ++ d.claims_digest) =
    sym (append_assoc c.write_set_digest (sha256 c.commit_evidence) c.claims_digest) ∙ same
    ∙ append_assoc d.write_set_digest (sha256 d.commit_evidence) d.claims_digest in
    let write_set = same_prefix _ _ _ _ (size.write_set ∙ sym other.write_set) flat in
    let rest = same_rest _ _ _ _ (size.write_set ∙ sym other.write_set) flat in
    let long : length (sha256 c.commit_evidence) ≡ length (sha256 d.commit_evidence) = length-sha256 _ ∙ sym (length-sha256 _) in
    let evidence = same_prefix _ _ _ _ long rest in
    let claims = same_rest _ _ _ _ long rest in
    elim (same_or_not c.commit_evidence d.commit_evidence) [
      | inl one ↦ inl (parts_are c d claims one write_set)
      | inr two ↦ inr (inr (two, evidence))
    ]

pub same_leaf : (c d : LeafComponents) → AreSized c → AreSized d → leaf_of c ≡ leaf_of d → AreBound c d
same_leaf c d size other same = elim (same_or_not (input_of c) (input_of d)) [
  | inl one ↦ same_input c d size other one
  | inr two ↦ inr (inl (two, same))
]

pub same_root : (r s : Receipt) → AreSized r.leaf_components → AreSized s.leaf_components
    → HaveSameSides r.proof s.proof → root_of r ≡ root_of s → ReceiptsAreBound r s
same_root r s size other sides meet = elim (same_or_not (leaf_of r.leaf_components) (leaf_of s.leaf_components)) [
  | inl one ↦ inl (same_leaf r.leaf_components s.leaf_components size other one)
  | inr two ↦ inr (collide-climb (leaf_of r.leaf_components) r.proof (leaf_of s.leaf_components) s.proof (length-sha256 _ ∙ sym (length-sha256 _)) two sides meet)
]
