-- What the rules ask of an opening holds of that of the small book.
use Rattle.std.proofs.Common.{◌≡◌, ◌⊎◌, inl, inr, ⊎_elim, ℕ, zero, suc, List, [], ◌∷◌, take, true, Some, None, slice_get, refl, sym, ap, subst, arith}
use Rattle.gl_rules.specs.Identity.{NodeId, member}
use Rattle.gl_rules.specs.Log.{last_signature}
use Rattle.gl_rules.specs.Safety.{IsOpening, EachFollows}
use Rattle.gl_safety.specs.declared.small_book.Entry.{Entry}
use Rattle.gl_safety.specs.declared.small_book.Nodes.{Nodes}
use Rattle.gl_safety.specs.declared.small_book.Kind.TheVariants.{Change, Signature}
use Rattle.gl_safety.specs.SmallBook.{members, signs, none_removed, fault_of, small}
use Rattle.gl_safety.specs.SmallBook.{opening, start}

none_yet : (ns : List NodeId) → none_removed [] ns ≡ true
none_yet [] = refl
none_yet (n ∷ ns) = none_yet ns

module _ (nodes : Nodes) where
  cases : (i : ℕ) (e : Entry) → slice_get (opening nodes) i ≡ Some e → ((i ≡ 0) × (record { view = 2; kind = Change nodes } ≡ e)) ⊎ ((i ≡ 1) × (record { view = 2; kind = Signature 2 } ≡ e))
  cases zero e a = inl (refl, cc)
  cases (suc zero) e a = inr (refl, cc)
  cases (suc (suc i)) e a = absurd (cc)

  by_case : (P : ℕ → Entry → Type 0) → P 0 (record { view = 2; kind = Change nodes }) → P 1 (record { view = 2; kind = Signature 2 }) → (i : ℕ) (e : Entry) → slice_get (opening nodes) i ≡ Some e → P i e
  by_case P p q i e a = ⊎_elim
      (λ (r : (i ≡ 0) × (record { view = 2; kind = Change nodes } ≡ e)). subst (λ (k : ℕ). P k e) (sym r.0) (subst (P 0) r.1 p))
      (λ (r : (i ≡ 1) × (record { view = 2; kind = Signature 2 } ≡ e)). subst (λ (k : ℕ). P k e) (sym r.0) (subst (P 1) r.1 q))
      (cases i e a)

  follows : (i : ℕ) (e : Entry) → slice_get (opening nodes) i ≡ Some e → small.breaks 0 (take i (opening nodes)) e ≡ None
  unfolding last_signature
  follows = by_case (λ i e. small.breaks 0 (take i (opening nodes)) e ≡ None) (ap fault_of (none_yet (members nodes))) refl

pub small_opening : (nodes : Nodes) (first : NodeId) → member first (members nodes) ≡ true → IsOpening small (EachFollows small) (start nodes first)
small_opening nodes first m = record {
  sound = follows nodes;
  views = by_case nodes (λ i e. e.view ≡ 2) refl refl;
  follow = follows nodes;
  before = 1;
  long = refl;
  signature = record { view = 2; kind = Signature 2 };
  last = refl;
  signs = refl;
  records = refl;
  alone = by_case nodes (λ i e. signs e.kind ≡ true → i ≡ 1) (λ a. absurd (cc)) (λ a. refl);
  configured_at = 1;
  counted = omega arith;
  within = omega arith;
  members = members nodes;
  configured = refl;
  first_starts = m;
}
