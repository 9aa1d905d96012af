-- What settled the proposal at a place among all.
use Rattle.std.proofs.Common.{◌≡◌, ℕ, zero, suc, ◌<◌, List, [], ◌∷◌, Option, Some, length, map, get_or, slice_get, sym, ap, ◌∙◌, arith}
use Rattle.std.proofs.lemmas.List.{length-map}
use Rattle.std.proofs.lemmas.Option.{same_Some}
use Rattle.gl_gov_rules.specs.declared.change.Proposal.{Proposal}
use Rattle.gl_gov_rules.specs.declared.change.Settling.{Settling}
use Rattle.gl_gov_rules.specs.History.{History}
use Rattle.gl_gov_rules.specs.Proposals.{proposals, settlings, settling_in, settled_state, is_open_state}
use Rattle.gl_gov_rules.proofs.Settled.{state_settled_in}
use Rattle.gl_gov.specs.Touched.{is_open}

within : {A : Type 0} (xs : List A) (i : ℕ) (x : A) → slice_get xs i ≡ Some x → i < length xs
within [] i x at = absurd cc
within (y ∷ ys) zero x at = omega arith
within (y ∷ ys) (suc i) x at = omega (arith, within ys i x at)

read : {A B : Type 0} (f : A → B) (xs : List A) (i : ℕ) (x : A) (d : B) → slice_get xs i ≡ Some x → get_or (map f xs) i d ≡ f x
read f [] i x d at = absurd cc
read f (y ∷ ys) zero x d at = ap f (same_Some y x at)
read f (y ∷ ys) (suc i) x d at = read f ys i x d at

-- there are as many settlings as proposals
pub is_place : (h : History) (i : ℕ) (p : Proposal) → slice_get (proposals h) i ≡ Some p → i < length (settlings h)
unfolding settlings
is_place h i p at = omega (arith, within (proposals h) i p at, length-map (proposals h) (settling_in h.changes))

-- whether the proposal there is open
pub open_at : (h : History) (i : ℕ) (p : Proposal) (d : Option Settling) → slice_get (proposals h) i ≡ Some p →
    is_open_state (settled_state (get_or (settlings h) i d)) ≡ is_open h p
unfolding settlings
open_at h i p d at = ap (λ (o : Option Settling). is_open_state (settled_state o)) (read (settling_in h.changes) (proposals h) i p d at) ∙ ap is_open_state (sym (state_settled_in h p))
