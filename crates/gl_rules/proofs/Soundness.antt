-- A ledger whose entries follow is such a ledger where it is cut, and where it takes an entry that
-- may follow; what such an entry keeps, holds of it.
use Rattle.std.proofs.Common.{◌≡◌, ⊎_elim, ℕ, zero, suc, ◌≤◌, ◌<◌, List, [], ◌∷◌, ◌++◌, length, take, Some, None, slice_get, refl, sym, ap, ◌∙◌, subst, arith}
use Rattle.std.proofs.lemmas.Bool.{cases_lt}
use Rattle.gl_rules.specs.Book.{Book}
use Rattle.gl_rules.specs.Safety.{EachFollows}
use Rattle.gl_rules.proofs.Lists.{there, same_take, within, get_take, get_left, get_push, take_whole, take_one_more}

module _ {E Q G R A F : Type 0} (b : Book E Q G R A F) where
  pub sound_cut : (l : List E) (k : ℕ) → EachFollows b l → EachFollows b (take k l)
  sound_cut l k z i e a =
      let r = get_take k l i e a in
      let cut : take i (take k l) ≡ take i l = same_take i (take k l) l (omega (arith, within (take k l) i e a)) (λ j x h d. (get_take k l j x d).1) in
      ap (λ m. b.breaks 0 m e) cut ∙ z i e r.1

  pub sound_push : (l : List E) (e : E) → EachFollows b l → b.breaks 0 l e ≡ None → EachFollows b (l ++ e ∷ [])
  sound_push l e z f i d a = ⊎_elim
      (λ (q : slice_get l i ≡ Some d).
      let cut : take i l ≡ take i (l ++ e ∷ []) = same_take i l (l ++ e ∷ []) (omega (arith, within l i d q)) (λ j y h w. get_left l (e ∷ []) j y w) in
      ap (λ m. b.breaks 0 m d) (sym cut) ∙ z i d q)
      (λ (q : (i ≡ length l) × (d ≡ e)).
      let cut : take i l ≡ take i (l ++ e ∷ []) = same_take i l (l ++ e ∷ []) (omega (arith, q.0)) (λ j y h w. get_left l (e ∷ []) j y w) in
      let all : take i l ≡ l = ap (λ k. take k l) q.0 ∙ take_whole l in
      ap (λ m. b.breaks 0 m d) (sym cut ∙ all) ∙ ap (b.breaks 0 l) q.1 ∙ f)
      (get_push l e i d a)

-- what holds of the empty ledger, and is kept by an entry that may follow
module _ {E Q G R A F : Type 0} (b : Book E Q G R A F) (Sound : List E → Type 0) (none : Sound [])
    (taken : (log : List E) (e : E) → EachFollows b log → Sound log → b.breaks 0 log e ≡ None → Sound (log ++ e ∷ [])) where
  upto : (l : List E) → EachFollows b l → (k : ℕ) → Sound (take k l)
  upto l z zero = none
  upto l z (suc k) = ⊎_elim
      (λ (h : k < length l). let e = there l k h in subst Sound (take_one_more l k e.0 e.1) (taken (take k l) e.0 (sound_cut b l k z) (upto l z k) (z k e.0 e.1)))
      (λ (h : length l ≤ k). subst Sound (same_all l k h) (upto l z k))
      (cases_lt k (length l))
    where
      same_all : (l : List E) (i : ℕ) → length l ≤ i → take i l ≡ take (suc i) l
      same_all [] zero d = refl
      same_all [] (suc i) d = refl
      same_all (x ∷ l) zero d = absurd (omega arith)
      same_all (x ∷ l) (suc i) d = ap (λ r. x ∷ r) (same_all l i (omega arith))

  pub follows_sound : (l : List E) → EachFollows b l → Sound l
  follows_sound l z = subst Sound (take_whole l) (upto l z (length l))
