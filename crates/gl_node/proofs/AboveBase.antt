-- Places of a ledger, less its base.
use Rattle.std.proofs.Common.{◌≡◌, ◌≤◌, ◌<◌, ℕ, ◌+◌, ◌-◌, List, take, drop, max, Bool, true, false, nat_le, refl, sym, ap, subst, ◌∙◌, arith}
use Rattle.std.proofs.lemmas.Bool.Decides.{nat_tests}
use Rattle.std.proofs.lemmas.List.{drop-drop, drop-take, take-take}

module _ {A : Type 0} where
  -- what stands after a seqno that isn't below the base
  pub drop_past : (base seqno : ℕ) (l : List A) → base ≤ seqno → drop (seqno - base) (drop base l) ≡ drop seqno l
  drop_past base seqno l low =
      let at : base + (seqno - base) ≡ seqno = omega (arith, low) in
      drop-drop (seqno - base) base l ∙ ap (λ (i : ℕ). drop i l) at

  -- what stands above the base, up to such a seqno
  take_above : (base seqno : ℕ) (l : List A) → base ≤ seqno → take (seqno - base) (drop base l) ≡ drop base (take seqno l)
  take_above base seqno l low =
      let at : base + (seqno - base) ≡ seqno = omega (arith, low) in
      sym (drop-take base (seqno - base) l) ∙ ap (λ (i : ℕ). drop base (take i l)) at

  -- two ledgers that are one up to a seqno are one above the base up to it
  pub same_above : (base seqno : ℕ) (old new : List A) → base ≤ seqno → take seqno new ≡ take seqno old → take (seqno - base) (drop base new) ≡ take (seqno - base) (drop base old)
  same_above base seqno old new low same = take_above base seqno new low ∙ ap (drop base) same ∙ sym (take_above base seqno old low)

  -- and up to the base
  pub same_below : (base seqno : ℕ) (old new : List A) → base ≤ seqno → take seqno new ≡ take seqno old → take base new ≡ take base old
  same_below base seqno old new low same = sym (take-take base seqno new low) ∙ ap (take base) same ∙ take-take base seqno old low

-- the greater of two seqnos is one of them
pub greater : (P : ℕ → Type 0) (base seqno : ℕ) → (base ≤ seqno → P seqno) → (seqno ≤ base → P base) → P (max base seqno)
greater P base seqno above below = go (nat_le base seqno) refl
  where
    go : (t : Bool) → nat_le base seqno ≡ t → P (max base seqno)
    go true e =
        let low : base ≤ seqno = grind (arith, nat_tests) in
        let is : max base seqno ≡ seqno = omega (arith, low) in
        subst P (sym is) (above low)
    go false e =
        let high : seqno < base = grind (arith, nat_tests) in
        let is : max base seqno ≡ base = omega (arith, high) in
        subst P (sym is) (below (omega (arith, high)))
