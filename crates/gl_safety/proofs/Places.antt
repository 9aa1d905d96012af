-- Where a removal or a mark stands: a longer ledger has it at the same seqno, and a shorter one has
-- it where it reaches so far.
use Rattle.std.proofs.Common.{◌≡◌, ◌⊎◌, inl, inr, ⊎_elim, ℕ, zero, suc, ◌+◌, ◌≤◌, ◌<◌, List, [], ◌∷◌, ◌++◌, length, take, true, false, Option, Some, slice_get, refl, sym, ap, ◌∙◌, subst, length-take, arith}
use Rattle.std.proofs.lemmas.Bool.{cases_lt}
use Rattle.gl_rules.specs.Identity.{NodeId}
use Rattle.gl_rules.specs.Book.{Book}
use Rattle.gl_rules.specs.Safety.{IsLawful, EachFollows, KeepsPlaces}
use Rattle.gl_rules.proofs.Lists.{Same, same_take, there, within, take_whole, take_one_more, take_past}
use Rattle.gl_rules.proofs.Soundness.{sound_cut}
use Rattle.gl_safety.proofs.Facts.{Matches, agree}

module _ {E Q G R A F : Type 0} (b : Book E Q G R A F) where
  module _ (place_of : List E → NodeId → Option ℕ) (k : KeepsPlaces b (EachFollows b) place_of) where
    one_up : (l : List E) (y : NodeId) (p i : ℕ) → EachFollows b l → place_of (take i l) y ≡ Some p → place_of (take (suc i) l) y ≡ Some p
    one_up l y p i z a = ⊎_elim
        (λ (h : i < length l).
        let e = there l i h in
        let one = take_one_more l i e.0 e.1 in
        subst (λ (m : List E). place_of m y ≡ Some p) one (k.stays (take i l) e.0 y p (subst (EachFollows b) (sym one) (sound_cut b l (suc i) z)) a))
        (λ (h : length l ≤ i). subst (λ (m : List E). place_of m y ≡ Some p) (take_past i l h ∙ sym (take_past (suc i) l (omega arith))) a)
        (cases_lt i (length l))

    one_down : (l : List E) (y : NodeId) (p i : ℕ) → EachFollows b l → place_of (take (suc i) l) y ≡ Some p → (place_of (take i l) y ≡ Some p) ⊎ ((p ≡ suc i) × (i < length l))
    one_down l y p i z a = ⊎_elim
        (λ (h : i < length l).
        let e = there l i h in
        let one = take_one_more l i e.0 e.1 in
        ⊎_elim (λ (q : place_of (take i l) y ≡ Some p). inl q) (λ (q : p ≡ length (take i l) + 1). inr (omega (arith, length-take i l), h))
        (k.comes (take i l) e.0 y p (subst (EachFollows b) (sym one) (sound_cut b l (suc i) z)) (subst (λ (m : List E). place_of m y ≡ Some p) (sym one) a)))
        (λ (h : length l ≤ i). inl (subst (λ (m : List E). place_of m y ≡ Some p) (sym (take_past i l h ∙ sym (take_past (suc i) l (omega arith)))) a))
        (cases_lt i (length l))

    pub places_up : (l : List E) (y : NodeId) (p i d : ℕ) → EachFollows b l → place_of (take i l) y ≡ Some p → place_of (take (d + i) l) y ≡ Some p
    places_up l y p i zero z a = let e : zero + i ≡ i = omega arith in ap (λ m. place_of (take m l) y) e ∙ a
    places_up l y p i (suc d) z a = let e : suc d + i ≡ suc (d + i) = omega arith in ap (λ m. place_of (take m l) y) e ∙ one_up l y p (d + i) z (places_up l y p i d z a)

    bounded : (l : List E) (y : NodeId) (p i : ℕ) → EachFollows b l → place_of (take i l) y ≡ Some p → (0 < p) × (p ≤ i) × (p ≤ length l)
    bounded l y p zero z a = absurd (let q = k.none y in cc)
    bounded l y p (suc i) z a = ⊎_elim
        (λ (q : place_of (take i l) y ≡ Some p). let r = bounded l y p i z q in (r.0, omega (arith, r.1), r.2))
        (λ (q : (p ≡ suc i) × (i < length l)). (omega (arith, q.0), omega (arith, q.0), omega (arith, q.0, q.1)))
        (one_down l y p i z a)

    places_down : (l : List E) (y : NodeId) (p i d : ℕ) → EachFollows b l → p ≤ i → place_of (take (d + i) l) y ≡ Some p → place_of (take i l) y ≡ Some p
    places_down l y p i zero z h a = let e : i ≡ zero + i = omega arith in ap (λ m. place_of (take m l) y) e ∙ a
    places_down l y p i (suc d) z h a = ⊎_elim
        (λ (q : place_of (take (d + i) l) y ≡ Some p). places_down l y p i d z h q)
        (λ (q : (p ≡ suc (d + i)) × (d + i < length l)). absurd (omega (arith, q.0)))
        (one_down l y p (d + i) z (let e : suc (d + i) ≡ suc d + i = omega arith in ap (λ m. place_of (take m l) y) e ∙ a))

    -- of a whole ledger
    pub place_within : (l : List E) (y : NodeId) (p : ℕ) → EachFollows b l → place_of l y ≡ Some p → (0 < p) × (p ≤ length l)
    place_within l y p z a = let r = bounded l y p (length l) z (ap (λ m. place_of m y) (take_whole l) ∙ a) in (r.0, r.1)

    pub place_cut : (l : List E) (y : NodeId) (p i : ℕ) → EachFollows b l → p ≤ i → place_of l y ≡ Some p → place_of (take i l) y ≡ Some p
    place_cut l y p i z h a = places_down l y p i (length l) z h
        (ap (λ m. place_of m y) (take_past (length l + i) l (omega arith)) ∙ a)

    pub place_more : (l : List E) (y : NodeId) (p i : ℕ) → EachFollows b l → place_of (take i l) y ≡ Some p → place_of l y ≡ Some p
    place_more l y p i z a = sym (ap (λ m. place_of m y) (take_past (length l + i) l (omega arith))) ∙ places_up l y p i (length l) z a

    -- in another ledger that begins alike
    pub place_same : (l r : List E) (y : NodeId) (p i : ℕ) → EachFollows b l → EachFollows b r → i ≤ length l → Same i l r → p ≤ i → place_of l y ≡ Some p → place_of r y ≡ Some p
    place_same l r y p i z w d f h a = place_more r y p i w (ap (λ m. place_of m y) (sym (same_take i l r d f)) ∙ place_cut l y p i z h a)

  -- each signature above a mark records a commit not below the removal of its node
  pub record MarksKnown (l : List E) : Type 0 where
    pub known : (y : NodeId) (m q : ℕ) → b.mark l y ≡ Some m → b.removal l y ≡ Some q → (i : ℕ) (e : E) → slice_get l i ≡ Some e → b.is_signature e ≡ true → m ≤ i → q ≤ b.recorded_commit e

  module _ (la : IsLawful b (EachFollows b)) where
    -- the entry of a mark: no signature, and the removal is below it
    pub mark_entry : (l : List E) (y : NodeId) (m : ℕ) → EachFollows b l → b.mark l y ≡ Some m →
        (i : ℕ) × (m ≡ suc i) × (e : E) × (slice_get l i ≡ Some e) × (b.is_signature e ≡ false) × ((q : ℕ) × (q ≤ i) × (b.removal l y ≡ Some q))
    mark_entry l y m z a = go m refl
      where
        size : (0 < m) × (m ≤ length l)
        size = place_within b.mark la.markings l y m z a

        go : (k : ℕ) → m ≡ k → (i : ℕ) × (m ≡ suc i) × (e : E) × (slice_get l i ≡ Some e) × (b.is_signature e ≡ false) × ((q : ℕ) × (q ≤ i) × (b.removal l y ≡ Some q))
        go zero d = absurd (omega (arith, size.0))
        go (suc i) d =
            let e = there l i (omega (arith, size.1)) in
            let one = take_one_more l i e.0 e.1 in
            let part : EachFollows b (take i l ++ e.0 ∷ []) = subst (EachFollows b) (sym one) (sound_cut b l (suc i) z) in
            let here : b.mark (take i l ++ e.0 ∷ []) y ≡ Some (length (take i l) + 1) =
            ap (λ r. b.mark r y) one ∙ place_cut b.mark la.markings l y m (suc i) z (omega arith) a ∙ ap Some (omega (arith, length-take i l, size.1)) in
            let r = la.marked (take i l) e.0 y part here in
            let w = place_within b.removal la.removals (take i l) y r.1.0 (sound_cut b l i z) r.1.1 in
            (i, d, e.0, e.1, r.0, (r.1.0, omega (arith, w.1, length-take i l), place_more b.removal la.removals l y r.1.0 i z r.1.1))

    -- a log knows what the leaders' logs know
    pub marks_known : (led : ℕ → List E) (l : List E) → Matches b led l → EachFollows b l → ((v : ℕ) → EachFollows b (led v)) → ((v : ℕ) → Matches b led (led v)) → ((v : ℕ) → MarksKnown (led v)) → MarksKnown l
    marks_known led l p z zs ps ms = record {
      known = λ y m q a d i e c s h.
          let on_led = p.below i i e e c (omega arith) c in
          let same : Same (suc i) l (led (b.view_of e)) = agree b led l (led (b.view_of e)) i e p (ps (b.view_of e)) c on_led in
          let long : suc i ≤ length l = within l i e c in
          let en = mark_entry l y m z a in
          let q_same : q ≡ en.5.0 = let t = sym d ∙ en.5.2 in cc in
          (ms (b.view_of e)).known y m q
          (place_same b.mark la.markings l (led (b.view_of e)) y m (suc i) z (zs (b.view_of e)) long same (omega arith) a)
          (place_same b.removal la.removals l (led (b.view_of e)) y q (suc i) z (zs (b.view_of e)) long same (omega (arith, en.5.1, en.1)) d)
          i e on_led s h;
    }
