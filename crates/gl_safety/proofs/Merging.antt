-- What a log is after it took entries of a leader's log.
use Rattle.std.proofs.Common.{◌≡◌, ◌≢◌, ◌⊎◌, inl, inr, ⊎_elim, ℕ, zero, suc, ◌+◌, ◌-◌, ◌≤◌, ◌<◌, List, [], ◌∷◌, ◌++◌, length, take, drop, Bool, true, false, ◌==◌, if◌then◌else◌, Option, Some, None, Ok, slice_get, refl, sym, ap, ◌∙◌, subst, length-take, length-append, length-drop, arith}
use Rattle.std.proofs.lemmas.Bool.{cases_eq, cases_lt}
use Rattle.std.proofs.lemmas.Bool.Decides.{nat_tests}
use Rattle.gl_rules.specs.Book.{Book}
use Rattle.gl_rules.specs.Safety.{EachFollows}
use Rattle.gl_rules.proofs.Lists.{Same, same_take, there, within, get_take, drop_get, get_append, append_none, push_append}
use Rattle.gl_safety.proofs.Facts.{Matches}
use Rattle.gl_rules.specs.Replication.{matching_prefix_len, unless_broken, checked_append}

module _ {E Q G R A F : Type 0} (b : Book E Q G R A F) where
  -- r is l after it took the first n entries of m
  pub record Merged (l m : List E) (n : ℕ) (r : List E) : Type 0 where
    pub prefix : (j : ℕ) (f : E) → j < n → slice_get r j ≡ Some f → slice_get m j ≡ Some f
    pub long : n ≤ length r
    pub way : (r ≡ l) ⊎ (((j : ℕ) (f : E) → slice_get r j ≡ Some f → slice_get m j ≡ Some f) × (d : ℕ) × (d < n) × ((e f : E) → slice_get l d ≡ Some e → slice_get m d ≡ Some f → b.view_of e ≢ b.view_of f))

  pub held_le : (l es : List E) → matching_prefix_len b l es ≤ length es
  unfolding matching_prefix_len
  held_le l [] = omega arith
  held_le [] (e ∷ es) = omega arith
  held_le (f ∷ l) (e ∷ es) = go (b.view_of f == b.view_of e) (held_le l es)
    where
      go : (m : Bool) → matching_prefix_len b l es ≤ length es → (if m then suc (matching_prefix_len b l es) else 0) ≤ suc (length es)
      go true h = omega arith
      go false h = omega arith

  -- the entries that are held stand in the log with their views
  pub held_in : (l es : List E) (i : ℕ) → i < matching_prefix_len b l es → (e : E) × (f : E) × (slice_get l i ≡ Some e) × (slice_get es i ≡ Some f) × (b.view_of e ≡ b.view_of f)
  unfolding matching_prefix_len
  held_in l [] i h = absurd (omega arith)
  held_in [] (e ∷ es) i h = absurd (omega arith)
  held_in (f ∷ l) (e ∷ es) i h = go (b.view_of f == b.view_of e) refl i h (held_in l es)
    where
      go : (m : Bool) → (b.view_of f == b.view_of e) ≡ m → (k : ℕ) → k < (if m then suc (matching_prefix_len b l es) else 0) →
          ((j : ℕ) → j < matching_prefix_len b l es → (e : E) × (f : E) × (slice_get l j ≡ Some e) × (slice_get es j ≡ Some f) × (b.view_of e ≡ b.view_of f)) →
          (d : E) × (c : E) × (slice_get (f ∷ l) k ≡ Some d) × (slice_get (e ∷ es) k ≡ Some c) × (b.view_of d ≡ b.view_of c)
      go true z zero h again = (f, e, refl, refl, grind (arith, nat_tests))
      go true z (suc k) h again = again k (omega arith)
      go false z k h again = absurd (omega arith)

  -- the first one that isn't held
  pub held_ends : (l es : List E) (e f : E) → slice_get l (matching_prefix_len b l es) ≡ Some e → slice_get es (matching_prefix_len b l es) ≡ Some f → b.view_of e ≢ b.view_of f
  unfolding matching_prefix_len
  held_ends l [] e f h k = absurd (cc)
  held_ends [] (d ∷ es) e f h k = absurd (cc)
  held_ends (c ∷ l) (d ∷ es) e f h k = go (b.view_of c == b.view_of d) refl h k (held_ends l es e f)
    where
      go : (m : Bool) → (b.view_of c == b.view_of d) ≡ m → slice_get (c ∷ l) (if m then suc (matching_prefix_len b l es) else 0) ≡ Some e → slice_get (d ∷ es) (if m then suc (matching_prefix_len b l es) else 0) ≡ Some f →
          (slice_get l (matching_prefix_len b l es) ≡ Some e → slice_get es (matching_prefix_len b l es) ≡ Some f → b.view_of e ≢ b.view_of f) → b.view_of e ≢ b.view_of f
      go true z h k again = again h k
      go false z h k again =
          let p : c ≡ e = cc in
          let q : d ≡ f = cc in
          let r : b.view_of c ≢ b.view_of d = grind (arith, nat_tests) in
          λ (w : b.view_of e ≡ b.view_of f). r (ap b.view_of p ∙ w ∙ sym (ap b.view_of q))

  -- what is appended, whatever of the log came by a snapshot
  pub applied_is : (base : ℕ) (l es r : List E) → checked_append b base l es ≡ Ok r → r ≡ l ++ es
  unfolding checked_append
  applied_is base l [] r a = let q : l ≡ r = cc in sym q ∙ sym (append_none l)
  applied_is base l (e ∷ es) r a = go (b.breaks base l e) a (applied_is base (l ++ e ∷ []) es r)
    where
      go : (m : Option F) → unless_broken b m (checked_append b base (l ++ e ∷ []) es) ≡ Ok r → (checked_append b base (l ++ e ∷ []) es ≡ Ok r → r ≡ (l ++ e ∷ []) ++ es) → r ≡ l ++ e ∷ es
      go None w again = again w ∙ push_append l e es
      go (Some why) w again = absurd (cc)

  -- where each entry of l and of m may follow, so may each of l after it took entries of m: in m they
  -- stand behind the same ones
  pub merged_follows : (l m : List E) (n : ℕ) (r : List E) → Merged l m n r → EachFollows b l → EachFollows b m → EachFollows b r
  merged_follows l m n r g y z = ⊎_elim
      (λ (q : r ≡ l). subst (EachFollows b) (sym q) y)
      (λ (q : ((j : ℕ) (f : E) → slice_get r j ≡ Some f → slice_get m j ≡ Some f) × (d : ℕ) × (d < n) × ((e f : E) → slice_get l d ≡ Some e → slice_get m d ≡ Some f → b.view_of e ≢ b.view_of f)).
      λ i e a.
      let cut : take i r ≡ take i m = same_take i r m (omega (arith, within r i e a)) (λ j f h c. q.0 j f c) in
      ap (λ k. b.breaks 0 k e) cut ∙ z i e (q.0 i e a))
      g.way

  -- the leader's log m has es after p, and l is m up to p
  module _ (led : ℕ → List E) (l m es : List E) (p : ℕ) (ml : Matches b led l) (mm : Matches b led m) (short : p ≤ length l) (prefix : Same p l m) (items : (i k : ℕ) (e : E) → k ≡ p + i → slice_get es i ≡ Some e → slice_get m k ≡ Some e) where
    held : ℕ
    held = matching_prefix_len b (drop p l) es

    -- up to the first entry that isn't held, the log is the leader's
    pub agreed : (j : ℕ) (f : E) → j < p + matching_prefix_len b (drop p l) es → slice_get l j ≡ Some f → slice_get m j ≡ Some f
    agreed j f h a = ⊎_elim
        (λ (q : j < p). prefix j f q a)
        (λ (q : p ≤ j).
        let y = held_in (drop p l) es (j - p) (omega arith) in
        let in_l : slice_get l j ≡ Some y.0 = sym (drop_get p l (j - p) j (omega arith)) ∙ y.2 in
        let in_m : slice_get m j ≡ Some y.1 = items (j - p) j y.1 (omega arith) y.3 in
        let at_l : slice_get (led (b.view_of y.0)) j ≡ Some y.0 = ml.below j j y.0 y.0 in_l (omega arith) in_l in
        let at_m : slice_get (led (b.view_of y.1)) j ≡ Some y.1 = mm.below j j y.1 y.1 in_m (omega arith) in_m in
        let same : y.0 ≡ y.1 = let w : slice_get (led (b.view_of y.0)) j ≡ Some y.1 = ap (λ v. slice_get (led v) j) y.4 ∙ at_m in let u = sym at_l ∙ w in cc in
        in_m ∙ ap Some (sym same) ∙ sym in_l ∙ a)
        (cases_lt j p)

    pub merged_all : matching_prefix_len b (drop p l) es ≡ length es → Merged l m (p + length es) l
    merged_all h = record {
      prefix = λ j f d a. agreed j f (omega arith) a;
      long = ⊎_elim
          (λ (q : length es ≡ 0). omega arith)
          (λ (q : length es ≢ 0). let y = held_in (drop p l) es (length es - 1) (omega arith) in
          let in_l : slice_get l (p + (length es - 1)) ≡ Some y.0 = sym (drop_get p l (length es - 1) (p + (length es - 1)) (omega arith)) ∙ y.2 in
          omega (arith, within l (p + (length es - 1)) y.0 in_l))
          (cases_eq (length es) 0);
      way = inl refl;
    }

    pub merged_new : matching_prefix_len b (drop p l) es ≢ length es → Merged l m (p + length es) (take (p + matching_prefix_len b (drop p l) es) l ++ drop (matching_prefix_len b (drop p l) es) es)
    merged_new h = record {
      prefix = λ j f d a. new_in j f a;
      long = let q = length-append (take k l) (drop n es) in let u = length-take k l in let w = length-drop n es in omega (arith, q, u, w, n_le, k_le);
      way = inr (new_in, k, omega (arith, n_le), λ e f a c. held_ends (drop p l) es e f (drop_get p l n k refl ∙ a) (in_es f c));
    }
      where
        n : ℕ
        n = matching_prefix_len b (drop p l) es

        k : ℕ
        k = p + matching_prefix_len b (drop p l) es

        n_le : matching_prefix_len b (drop p l) es ≤ length es
        n_le = held_le (drop p l) es

        k_le : p + matching_prefix_len b (drop p l) es ≤ length l
        k_le = ⊎_elim
            (λ (q : matching_prefix_len b (drop p l) es ≡ 0). omega arith)
            (λ (q : matching_prefix_len b (drop p l) es ≢ 0).
            let y = held_in (drop p l) es (matching_prefix_len b (drop p l) es - 1) (omega arith) in
            let in_l : slice_get l (p + (matching_prefix_len b (drop p l) es - 1)) ≡ Some y.0 = sym (drop_get p l (matching_prefix_len b (drop p l) es - 1) (p + (matching_prefix_len b (drop p l) es - 1)) (omega arith)) ∙ y.2 in
            omega (arith, within l (p + (matching_prefix_len b (drop p l) es - 1)) y.0 in_l))
            (cases_eq (matching_prefix_len b (drop p l) es) 0)

        in_es : (f : E) → slice_get m (p + matching_prefix_len b (drop p l) es) ≡ Some f → slice_get es (matching_prefix_len b (drop p l) es) ≡ Some f
        in_es f c = let y = there es (matching_prefix_len b (drop p l) es) (omega (arith, n_le)) in y.1 ∙ sym (items (matching_prefix_len b (drop p l) es) (p + matching_prefix_len b (drop p l) es) y.0 refl y.1) ∙ c

        new_in : (j : ℕ) (f : E) → slice_get (take (p + matching_prefix_len b (drop p l) es) l ++ drop (matching_prefix_len b (drop p l) es) es) j ≡ Some f → slice_get m j ≡ Some f
        new_in j f a = ⊎_elim
            (λ (q : slice_get (take (p + matching_prefix_len b (drop p l) es) l) j ≡ Some f). let y = get_take (p + matching_prefix_len b (drop p l) es) l j f q in agreed j f y.0 y.1)
            (λ (q : (i : ℕ) × (j ≡ length (take (p + matching_prefix_len b (drop p l) es) l) + i) × (slice_get (drop (matching_prefix_len b (drop p l) es) es) i ≡ Some f)).
            let u = length-take (p + matching_prefix_len b (drop p l) es) l in
            items (matching_prefix_len b (drop p l) es + q.0) j f (omega (arith, q.1, u, k_le)) (sym (drop_get (matching_prefix_len b (drop p l) es) es q.0 (matching_prefix_len b (drop p l) es + q.0) refl) ∙ q.2))
            (get_append (take (p + matching_prefix_len b (drop p l) es) l) (drop (matching_prefix_len b (drop p l) es) es) j f a)
