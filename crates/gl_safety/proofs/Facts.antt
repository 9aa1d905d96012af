-- What the story says of logs, signatures and votes, each fact about one log or one node; and that
-- it stays.
use Rattle.std.proofs.Common.{◌≡◌, ◌≢◌, ◌⊎◌, inl, inr, ⊎_elim, ℕ, suc, ◌+◌, ◌≤◌, ◌<◌, List, true, Option, Some, None, slice_get, sym, ap, ◌∙◌, arith}
use Rattle.gl_rules.specs.Identity.{NodeId}
use Rattle.gl_rules.specs.Book.{Book}
use Rattle.gl_rules.specs.Message.{Position}
use Rattle.gl_rules.proofs.Lists.{Same, within, there}
use Rattle.gl_safety.proofs.Story.{Story, Grows}

-- y acknowledged the entry at index i to the leader of v, or led v itself
abbrev pub Holds : {E : Type 0} → Story E → NodeId → ℕ → ℕ → Type 0
Holds g y v i = (i < g.held y v) ⊎ (g.chief v ≡ Some y)

-- a last signature that is at least the one of view v at index i
abbrev pub Covers : Position → ℕ → ℕ → Type 0
Covers l v i = (v < l.view) ⊎ ((v ≡ l.view) × (i < l.seqno))

module _ {E Q G R A F : Type 0} (b : Book E Q G R A F) where
  -- up to each of its entries a log is the log of the leader of that entry's view
  pub record Matches (led : ℕ → List E) (l : List E) : Type 0 where
    pub below : (i j : ℕ) (e f : E) → slice_get l i ≡ Some e → j ≤ i → slice_get l j ≡ Some f → slice_get (led (b.view_of e)) j ≡ Some f

  pub record Bound (v : ℕ) (l : List E) : Type 0 where
    pub view : (i : ℕ) (e : E) → slice_get l i ≡ Some e → (0 < b.view_of e) × (b.view_of e ≤ v)

  -- views never fall along a log
  pub record Rising (l : List E) : Type 0 where
    pub rising : (i j : ℕ) (e f : E) → i ≤ j → slice_get l i ≡ Some e → slice_get l j ≡ Some f → b.view_of e ≤ b.view_of f

  -- e is a signature that the leader of v wrote at i
  pub record Mark (led : ℕ → List E) (v i : ℕ) (e : E) : Type 0 where
    pub at : slice_get (led v) i ≡ Some e
    pub view : b.view_of e ≡ v
    pub signs : b.is_signature e ≡ true

  -- a view above v and below top whose leader lacks v's entry at i
  pub record Lost (chief : ℕ → Option NodeId) (led : ℕ → List E) (v i top : ℕ) : Type 0 where
    pub view : ℕ
    pub above : v < view
    pub below : view < top
    pub by : NodeId
    pub won : chief view ≡ Some by
    pub lacks : (f : E) → slice_get (led view) i ≡ Some f → b.view_of f ≢ v

  -- es are the entries of l after p
  pub record Segment (l : List E) (p : Position) (es : List E) : Type 0 where
    pub items : (i k : ℕ) (e : E) → k ≡ p.seqno + i → slice_get es i ≡ Some e → slice_get l k ≡ Some e
    pub prev : (j : ℕ) → p.seqno ≡ suc j → 0 < p.view → (e : E) × (slice_get l j ≡ Some e) × (b.view_of e ≡ p.view)

  -- x's vote for c in w: what x held below w is covered by what c stood with, or lost since
  pub record Voted (g : Story E) (x : NodeId) (w : ℕ) (c : NodeId) : Type 0 where
    pub bid : Position
    pub at : g.bid c w ≡ Some bid
    pub old : g.early x w ≡ true → (v i : ℕ) (e : E) → v < w → Holds g x v i → Mark g.led v i e → Covers bid v i ⊎ Lost g.chief g.led v i w
    pub late : (v i : ℕ) (e : E) → v < w → Holds g x v i → Mark g.led v i e → Covers bid v i ⊎ Lost g.chief g.led v i (suc w)

  -- of one node, by the story alone
  pub record Ballots (g : Story E) (y : NodeId) : Type 0 where
    pub votes : (w : ℕ) (c : NodeId) → 2 < w → g.ballot y w ≡ Some c → Voted g y w c
    pub barred : (w : ℕ) (c : NodeId) → g.shut c w y ≡ true → g.ballot y w ≡ Some c → ⊥
    pub within : (v i : ℕ) → i < g.held y v → (e : E) × (slice_get (g.led v) i ≡ Some e)

  -- two logs with one entry at one seqno are the same up to it
  pub agree : (led : ℕ → List E) (l m : List E) (i : ℕ) (e : E) → Matches led l → Matches led m → slice_get l i ≡ Some e → slice_get m i ≡ Some e → Same (suc i) l m
  agree led l m i e p q a d j x h z =
      let y = there m j (omega (arith, within m i e d)) in
      y.1 ∙ sym (q.below i j e y.0 d (omega arith) y.1) ∙ p.below i j e x a (omega arith) z

  pub is_led : (led : ℕ → List E) (l : List E) (v i j : ℕ) (e f : E) → Matches led l → slice_get l i ≡ Some e → b.view_of e ≡ v → j ≤ i → slice_get l j ≡ Some f → slice_get (led v) j ≡ Some f
  is_led led l v i j e f p a z h d = ap (λ u. slice_get (led u) j) (sym z) ∙ p.below i j e f a h d

  pub led_is : (led : ℕ → List E) (l : List E) (v i j : ℕ) (e f : E) → Matches led l → slice_get l i ≡ Some e → b.view_of e ≡ v → j ≤ i → slice_get (led v) j ≡ Some f → slice_get l j ≡ Some f
  led_is led l v i j e f p a z h d =
      let y = there l j (omega (arith, within l i e a)) in
      y.1 ∙ sym (is_led led l v i j e y.0 p a z h y.1) ∙ d

  pub matches_part : (led : ℕ → List E) (l m : List E) → Matches led l → ((i : ℕ) (e : E) → slice_get m i ≡ Some e → slice_get l i ≡ Some e) → Matches led m
  matches_part led l m p a = record { below = λ i j e f x h y. p.below i j e f (a i e x) h (a j f y) }

  -- what stays
  module _ {x : NodeId} {g h : Story E} (k : Grows b.view_of x g h) where
    pub matches_grow : (l : List E) → Matches g.led l → Matches h.led l
    matches_grow l p = record { below = λ i j e f a d z. k.led (b.view_of e) j f (p.below i j e f a d z) }

    pub mark_grow : (v i : ℕ) (e : E) → Mark g.led v i e → Mark h.led v i e
    mark_grow v i e m = record { at = k.led v i e m.at; view = m.view; signs = m.signs }

    pub lost_grow : (v i t : ℕ) → Lost g.chief g.led v i t → Lost h.chief h.led v i t
    lost_grow v i t z = record {
      view = z.view;
      above = z.above;
      below = z.below;
      by = z.by;
      won = k.chief z.view z.by z.won;
      lacks = λ f a d. ⊎_elim (λ (s : slice_get (g.led z.view) i ≡ Some f). z.lacks f s d) (λ (s : b.view_of f ≡ z.view). absurd (omega (arith, z.above, s, d))) (k.fresh z.view z.by i f z.won a);
    }

    pub lost_more : (v i t u : ℕ) → t ≤ u → Lost g.chief g.led v i t → Lost g.chief g.led v i u
    lost_more v i t u d z = record { view = z.view; above = z.above; below = omega (arith, z.below); by = z.by; won = z.won; lacks = z.lacks }

    pub segment_grow : (v : ℕ) (p : Position) (es : List E) → Segment (g.led v) p es → Segment (h.led v) p es
    segment_grow v p es z = record {
      items = λ i j e d a. k.led v j e (z.items i j e d a);
      prev = λ j d a. let r = z.prev j d a in (r.0, k.led v j r.0 r.1, r.2);
    }

    pub holds_grow : (y : NodeId) (v i : ℕ) → Holds g y v i → Holds h y v i
    holds_grow y v i z = ⊎_elim (λ (s : i < g.held y v). inl (omega (arith, k.held y v))) (λ (s : g.chief v ≡ Some y). inr (k.chief v y s)) z

    pub holds_back : (y : NodeId) (v i : ℕ) → y ≢ x → Holds h y v i → Holds g y v i
    holds_back y v i d z = ⊎_elim (λ (s : i < h.held y v). inl (omega (arith, k.held_of y v d))) (λ (s : h.chief v ≡ Some y). inr (k.chief_of v y d s)) z

    pub mark_back : (y : NodeId) (v i : ℕ) (e : E) → y ≢ x → Ballots g y → Holds g y v i → Mark h.led v i e → Mark g.led v i e
    mark_back y v i e d w z m = ⊎_elim
        (λ (s : i < g.held y v). let r = w.within v i s in record { at = r.1 ∙ sym (k.led v i r.0 r.1) ∙ m.at; view = m.view; signs = m.signs })
        (λ (s : g.chief v ≡ Some y). record { at = ap (λ l. slice_get l i) (sym (k.led_of v y d s)) ∙ m.at; view = m.view; signs = m.signs })
        z

    covered_grow : (l : Position) (v i t : ℕ) → Covers l v i ⊎ Lost g.chief g.led v i t → Covers l v i ⊎ Lost h.chief h.led v i t
    covered_grow l v i t z = ⊎_elim (λ (s : Covers l v i). inl s) (λ (s : Lost g.chief g.led v i t). inr (lost_grow v i t s)) z

    pub ballots_of : (y : NodeId) → y ≢ x → Ballots g y → Ballots h y
    ballots_of y d z = record {
      votes = λ w c t a.
          let r = z.votes w c t (sym (k.ballot_of y w d) ∙ a) in
          record {
            bid = r.bid;
            at = k.bid c w r.bid r.at;
            old = λ q v i e l s m. let s' : Holds g y v i = holds_back y v i d s in
                covered_grow r.bid v i w (r.old (sym (k.early_of y w d) ∙ q) v i e l s' (mark_back y v i e d z s' m));
            late = λ v i e l s m. let s' : Holds g y v i = holds_back y v i d s in
                covered_grow r.bid v i (suc w) (r.late v i e l s' (mark_back y v i e d z s' m));
          };
      barred = λ w c a v.
          let v' : g.ballot y w ≡ Some c = sym (k.ballot_of y w d) ∙ v in
          ⊎_elim (λ (s : g.shut c w y ≡ true). z.barred w c s v')
          (λ (s : (2 < w) × (g.bid c w ≡ None)). absurd (let r = (z.votes w c s.0 v').at in cc))
          (k.shut_new c w y a);
      within = λ v i a. let r = z.within v i (omega (arith, k.held_of y v d)) in (r.0, k.led v i r.0 r.1);
    }
