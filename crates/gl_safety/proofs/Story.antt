-- What is reported beside the world, only for the proof: who voted for whom, who won which view,
-- and with what. The world never reads it. Every invariant is about one node and the story, one
-- message and the story, or the story alone.
use Rattle.std.proofs.Common.{◌≡◌, ◌≢◌, ◌⊎◌, inl, inr, ⊎_elim, ℕ, ◌≤◌, ◌<◌, max, List, [], Bool, true, false, ◌==◌, if◌then◌else◌, Option, Some, None, slice_get, refl, ◌∙◌, arith}
use Rattle.gl_rules.specs.Identity.{NodeId}
use Rattle.gl_rules.specs.Message.{Position}
use Rattle.gl_rules.proofs.Ids.{put2, id_tests}

pub record Story (E : Type 0) : Type 0 where
  -- by node and view: for whom it voted
  pub ballot : NodeId → ℕ → Option NodeId
  -- whether it voted there before the view was won
  pub early : NodeId → ℕ → Bool
  -- by view: who won it
  pub chief : ℕ → Option NodeId
  -- by view: the log of its leader, as far as it got
  pub led : ℕ → List E
  -- by candidate and view: with which last signature it stood
  pub bid : NodeId → ℕ → Option Position
  -- by node and view: up to which seqno it acknowledged
  pub held : NodeId → ℕ → ℕ
  -- by view: how far its leader committed
  pub committed : ℕ → ℕ
  -- by candidate and view: nodes that, when it stood, had gone too far ever to vote for it there
  pub shut : NodeId → ℕ → NodeId → Bool

-- whether a vote is early, by the vote before it and by who has won
abbrev pub early_by : Option NodeId → Option NodeId → Bool → Bool
early_by (Some c) k e = e
early_by None None e = true
early_by None (Some z) e = false

abbrev pub at_view : {A : Type 0} → (ℕ → A) → ℕ → A → ℕ → A
at_view f v a u = if u == v then a else f u

module _ {E : Type 0} where
  abbrev pub reported_ballot : NodeId → ℕ → NodeId → Story E → Story E
  reported_ballot x v c g = record g { ballot = put2 g.ballot x v (Some c); early = put2 g.early x v (early_by (g.ballot x v) (g.chief v) (g.early x v)) }

  abbrev pub reported_stand : NodeId → ℕ → Position → (NodeId → Bool) → Story E → Story E
  reported_stand x v l gone g = record (reported_ballot x v x g) { bid = put2 g.bid x v (Some l); shut = put2 g.shut x v gone }

  abbrev pub reported_led : ℕ → List E → Story E → Story E
  reported_led v log g = record g { led = at_view g.led v log }

  abbrev pub reported_win : NodeId → ℕ → List E → Story E → Story E
  reported_win x v log g = record (reported_led v log g) { chief = at_view g.chief v (Some x) }

  abbrev pub reported_held : NodeId → ℕ → ℕ → Story E → Story E
  reported_held x v k g = record g { held = put2 g.held x v (max (g.held x v) k) }

  abbrev pub reported_committed : ℕ → ℕ → Story E → Story E
  reported_committed v k g = record g { committed = at_view g.committed v (max (g.committed v) k) }

-- What x may change of the story.
pub record Grows {E : Type 0} (view_of : E → ℕ) (x : NodeId) (g h : Story E) : Type 0 where
  pub ballot : (y : NodeId) (v : ℕ) (c : NodeId) → g.ballot y v ≡ Some c → h.ballot y v ≡ Some c
  pub ballot_of : (y : NodeId) (v : ℕ) → y ≢ x → h.ballot y v ≡ g.ballot y v
  pub early : (y : NodeId) (v : ℕ) (c : NodeId) → g.ballot y v ≡ Some c → g.early y v ≡ true → h.early y v ≡ true
  pub early_of : (y : NodeId) (v : ℕ) → y ≢ x → h.early y v ≡ g.early y v
  pub chief : (v : ℕ) (c : NodeId) → g.chief v ≡ Some c → h.chief v ≡ Some c
  pub chief_of : (v : ℕ) (c : NodeId) → c ≢ x → h.chief v ≡ Some c → g.chief v ≡ Some c
  pub unchief : (v : ℕ) → h.chief v ≡ None → g.chief v ≡ None
  pub led : (v i : ℕ) (e : E) → slice_get (g.led v) i ≡ Some e → slice_get (h.led v) i ≡ Some e
  pub led_of : (v : ℕ) (c : NodeId) → c ≢ x → g.chief v ≡ Some c → h.led v ≡ g.led v
  pub fresh : (v : ℕ) (c : NodeId) (i : ℕ) (e : E) → g.chief v ≡ Some c → slice_get (h.led v) i ≡ Some e → (slice_get (g.led v) i ≡ Some e) ⊎ (view_of e ≡ v)
  pub bid : (y : NodeId) (v : ℕ) (l : Position) → g.bid y v ≡ Some l → h.bid y v ≡ Some l
  pub bid_of : (y : NodeId) (v : ℕ) → y ≢ x → h.bid y v ≡ g.bid y v
  pub held : (y : NodeId) (v : ℕ) → g.held y v ≤ h.held y v
  pub held_of : (y : NodeId) (v : ℕ) → y ≢ x → h.held y v ≡ g.held y v
  pub committed : (v : ℕ) → g.committed v ≤ h.committed v
  pub shut : (c : NodeId) (v : ℕ) (y : NodeId) → g.shut c v y ≡ true → h.shut c v y ≡ true
  pub shut_of : (c : NodeId) (v : ℕ) → c ≢ x → h.shut c v ≡ g.shut c v
  pub shut_new : (c : NodeId) (v : ℕ) (y : NodeId) → h.shut c v y ≡ true → (g.shut c v y ≡ true) ⊎ ((2 < v) × (g.bid c v ≡ None))

module _ {E : Type 0} (view_of : E → ℕ) where
  pub grows_same : (x : NodeId) (g : Story E) → Grows view_of x g g
  grows_same x g = record {
    ballot = λ y v c e. e;
    ballot_of = λ y v d. refl;
    early = λ y v c e t. t;
    early_of = λ y v d. refl;
    chief = λ v c e. e;
    chief_of = λ v c d e. e;
    unchief = λ v e. e;
    led = λ v i e z. z;
    led_of = λ v c d z. refl;
    fresh = λ v c i e z t. inl t;
    bid = λ y v l e. e;
    bid_of = λ y v d. refl;
    held = λ y v. omega arith;
    held_of = λ y v d. refl;
    committed = λ t. omega arith;
    shut = λ c v y e. e;
    shut_of = λ c v d. refl;
    shut_new = λ c v y e. inl e;
  }

  pub grows_then : (x : NodeId) (g h k : Story E) → Grows view_of x g h → Grows view_of x h k → Grows view_of x g k
  grows_then x g h k p q = record {
    ballot = λ y v c e. q.ballot y v c (p.ballot y v c e);
    ballot_of = λ y v d. q.ballot_of y v d ∙ p.ballot_of y v d;
    early = λ y v c e t. q.early y v c (p.ballot y v c e) (p.early y v c e t);
    early_of = λ y v d. q.early_of y v d ∙ p.early_of y v d;
    chief = λ v c e. q.chief v c (p.chief v c e);
    chief_of = λ v c d e. p.chief_of v c d (q.chief_of v c d e);
    unchief = λ v e. p.unchief v (q.unchief v e);
    led = λ v i e z. q.led v i e (p.led v i e z);
    led_of = λ v c d z. q.led_of v c d (p.chief v c z) ∙ p.led_of v c d z;
    fresh = λ v c i e z t. ⊎_elim (λ (s : slice_get (h.led v) i ≡ Some e). p.fresh v c i e z s) (λ (s : view_of e ≡ v). inr s) (q.fresh v c i e (p.chief v c z) t);
    bid = λ y v l e. q.bid y v l (p.bid y v l e);
    bid_of = λ y v d. q.bid_of y v d ∙ p.bid_of y v d;
    held = λ y v. omega (arith, p.held y v, q.held y v);
    held_of = λ y v d. q.held_of y v d ∙ p.held_of y v d;
    committed = λ v. omega (arith, p.committed v, q.committed v);
    shut = λ c v y e. q.shut c v y (p.shut c v y e);
    shut_of = λ c v d. q.shut_of c v d ∙ p.shut_of c v d;
    shut_new = λ c v y e. ⊎_elim (λ (s : h.shut c v y ≡ true). p.shut_new c v y s) (λ (s : (2 < v) × (h.bid c v ≡ None)). inr (s.0, unbid c v s.1)) (q.shut_new c v y e);
  }
    where
      unbid : (c : NodeId) (v : ℕ) → h.bid c v ≡ None → g.bid c v ≡ None
      unbid c v e = go (g.bid c v) refl
        where
          go : (m : Option Position) → g.bid c v ≡ m → m ≡ None
          go None z = refl
          go (Some l) z = absurd (let t = p.bid c v l z in cc)

  pub grows_ballot : (x c : NodeId) (v : ℕ) (g : Story E) → (g.ballot x v ≡ None) ⊎ (g.ballot x v ≡ Some c) → Grows view_of x g (reported_ballot x v c g)
  grows_ballot x c v g k = record {
    ballot = λ y u d e. grind (arith, id_tests);
    ballot_of = λ y u d. grind (arith, id_tests);
    early = λ y u d e t. grind (arith, id_tests);
    early_of = λ y u d. grind (arith, id_tests);
    chief = λ u d e. e;
    chief_of = λ u d z e. e;
    unchief = λ v e. e;
    led = λ u i e z. z;
    led_of = λ u d z t. refl;
    fresh = λ u d i e z t. inl t;
    bid = λ y u l e. e;
    bid_of = λ y u d. refl;
    held = λ y u. omega arith;
    held_of = λ y u d. refl;
    committed = λ t. omega arith;
    shut = λ d u y e. e;
    shut_of = λ d u z. refl;
    shut_new = λ d u y e. inl e;
  }

  pub grows_stand : (x : NodeId) (v : ℕ) (l : Position) (gone : NodeId → Bool) (g : Story E) → 2 < v → g.ballot x v ≡ None → g.bid x v ≡ None → ((y : NodeId) → g.shut x v y ≡ false) → Grows view_of x g (reported_stand x v l gone g)
  grows_stand x v l gone g high unvoted unbid unshut = record {
    ballot = λ y u d e. grind (arith, id_tests);
    ballot_of = λ y u d. grind (arith, id_tests);
    early = λ y u d e t. grind (arith, id_tests);
    early_of = λ y u d. grind (arith, id_tests);
    chief = λ u d e. e;
    chief_of = λ u d z e. e;
    unchief = λ v e. e;
    led = λ u i e z. z;
    led_of = λ u d z t. refl;
    fresh = λ u d i e z t. inl t;
    bid = λ y u m e. grind (arith, id_tests);
    bid_of = λ y u d. grind (arith, id_tests);
    held = λ y u. omega arith;
    held_of = λ y u d. refl;
    committed = λ t. omega arith;
    shut = λ d u y e. grind (arith, id_tests, unshut y);
    shut_of = λ d u z. grind (arith, id_tests);
    shut_new = λ d u y e. grind (arith, id_tests);
  }

  pub grows_held : (x : NodeId) (v k : ℕ) (g : Story E) → Grows view_of x g (reported_held x v k g)
  grows_held x v k g = record {
    ballot = λ y v c e. e;
    ballot_of = λ y v d. refl;
    early = λ y v c e t. t;
    early_of = λ y v d. refl;
    chief = λ v c e. e;
    chief_of = λ v c d e. e;
    unchief = λ v e. e;
    led = λ v i e z. z;
    led_of = λ v c d z. refl;
    fresh = λ v c i e z t. inl t;
    bid = λ y v l e. e;
    bid_of = λ y v d. refl;
    held = λ y u. grind (arith, id_tests);
    held_of = λ y u d. grind (arith, id_tests);
    committed = λ t. omega arith;
    shut = λ c v y e. e;
    shut_of = λ c v d. refl;
    shut_new = λ c v y e. inl e;
  }

  pub grows_win : (x : NodeId) (v : ℕ) (log : List E) (g : Story E) → g.chief v ≡ None → g.led v ≡ [] → Grows view_of x g (reported_win x v log g)
  grows_win x v log g free empty = record {
    ballot = λ y v c e. e;
    ballot_of = λ y v d. refl;
    early = λ y v c e t. t;
    early_of = λ y v d. refl;
    chief = λ u c e. grind (arith, id_tests);
    chief_of = λ u c d e. grind (arith, id_tests);
    unchief = λ u e. grind (arith, id_tests);
    led = λ u i e z. grind (arith, id_tests, empty);
    led_of = λ u c d z. grind (arith, id_tests);
    fresh = λ u c i e z t. inl (grind (arith, id_tests));
    bid = λ y v l e. e;
    bid_of = λ y v d. refl;
    held = λ y v. omega arith;
    held_of = λ y v d. refl;
    committed = λ t. omega arith;
    shut = λ c v y e. e;
    shut_of = λ c v d. refl;
    shut_new = λ c v y e. inl e;
  }

  pub grows_led : (x : NodeId) (v : ℕ) (log : List E) (g : Story E) → g.chief v ≡ Some x →
      ((i : ℕ) (e : E) → slice_get (g.led v) i ≡ Some e → slice_get log i ≡ Some e) →
      ((i : ℕ) (e : E) → slice_get log i ≡ Some e → (slice_get (g.led v) i ≡ Some e) ⊎ (view_of e ≡ v)) → Grows view_of x g (reported_led v log g)
  grows_led x v log g mine more new = record {
    ballot = λ y v c e. e;
    ballot_of = λ y v d. refl;
    early = λ y v c e t. t;
    early_of = λ y v d. refl;
    chief = λ u c e. e;
    chief_of = λ u c d e. e;
    unchief = λ u e. e;
    led = λ u i e z. grind (arith, id_tests, more i e);
    led_of = λ u c d z. grind (arith, id_tests);
    fresh = λ u c i e z t. grind (arith, id_tests, new i e);
    bid = λ y v l e. e;
    bid_of = λ y v d. refl;
    held = λ y v. omega arith;
    held_of = λ y v d. refl;
    committed = λ t. omega arith;
    shut = λ c v y e. e;
    shut_of = λ c v d. refl;
    shut_new = λ c v y e. inl e;
  }

  pub grows_committed : (x : NodeId) (v k : ℕ) (g : Story E) → Grows view_of x g (reported_committed v k g)
  grows_committed x v k g = record {
    ballot = λ y v c e. e;
    ballot_of = λ y v d. refl;
    early = λ y v c e t. t;
    early_of = λ y v d. refl;
    chief = λ v c e. e;
    chief_of = λ v c d e. e;
    unchief = λ v e. e;
    led = λ v i e z. z;
    led_of = λ v c d z. refl;
    fresh = λ v c i e z t. inl t;
    bid = λ y v l e. e;
    bid_of = λ y v d. refl;
    held = λ y v. omega arith;
    held_of = λ y v d. refl;
    committed = λ u. grind (arith, id_tests);
    shut = λ c v y e. e;
    shut_of = λ c v d. refl;
    shut_new = λ c v y e. inl e;
  }
