-- A view that rises, and a node that stands for the next one.
use Rattle.std.proofs.Common.{◌≡◌, ◌≢◌, ◌⊎◌, inl, inr, ⊎_elim, ℕ, zero, suc, ◌+◌, ◌≤◌, ◌<◌, List, [], length, take, Bool, true, false, Some, None, slice_get, refl, sym, ap, ◌∙◌, subst, arith}
use Rattle.std.proofs.lemmas.Bool.{cases_lt}
use Rattle.gl_rules.specs.Identity.{NodeId}
use Rattle.gl_rules.specs.Majority.{majority}
use Rattle.gl_rules.specs.Book.{Book}
use Rattle.gl_rules.specs.Node.{Node, Follower, Candidate, Leader}
use Rattle.gl_rules.specs.Message.{Position}
use Rattle.gl_rules.specs.Log.{last_signature, last_signature_position, signed_prefix}
use Rattle.gl_rules.specs.Configuration.{configuration_at, configurations_above, active, in_some}
use Rattle.gl_rules.specs.Steps.{enter_view}
use Rattle.gl_rules.specs.World.{Start}
use Rattle.gl_rules.specs.Safety.{IsOpening, IsLawful, EachFollows}
use Rattle.gl_rules.proofs.Ids.{id_tests, cases_same, put2, put2_cases, put2_at}
use Rattle.gl_rules.proofs.Lists.{within, get_take}
use Rattle.gl_safety.proofs.Story.{Story, Grows, early_by, reported_stand, grows_same, grows_stand}
use Rattle.gl_safety.proofs.Configurations.{IsNewest}
use Rattle.gl_safety.proofs.Facts.{Holds, Covers, Mark, Lost, Ballots, matches_part, lost_more, ballots_of}
use Rattle.gl_safety.proofs.Certificates.{SureOver, Cert, Sured, Settled, Below, Tale}
use Rattle.gl_safety.proofs.Complete.{descend, settled}
use Rattle.gl_safety.proofs.Signatures.{last_above, last_signs, signed_keeps, last_view_is, last_zero, covers_last, recorded_le, recorded_part, signed_ends}
use Rattle.gl_safety.proofs.Invariants.{Commits, Good, Reached, rising_of, begins_of, signature_above, settled_of, sure_to, won_grow, sured_more, shuts_grow, commits_more}
use Rattle.gl_rules.proofs.Soundness.{sound_cut}
use Rattle.gl_rules.specs.Elections.{may_campaign, become_candidate}

module _ {E Q G R A F : Type 0} {b : Book E Q G R A F} {s : Start E} (o : IsOpening b (EachFollows b) s) (la : IsLawful b (EachFollows b)) where
  pub good_rise : (g : Story E) (x : NodeId) (n : Node E) (v : ℕ) → n.view < v → Good o g x n → Good o g x (enter_view b v n)
  unfolding enter_view
  good_rise g x n v h z = record {
    voter = record {
      cast = z.voter.later v h;
      later = λ u a. z.voter.later u (omega arith);
      counted = λ r y a. absurd (cc);
      won = λ u a. omega (arith, z.voter.won u a);
      unwon = λ r a. absurd (cc);
      chief_is = λ r. absurd (cc);
    };
    logged = record {
      positive = omega (arith, z.logged.positive);
      mine = λ a. absurd (omega (arith, z.voter.won v a));
      matches = matches_part b g.led n.log (take (last_signature b n.log) n.log) z.logged.matches part;
      bound = record { view = λ i e a. let q = z.logged.bound.view i e (part i e a) in (q.0, omega (arith, q.1)) };
    };
    kept = record {
      bid_is = λ r. absurd (cc);
      unbid = λ u a. z.kept.unbid u (omega arith);
      fresh = λ r i e a. absurd (cc);
      ends = λ r. absurd (cc);
      future = λ u a. z.kept.future u (omega arith);
      keeps = λ u i e a m. ⊎_elim
          (λ (q : slice_get n.log i ≡ Some e). inl (signed_keeps b n.log i e q m.signs))
          (λ (q : Lost b g.chief g.led u i (suc n.view)). inr (lost_more b (grows_same b.view_of x g) u i (suc n.view) (suc v) (omega arith) q))
          (z.kept.keeps u i e a m);
    };
    commits = record {
      bounded = ⊎_elim (λ (q : Sured o g n.log n.commit n.view). inl (stays n.commit n.view v (omega arith) q)) (λ (q : n.commit ≡ n.base). inr q) z.commits.bounded;
      based = let q = z.commits.based in (q.0, stays n.base q.0 q.0 (omega arith) q.1);
      above = z.commits.above;
      recorded = omega (arith, recorded_part b n.log (take (last_signature b n.log) n.log) part, z.commits.recorded);
      ruled = λ r. absurd (cc);
      young = λ r. absurd (cc);
      opened = λ r. absurd (⊎_elim (λ (q : Follower ≡ Candidate). cc) (λ (q : Follower ≡ Leader). cc) r);
      matches = λ r y. absurd (cc);
      marked = λ r. absurd (cc);
    };
    sound = sound_cut b n.log (last_signature b n.log) z.sound;
  }
    where
      part : (i : ℕ) (e : E) → slice_get (take (last_signature b n.log) n.log) i ≡ Some e → slice_get n.log i ≡ Some e
      part i e a = (get_take (last_signature b n.log) n.log i e a).1

      stays : (c t u : ℕ) → t ≤ u → Sured o g n.log c t → Sured o g (take (last_signature b n.log) n.log) c u
      stays c t u d q = sure_to o g n.log (take (last_signature b n.log) n.log) c t u d (λ i e w a m. signed_keeps b n.log i e a m) q

  none_active : (x : NodeId) (c : ℕ) → c ≡ 0 → in_some x (active b [] c) ≡ true → ⊥
  unfolding configuration_at configurations_above
  none_active x zero z e = cc
  none_active x (suc c) z e = omega arith

  -- a node that may stand has the opening, and has committed it
  pub may_open : (g : Story E) → Tale o g → (x : NodeId) (n : Node E) → Good o g x n → may_campaign b x n ≡ true → (length s.opening ≤ last_signature b n.log) × (length s.opening ≤ n.commit)
  may_open g t x n z e = go (last_signature b n.log) refl e
    where
      sure_c : Settled o g n.log n.commit
      sure_c = settled_of o g x n.view n.role n.log n.commit n.base n.matched z.commits

      go : (k : ℕ) → last_signature b n.log ≡ k → in_some x (active b (take k n.log) n.commit) ≡ true → (length s.opening ≤ last_signature b n.log) × (length s.opening ≤ n.commit)
      go zero d a =
          let q : n.commit ≡ 0 = ⊎_elim (λ (w : n.commit ≡ 0). w)
          (λ (w : SureOver o (Cert o (sure_c.1).0 g) g n.log n.commit sure_c.0). absurd (omega (arith, last_above b n.log w.i w.entry w.at w.signs))) (sure_c.1).1 in
          absurd (none_active x n.commit q a)
      go (suc k) d a =
          let y = last_signs b n.log k d in
          let h : length s.opening ≤ suc k = signature_above o g t n.log k y.0 z.logged.matches y.1 y.2 in
          let w : slice_get n.log o.before ≡ Some o.signature = begins_of o g t n.log z.logged.matches (omega (arith, within n.log k y.0 y.1)) o.before o.signature (omega (arith, o.long)) o.last in
          (omega arith, omega (arith, recorded_le b n.log o.before o.signature w o.signs, z.commits.recorded, o.records, o.long))

  -- the story of a stand
  tale_stand : (x : NodeId) (g : Story E) (v : ℕ) (l : Position) (gone : NodeId → Bool) → Tale o g → 2 < v → l.view < v → g.ballot x v ≡ None → g.bid x v ≡ None →
      ((y : NodeId) → gone y ≡ true → (u : ℕ) × (i : ℕ) × (e : E) × (v ≤ u) × Holds g y u i × Mark b g.led u i e) →
      ((u i : ℕ) → Holds g x u i → u < v) →
      ((u i : ℕ) (e : E) → u < v → Holds g x u i → Mark b g.led u i e → Covers l u i ⊎ Lost b g.chief g.led u i v) →
      Grows b.view_of x g (reported_stand x v l gone g) × Tale o (reported_stand x v l gone g)
  tale_stand x g v l gone t high less unvoted unbid far past_holds covers = (
    k,
    record {
      early = λ y u c a d. grind (arith, id_tests, t.early y u c);
      matches = t.matches;
      bound = t.bound;
      rising = t.rising;
      empty = t.empty;
      begins = t.begins;
      low = t.low;
      won = λ u c d a. won_grow o k u c (t.won u c d a);
      known = λ u i e a d. let r = t.known u i e a d in (r.0, sured_more o k (g.led u) (b.recorded_commit e) u r.1);
      bids = λ c w m a. grind (arith, id_tests, t.bids c w m);
      shuts = λ c w y a. ⊎_elim
          (λ (q : (c ≡ x) × (w ≡ v) × (put2 g.shut x v gone c w ≡ gone)).
          let r = far y (ap (λ f. f y) (sym q.2) ∙ a) in
          let r' = shuts_grow o k 0 v y r in
          (r'.0, r'.1, r'.2, omega (arith, r'.3, q.1), r'.4, r'.5))
          (λ (q : put2 g.shut x v gone c w ≡ g.shut c w). shuts_grow o k 0 w y (t.shuts c w y (ap (λ f. f y) (sym q) ∙ a)))
          (put2_cases g.shut x v gone c w);
      stood = λ c w y a. ⊎_elim
          (λ (q : (c ≡ x) × (w ≡ v) × (put2 g.shut x v gone c w ≡ gone)). (l, grind (arith, id_tests)))
          (λ (q : put2 g.shut x v gone c w ≡ g.shut c w). let r = t.stood c w y (ap (λ f. f y) (sym q) ∙ a) in (r.0, k.bid c w r.0 r.1))
          (put2_cases g.shut x v gone c w);
      ballots = λ y. ⊎_elim (λ (q : y ≡ x). subst (Ballots b h) (sym q) own) (λ (q : y ≢ x). ballots_of b k y q (t.ballots y)) (cases_same y x);
      follows = t.follows;
      marks = t.marks;
    },
  )
    where
      h : Story E
      h = reported_stand x v l gone g

      unshut : (y : NodeId) → g.shut x v y ≡ false
      unshut y = go (g.shut x v y) refl
        where
          go : (m : Bool) → g.shut x v y ≡ m → m ≡ false
          go false q = refl
          go true q = absurd (let r = (t.stood x v y q).1 in cc)

      k : Grows b.view_of x g (reported_stand x v l gone g)
      k = grows_stand b.view_of x v l gone g high unvoted unbid unshut

      own : Ballots b (reported_stand x v l gone g) x
      own = record {
        votes = λ w c d a. ⊎_elim
            (λ (q : (x ≡ x) × (w ≡ v) × (put2 g.ballot x v (Some x) x w ≡ Some x)).
            let c_is : x ≡ c = let z = sym q.2 ∙ a in cc in
            record {
              bid = l;
              at = grind (arith, id_tests);
              old = λ f u i e r z m. subst (λ (j : ℕ). Covers l u i ⊎ Lost b g.chief g.led u i j) (sym q.1) (covers u i e (omega (arith, q.1)) z m);
              late = λ u i e r z m. ⊎_elim (λ (f : Covers l u i). inl f) (λ (f : Lost b g.chief g.led u i v). inr (lost_more b (grows_same b.view_of x g) u i v (suc w) (omega (arith, q.1)) f)) (covers u i e (omega (arith, q.1)) z m);
            })
            (λ (q : put2 g.ballot x v (Some x) x w ≡ g.ballot x w).
            let r = (t.ballots x).votes w c d (sym q ∙ a) in
            let other : w ≢ v = λ (z : w ≡ v). let f : g.ballot x v ≡ Some c = ap (g.ballot x) (sym z) ∙ sym q ∙ a in let u = sym unvoted ∙ f in cc in
            record { bid = r.bid; at = k.bid c w r.bid r.at; old = λ f. r.old (let e : put2 g.early x v (early_by (g.ballot x v) (g.chief v) (g.early x v)) x w ≡ g.early x w = grind (arith, id_tests) in sym e ∙ f); late = r.late })
            (put2_cases g.ballot x v (Some x) x w);
        barred = λ w c a d. ⊎_elim
            (λ (q : (c ≡ x) × (w ≡ v) × (put2 g.shut x v gone c w ≡ gone)).
            let r = far x (ap (λ f. f x) (sym q.2) ∙ a) in
            omega (arith, past_holds r.0 r.1 r.4, r.3))
            (λ (q : put2 g.shut x v gone c w ≡ g.shut c w).
            let a' : g.shut c w x ≡ true = ap (λ f. f x) (sym q) ∙ a in
            ⊎_elim
            (λ (f : (x ≡ x) × (w ≡ v) × (put2 g.ballot x v (Some x) x w ≡ Some x)).
            let c_is : c ≡ x = let z = sym f.2 ∙ d in cc in
            let r = t.stood c w x a' in
            let z : g.bid x v ≡ Some r.0 = ap (λ y. g.bid y v) (sym c_is) ∙ ap (g.bid c) (sym f.1) ∙ r.1 in
            let u = sym unbid ∙ z in cc)
            (λ (f : put2 g.ballot x v (Some x) x w ≡ g.ballot x w). (t.ballots x).barred w c a' (sym f ∙ d))
            (put2_cases g.ballot x v (Some x) x w))
            (put2_cases g.shut x v gone c w);
        within = (t.ballots x).within;
      }

  -- Candidate of the next view; gone are nodes that already went too far to vote for it there
  stand_with : (x : NodeId) (g : Story E) (n : Node E) (gone : NodeId → Bool) → Tale o g → Good o g x n → may_campaign b x n ≡ true →
      ((y : NodeId) → gone y ≡ true → (v : ℕ) × (i : ℕ) × (e : E) × (n.view + 1 ≤ v) × Holds g y v i × Mark b g.led v i e) →
      Below o g (signed_prefix b n.log) n.commit (n.view + 1) ⊎ ((p : ℕ) (m : List NodeId) → IsNewest b (signed_prefix b n.log) n.commit p m → majority gone m ≡ true) →
      Reached o x g (become_candidate b x n) []
  unfolding enter_view
  stand_with x g n gone t z may far young = (h, record { grow = both.0; tale = both.1; good = good; sent = tt; commits = λ v. inl refl })
    where
      log : List E
      log = signed_prefix b n.log

      risen : Good o g x (enter_view b (n.view + 1) n)
      risen = good_rise g x n (n.view + 1) (omega arith) z

      h : Story E
      h = reported_stand x (n.view + 1) (last_signature_position b (signed_prefix b n.log)) gone g

      part : (i : ℕ) (e : E) → slice_get (signed_prefix b n.log) i ≡ Some e → slice_get n.log i ≡ Some e
      part i e a = (get_take (last_signature b n.log) n.log i e a).1

      fresh : (i : ℕ) (e : E) → slice_get (signed_prefix b n.log) i ≡ Some e → b.view_of e < n.view + 1
      fresh i e a = omega (arith, (z.logged.bound.view i e (part i e a)).1)

      less : (last_signature_position b (signed_prefix b n.log)).view < n.view + 1
      less = go (last_signature b (signed_prefix b n.log)) refl
        where
          go : (k : ℕ) → last_signature b (signed_prefix b n.log) ≡ k → (last_signature_position b (signed_prefix b n.log)).view < n.view + 1
          go zero d = omega (arith, last_zero b (signed_prefix b n.log) d)
          go (suc k) d = let y = last_view_is b (signed_prefix b n.log) k d in omega (arith, y.2, fresh k y.0 y.1)

      both : Grows b.view_of x g h × Tale o h
      both = tale_stand x g (n.view + 1) (last_signature_position b (signed_prefix b n.log)) gone t (omega (arith, z.logged.positive)) less
          (z.voter.later (n.view + 1) (omega arith)) (z.kept.unbid (n.view + 1) (omega arith)) far
          (λ u i f. ⊎_elim
          (λ (q : i < g.held x u). ⊎_elim (λ (r : n.view < u). absurd (omega (arith, z.kept.future u r))) (λ (r : u ≤ n.view). omega arith) (cases_lt n.view u))
          (λ (q : g.chief u ≡ Some x). omega (arith, z.voter.won u q)) f)
          (λ u i e d f m. ⊎_elim
          (λ (q : slice_get n.log i ≡ Some e).
          let a : slice_get (signed_prefix b n.log) i ≡ Some e = signed_keeps b n.log i e q m.signs in
          inl (subst (λ (w : ℕ). Covers (last_signature_position b (signed_prefix b n.log)) w i) m.view (covers_last b (signed_prefix b n.log) i e (rising_of o g t (signed_prefix b n.log) risen.logged.matches) a m.signs)))
          (λ (q : Lost b g.chief g.led u i (suc n.view)). inr (lost_more b (grows_same b.view_of x g) u i (suc n.view) (n.view + 1) (omega arith) q))
          (z.kept.keeps u i e f m))

      k : Grows b.view_of x g h
      k = both.0

      open_ : (length s.opening ≤ last_signature b n.log) × (length s.opening ≤ n.commit)
      open_ = may_open g t x n z may

      more : Commits o h x (n.view + 1) Follower (signed_prefix b n.log) n.commit n.base n.matched
      more = commits_more o k x (n.view + 1) Follower (signed_prefix b n.log) n.commit n.base n.matched (λ r. absurd (cc)) risen.commits

      good : Good o h x (become_candidate b x n)
      good = record {
        voter = record {
          cast = put2_at g.ballot x (n.view + 1) (Some x);
          later = λ u a. let q = z.voter.later u (omega arith) in grind (arith, id_tests);
          counted = λ r y a. let q : y ≡ x = grind (arith, id_tests) in ap (λ w. put2 g.ballot x (n.view + 1) (Some x) w (n.view + 1)) q ∙ put2_at g.ballot x (n.view + 1) (Some x);
          won = risen.voter.won;
          unwon = λ r a. omega (arith, z.voter.won (n.view + 1) a);
          chief_is = λ r. absurd (cc);
        };
        logged = risen.logged;
        kept = record {
          bid_is = λ r. put2_at g.bid x (n.view + 1) (Some (last_signature_position b (signed_prefix b n.log)));
          unbid = λ u a. let q = z.kept.unbid u (omega arith) in grind (arith, id_tests);
          fresh = λ r. fresh;
          ends = λ r. signed_ends b n.log;
          future = risen.kept.future;
          keeps = risen.kept.keeps;
        };
        commits = record {
          bounded = more.bounded;
          based = more.based;
          above = more.above;
          recorded = more.recorded;
          ruled = λ r. absurd (cc);
          young = λ r. ⊎_elim
              (λ (q : Below o g (signed_prefix b n.log) n.commit (n.view + 1)). inl (q.0, q.1, sured_more o k (signed_prefix b n.log) n.commit q.0 q.2))
              (λ (q : (p : ℕ) (m : List NodeId) → IsNewest b (signed_prefix b n.log) n.commit p m → majority gone m ≡ true).
              inr (λ p m a. ap (λ f. majority f m) (put2_at g.shut x (n.view + 1) gone) ∙ q p m a))
              young;
          opened = λ r. open_.1;
          matches = λ r. absurd (cc);
          marked = λ r. absurd (cc);
        };
        sound = risen.sound;
      }

  -- a node that may stand becomes a candidate of the next view
  pub made_stand : (x : NodeId) (g : Story E) (n : Node E) → Tale o g → Good o g x n → may_campaign b x n ≡ true → Reached o x g (become_candidate b x n) []
  unfolding enter_view
  made_stand x g n t z may = ⊎_elim
      (λ (q : Below o g (signed_prefix b n.log) n.commit (n.view + 1)). stand_with x g n (λ y. false) t z may (λ y a. absurd (cc)) (inl q))
      (λ (q : (gone : NodeId → Bool) × ((p : ℕ) (m : List NodeId) → IsNewest b (signed_prefix b n.log) n.commit p m → majority gone m ≡ true) × ((y : NodeId) → gone y ≡ true → (v : ℕ) × (i : ℕ) × (e : E) × (n.view + 1 ≤ v) × Holds g y v i × Mark b g.led v i e)).
      stand_with x g n q.0 t z may q.2 (inr q.1))
      (descend o g t (n.view + 1) (omega (arith, z.logged.positive)) sure_c.1.0 (signed_prefix b n.log) n.commit sure_c.0 risen.logged.matches (settled o sure_c.1.0 n.commit sure_c.0 g (signed_prefix b n.log) (may_open g t x n z may).1 sure_c.1.1))
    where
      risen : Good o g x (enter_view b (n.view + 1) n)
      risen = good_rise g x n (n.view + 1) (omega arith) z

      sure_c : Settled o g (signed_prefix b n.log) n.commit
      sure_c = settled_of o g x (n.view + 1) Follower (signed_prefix b n.log) n.commit n.base n.matched risen.commits
