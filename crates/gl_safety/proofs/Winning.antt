-- A candidate that has the votes: it alone wins its view, and it may commit what it has committed.
use Rattle.std.proofs.Common.{◌≡◌, ◌≢◌, ◌⊎◌, inl, inr, ⊎_elim, ℕ, suc, ◌≤◌, ◌<◌, List, [], length, take, Bool, true, false, ◌==◌, if◌then◌else◌, Option, Some, None, slice_get, refl, sym, ap, ◌∙◌, subst, arith}
use Rattle.std.proofs.lemmas.Bool.{cases_eq, cases_lt}
use Rattle.gl_rules.specs.Identity.{NodeId, member}
use Rattle.gl_rules.specs.Book.{Book}
use Rattle.gl_rules.specs.Node.{Node, Candidate}
use Rattle.gl_rules.specs.Message.{Position}
use Rattle.gl_rules.specs.Log.{last_signature_position}
use Rattle.gl_rules.specs.Steps.{become_leader, has_votes}
use Rattle.gl_rules.specs.World.{Start}
use Rattle.gl_rules.specs.Safety.{IsOpening, IsLawful, EachFollows}
use Rattle.gl_rules.proofs.Ids.{id_tests, cases_same, by_test, share}
use Rattle.gl_rules.proofs.Lists.{Same, same_take, within}
use Rattle.gl_safety.proofs.Story.{Story, Grows, at_view, reported_win, grows_win}
use Rattle.gl_safety.proofs.Configurations.{Backed, backed_by}
use Rattle.gl_safety.proofs.Facts.{Holds, Covers, Matches, Bound, Rising, Mark, Lost, Voted, Ballots, matches_grow, lost_grow, ballots_of}
use Rattle.gl_safety.proofs.Certificates.{Sured, Below, Won, Tale, sure_grow, sured_grow}
use Rattle.gl_safety.proofs.Complete.{Winner, one_voter, winner_of, completes, newest_in}
use Rattle.gl_safety.proofs.Signatures.{last_view_is, last_zero}
use Rattle.gl_safety.proofs.Invariants.{Barred, Good, Reached, rising_of, begins_of, sure_within, settled_of, sure_to, known_in, won_grow, sured_more, shuts_grow}
use Rattle.gl_safety.proofs.Places.{MarksKnown, place_within, marks_known}

module _ {E Q G R A F : Type 0} {b : Book E Q G R A F} {s : Start E} (o : IsOpening b (EachFollows b) s) (la : IsLawful b (EachFollows b)) where
  module _ (x : NodeId) (g : Story E) (n : Node E) (t : Tale o g) (z : Good o g x n) (stood : n.role ≡ Candidate) (counts : has_votes b n ≡ true) where
    ballots_in : Backed b (λ y. member y n.votes) n.log n.commit (length n.log)
    ballots_in = backed_by b (λ y. member y n.votes) n.log n.commit (length n.log) counts

    committed_open : length s.opening ≤ n.commit
    committed_open = z.commits.opened (inl stood)

    long : length s.opening ≤ length n.log
    long = let q = settled_of o g x n.view n.role n.log n.commit n.base n.matched z.commits in omega (arith, sure_within o g n.log n.commit q.0 q.1, committed_open)

    begins : Same (length s.opening) s.opening n.log
    begins = begins_of o g t n.log z.logged.matches long

    -- its commit was certified below its view: else it would share a voter with nodes that had gone
    -- too far
    below : Below o g n.log n.commit n.view
    below = ⊎_elim
        (λ (q : Below o g n.log n.commit n.view). q)
        (λ (q : Barred o g x n.log n.commit n.view).
        let p = newest_in o n.log n.commit begins committed_open in
        let y = share (λ y. member y n.votes) (g.shut x n.view) p.1 (ballots_in.newest p.0 p.1 p.2) (q p.0 p.1 p.2) in
        absurd ((t.ballots y.0).barred n.view x y.2 (z.voter.counted stood y.0 y.1)))
        (z.commits.young stood)

    high : 2 < n.view
    high = (t.bids x n.view (last_signature_position b n.log) (z.kept.bid_is stood)).0

    top_of : (i : ℕ) → (last_signature_position b n.log).seqno ≡ suc i → (e : E) × (slice_get n.log i ≡ Some e) × (b.view_of e ≡ (last_signature_position b n.log).view)
    top_of i d = let y = last_view_is b n.log i d in (y.0, y.1, sym y.2)

    winner : Winner o g n.view
    winner = record {
      log = n.log;
      commit = n.commit;
      votes = λ y. member y n.votes;
      bid = last_signature_position b n.log;
      depth = below.2.0;
      top = below.0;
      less = below.1;
      opened = committed_open;
      within = sure_within o g n.log n.commit below.0 below.2;
      matches = z.logged.matches;
      begins = begins;
      backed = ballots_in;
      sure = below.2.1;
      lim = suc n.view;
      lim_least = omega arith;
      lim_most = omega arith;
      old = λ y a v i e d f m.
          let r = (t.ballots y).votes n.view x high (z.voter.counted stood y a) in
          let same : r.bid ≡ last_signature_position b n.log = let q = sym r.at ∙ z.kept.bid_is stood in cc in
          subst (λ (l : Position). Covers l v i ⊎ Lost b g.chief g.led v i (suc n.view)) same (r.late v i e d f m);
      bid_less = (t.bids x n.view (last_signature_position b n.log) (z.kept.bid_is stood)).1;
      bid_zero = last_zero b n.log;
      bid_top = top_of;
    }

    -- nobody else has won
    alone : g.chief n.view ≡ None
    unfolding winner_of winner
    alone = go (g.chief n.view) refl
      where
        go : (m : Option NodeId) → g.chief n.view ≡ m → m ≡ None
        go None q = refl
        go (Some c) q =
            let r = t.won n.view c high q in
            let y = one_voter o winner (winner_of o g t n.view c high r) t (completes o g t (suc n.view)) in
            let p = r.ballots y.0 (voted r y) in
            absurd (let u = sym (z.voter.counted stood y.0 y.1) ∙ p.0 in z.voter.unwon stood (let w : x ≡ c = cc in q ∙ ap Some (sym w)))
          where
            voted : (r : Won o g n.view c) → (y : (y : NodeId) × (member y n.votes ≡ true) × ((winner_of o g t n.view c high r).votes y ≡ true)) → r.votes y.0 ≡ true
            voted r y = y.2

    none : g.led n.view ≡ []
    none = t.empty n.view alone

    h : Story E
    h = reported_win x n.view n.log g

  module _ (x : NodeId) (g : Story E) (n : Node E) (t : Tale o g) (z : Good o g x n) (stood : n.role ≡ Candidate) (counts : has_votes b n ≡ true) where
    grows : Grows b.view_of x g (reported_win x n.view n.log g)
    grows = grows_win b.view_of x n.view n.log g (alone x g n t z stood counts) (none x g n t z stood counts)

    fresh_mark : (i : ℕ) (e : E) → slice_get n.log i ≡ Some e → b.view_of e ≡ n.view → ⊥
    fresh_mark i e a d = omega (arith, z.kept.fresh stood i e a)

    tale_win : Tale o (reported_win x n.view n.log g)
    tale_win = record {
      early = λ y u c a d. t.early y u c a (grows.unchief u d);
      matches = λ u. at_led (λ l. Matches b (at_view g.led n.view n.log) l) u (matches_grow b grows n.log z.logged.matches) (matches_grow b grows (g.led u) (t.matches u));
      bound = λ u. bound_at u;
      rising = λ u. at_led (Rising b) u (rising_of o g t n.log z.logged.matches) (t.rising u);
      empty = λ u d. empty_at u d;
      begins = λ u c d. begins_at u c d;
      low = λ u c d. low_at u c d;
      won = λ u c d a. won_at u c d a;
      known = λ u i e a d. known_at u i e a d;
      bids = t.bids;
      shuts = λ c w y a. shuts_grow o grows 0 w y (t.shuts c w y a);
      stood = t.stood;
      ballots = λ y. ⊎_elim (λ (q : y ≡ x). subst (Ballots b (reported_win x n.view n.log g)) (sym q) own) (λ (q : y ≢ x). ballots_of b grows y q (t.ballots y)) (cases_same y x);
      follows = λ u i e a. follows_at u i e a;
      marks = λ u. at_led (MarksKnown b) u (marks_known b la g.led n.log z.logged.matches z.sound t.follows t.matches t.marks) (t.marks u);
    }
      where
        at_led : (P : List E → Type 0) (u : ℕ) → P n.log → P (g.led u) → P (at_view g.led n.view n.log u)
        at_led P u p q = by_test P (u == n.view) n.log (g.led u) (λ d. p) (λ d. q)

        bound_at : (u : ℕ) → Bound b u (at_view g.led n.view n.log u)
        bound_at u = by_test (Bound b u) (u == n.view) n.log (g.led u) (λ d. let q : n.view ≡ u = grind (arith, id_tests) in subst (λ (w : ℕ). Bound b w n.log) q z.logged.bound) (λ d. t.bound u)

        empty_at : (u : ℕ) → at_view g.chief n.view (Some x) u ≡ None → at_view g.led n.view n.log u ≡ []
        empty_at u d = ⊎_elim (λ (q : u ≡ n.view). absurd (grind (arith, id_tests))) (λ (q : u ≢ n.view). let r = t.empty u (grows.unchief u d) in grind (arith, id_tests)) (cases_eq u n.view)

        old_chief : (u : ℕ) (c : NodeId) → u ≢ n.view → at_view g.chief n.view (Some x) u ≡ Some c → g.chief u ≡ Some c
        old_chief u c q d = grind (arith, id_tests)

        old_led : (u i : ℕ) (e : E) → u ≢ n.view → slice_get (at_view g.led n.view n.log u) i ≡ Some e → slice_get (g.led u) i ≡ Some e
        old_led u i e q d = grind (arith, id_tests)

        new_led : (u i : ℕ) (e : E) → u ≡ n.view → slice_get (at_view g.led n.view n.log u) i ≡ Some e → slice_get n.log i ≡ Some e
        new_led u i e q d = grind (arith, id_tests)

        led_new : (i : ℕ) (e : E) → slice_get n.log i ≡ Some e → slice_get (at_view g.led n.view n.log n.view) i ≡ Some e
        led_new i e d = grind (arith, id_tests)

        begins_at : (u : ℕ) (c : NodeId) → at_view g.chief n.view (Some x) u ≡ Some c → Same (length s.opening) s.opening (at_view g.led n.view n.log u)
        begins_at u c d = by_test (Same (length s.opening) s.opening) (u == n.view) n.log (g.led u) (λ q. begins x g n t z stood counts) (λ q. t.begins u c (old_chief u c (grind (arith, id_tests)) d))

        low_at : (u : ℕ) (c : NodeId) → at_view g.chief n.view (Some x) u ≡ Some c → 1 < u
        low_at u c d = ⊎_elim (λ (q : u ≡ n.view). omega (arith, z.logged.positive)) (λ (q : u ≢ n.view). t.low u c (old_chief u c q d)) (cases_eq u n.view)

        here : Won o (reported_win x n.view n.log g) n.view x
        here = let below_ = below x g n t z stood counts in record {
          log = n.log;
          commit = n.commit;
          votes = λ y. member y n.votes;
          bid = last_signature_position b n.log;
          depth = below_.2.0;
          top = below_.0;
          less = below_.1;
          opened = committed_open x g n t z stood counts;
          within = sure_within o g n.log n.commit below_.0 below_.2;
          matches = matches_grow b grows n.log z.logged.matches;
          begins = begins x g n t z stood counts;
          backed = ballots_in x g n t z stood counts;
          sure = sure_grow o grows below_.2.0 n.log n.log (λ i e a. a) n.commit below_.0 below_.2.1;
          at = z.kept.bid_is stood;
          ballots = λ y a. let r = z.voter.counted stood y a in (r, t.early y n.view x r (alone x g n t z stood counts));
          bid_less = (t.bids x n.view (last_signature_position b n.log) (z.kept.bid_is stood)).1;
          bid_zero = last_zero b n.log;
          bid_top = top_of x g n t z stood counts;
          prefix = led_new;
        }

        won_at : (u : ℕ) (c : NodeId) → 2 < u → at_view g.chief n.view (Some x) u ≡ Some c → Won o (reported_win x n.view n.log g) u c
        won_at u c d a = ⊎_elim
            (λ (q : u ≡ n.view). let r : x ≡ c = grind (arith, id_tests) in subst (λ (w : ℕ). Won o (reported_win x n.view n.log g) w c) (sym q) (subst (Won o (reported_win x n.view n.log g) n.view) r here))
            (λ (q : u ≢ n.view). won_grow o grows u c (t.won u c d (old_chief u c q a)))
            (cases_eq u n.view)

        known_at : (u i : ℕ) (e : E) → slice_get (at_view g.led n.view n.log u) i ≡ Some e → b.is_signature e ≡ true → (b.recorded_commit e ≤ suc i) × Sured o (reported_win x n.view n.log g) (at_view g.led n.view n.log u) (b.recorded_commit e) u
        known_at u i e a d = ⊎_elim
            (λ (q : u ≡ n.view).
            let r = known_in o g t n.log i e n.view z.logged.matches z.logged.bound (new_led u i e q a) d in (
              r.0,
              subst (λ (w : ℕ). Sured o (reported_win x n.view n.log g) (at_view g.led n.view n.log w) (b.recorded_commit e) w) (sym q)
                  (sured_grow o grows n.log (at_view g.led n.view n.log n.view) led_new (b.recorded_commit e) n.view r.1),
            ))
            (λ (q : u ≢ n.view).
            let r = t.known u i e (old_led u i e q a) d in
            (r.0, sured_grow o grows (g.led u) (at_view g.led n.view n.log u) (grows.led u) (b.recorded_commit e) u r.1))
            (cases_eq u n.view)

        follows_at : (u i : ℕ) (e : E) → slice_get (at_view g.led n.view n.log u) i ≡ Some e → b.breaks 0 (take i (at_view g.led n.view n.log u)) e ≡ None
        follows_at u i e a = go (u == n.view) a
          where
            mine : slice_get n.log i ≡ Some e → b.breaks 0 (take i n.log) e ≡ None
            mine a =
                let r = z.logged.matches.below i i e e a (omega arith) a in
                let cut : take i n.log ≡ take i (g.led (b.view_of e)) = same_take i n.log (g.led (b.view_of e)) (omega (arith, within n.log i e a)) (λ j y d w. z.logged.matches.below i j e y a (omega arith) w) in
                ap (λ l. b.breaks 0 l e) cut ∙ t.follows (b.view_of e) i e r

            go : (m : Bool) → slice_get (if m then n.log else g.led u) i ≡ Some e → b.breaks 0 (take i (if m then n.log else g.led u)) e ≡ None
            go true a = mine a
            go false a = t.follows u i e a

        own : Ballots b (reported_win x n.view n.log g) x
        own = record {
          votes = λ w c d a.
              let r = (t.ballots x).votes w c d a in
              let small : w ≤ n.view = ⊎_elim (λ (q : n.view < w). absurd (let y = z.voter.later w q in cc)) (λ (q : w ≤ n.view). q) (cases_lt n.view w) in
              record {
                bid = r.bid;
                at = r.at;
                old = λ f u i e y q m. back r u i e w (omega arith) (r.old f u i e y (holds u i (omega arith) q) (marks u i e (omega arith) m));
                late = λ u i e y q m. back r u i e (suc w) (omega arith) (r.late u i e y (holds u i (omega arith) q) (marks u i e (omega arith) m));
              };
          barred = (t.ballots x).barred;
          within = λ v i a. let r = (t.ballots x).within v i a in (r.0, grows.led v i r.0 r.1);
        }
          where
            holds : (u i : ℕ) → u ≢ n.view → (i < g.held x u) ⊎ (at_view g.chief n.view (Some x) u ≡ Some x) → Holds g x u i
            holds u i d q = ⊎_elim (λ (f : i < g.held x u). inl f) (λ (f : at_view g.chief n.view (Some x) u ≡ Some x). inr (old_chief u x d f)) q

            marks : (u i : ℕ) (e : E) → u ≢ n.view → Mark b (at_view g.led n.view n.log) u i e → Mark b g.led u i e
            marks u i e d m = record { at = old_led u i e d m.at; view = m.view; signs = m.signs }

            back : {w : ℕ} {c : NodeId} (r : Voted b g x w c) (u i : ℕ) (e : E) (top : ℕ) → u ≢ n.view → Covers r.bid u i ⊎ Lost b g.chief g.led u i top → Covers r.bid u i ⊎ Lost b (at_view g.chief n.view (Some x)) (at_view g.led n.view n.log) u i top
            back r u i e top d q = ⊎_elim (λ (f : Covers r.bid u i). inl f) (λ (f : Lost b g.chief g.led u i top). inr (lost_grow b grows u i top f)) q

    pub made_win : Reached o x g (become_leader n) []
    made_win = (reported_win x n.view n.log g, record { grow = grows; tale = tale_win; good = good; sent = tt; commits = λ v. inl refl })
      where
        at_new : (i : ℕ) (e : E) → slice_get (at_view g.led n.view n.log n.view) i ≡ Some e → slice_get n.log i ≡ Some e
        at_new i e d = grind (arith, id_tests)

        led_here : at_view g.led n.view n.log n.view ≡ n.log
        led_here = grind (arith, id_tests)

        sure_h : (c u : ℕ) → Sured o g n.log c u → Sured o (reported_win x n.view n.log g) n.log c u
        sure_h c u q = sured_more o grows n.log c u q

        good : Good o (reported_win x n.view n.log g) x (become_leader n)
        good = record {
          voter = record {
            cast = z.voter.cast;
            later = z.voter.later;
            counted = λ r y a. absurd (cc);
            won = λ v a. ⊎_elim (λ (q : v ≡ n.view). omega arith) (λ (q : v ≢ n.view). z.voter.won v (grind (arith, id_tests))) (cases_eq v n.view);
            unwon = λ r a. absurd (cc);
            chief_is = λ r. grind (arith, id_tests);
          };
          logged = record {
            positive = z.logged.positive;
            mine = λ a. sym led_here;
            matches = matches_grow b grows n.log z.logged.matches;
            bound = z.logged.bound;
          };
          kept = record {
            bid_is = λ r. absurd (cc);
            unbid = z.kept.unbid;
            fresh = λ r i e a. absurd (cc);
            ends = λ r. absurd (cc);
            future = z.kept.future;
            keeps = λ v i e a m. ⊎_elim
                (λ (q : v ≡ n.view). absurd (fresh_mark i e (at_new i e (ap (λ u. slice_get (at_view g.led n.view n.log u) i) (sym q) ∙ m.at)) (m.view ∙ q)))
                (λ (q : v ≢ n.view).
                ⊎_elim (λ (f : slice_get n.log i ≡ Some e). inl f) (λ (f : Lost b g.chief g.led v i (suc n.view)). inr (lost_grow b grows v i (suc n.view) f))
                (z.kept.keeps v i e (⊎_elim (λ (f : i < g.held x v). inl f) (λ (f : at_view g.chief n.view (Some x) v ≡ Some x). inr (grind (arith, id_tests))) a)
                (record { at = let w = m.at in grind (arith, id_tests); view = m.view; signs = m.signs })))
                (cases_eq v n.view);
          };
          commits =
              let below_ = below x g n t z stood counts in
              let sure_v : Sured o (reported_win x n.view n.log g) n.log n.commit n.view = sure_to o (reported_win x n.view n.log g) n.log n.log n.commit below_.0 n.view (omega (arith, below_.1)) (λ i e d a w. a) (sure_h n.commit below_.0 below_.2) in
              record {
                bounded = inl sure_v;
                based = let q = z.commits.based in (q.0, sure_h n.base q.0 q.1);
                above = z.commits.above;
                recorded = z.commits.recorded;
                ruled = λ r. sure_v;
                young = λ r. absurd (cc);
                opened = λ r. committed_open x g n t z stood counts;
                matches = λ r y. omega arith;
                marked = λ r y m q a h d. absurd (omega (arith, place_within b b.mark la.markings n.log y m z.sound a, z.kept.ends stood));
              };
          sound = z.sound;
        }
