-- What a leader does: its log grows by an entry, nodes acknowledge, and it commits.
use Rattle.std.proofs.Common.{◌≡◌, ◌≢◌, ◌⊎◌, inl, inr, ⊎_elim, ℕ, zero, suc, ◌≤◌, ◌<◌, max, List, [], ◌∷◌, ◌++◌, length, take, Bool, true, false, ◌&&◌, ◌||◌, ◌==◌, nat_lt, nat_le, if◌then◌else◌, Option, Some, None, slice_get, refl, sym, ap, ◌∙◌, subst, true≢false, length-append, arith}
use Rattle.std.proofs.lemmas.Bool.{cases_eq, cases_lt}
use Rattle.std.proofs.lemmas.Bool.Decides.{nat_tests}
use Rattle.gl_rules.specs.Identity.{NodeId, same}
use Rattle.gl_rules.specs.Majority.{quorum}
use Rattle.gl_rules.specs.Book.{Book}
use Rattle.gl_rules.specs.Node.{Node, Leader}
use Rattle.gl_rules.specs.Log.{last_signature, is_signature_in}
use Rattle.gl_rules.specs.Configuration.{active_upto}
use Rattle.gl_rules.specs.Steps.{append_entry}
use Rattle.gl_rules.specs.World.{Start}
use Rattle.gl_rules.specs.Safety.{IsOpening, IsLawful, EachFollows}
use Rattle.gl_rules.proofs.Ids.{id_tests, same_is, cases_same, put_all, by_test}
use Rattle.gl_rules.proofs.Lists.{Same, same_take, within, get_left, get_push, take_whole}
use Rattle.gl_safety.proofs.Story.{Story, Grows, at_view, reported_led, reported_committed, grows_led, grows_committed}
use Rattle.gl_safety.proofs.Configurations.{Backed, backed_by}
use Rattle.gl_safety.proofs.Facts.{Holds, Covers, Matches, Bound, Rising, Mark, Lost, Voted, Ballots, matches_grow, lost_grow, ballots_of}
use Rattle.gl_safety.proofs.Certificates.{Cert, Sure, Sured, Tale, sured_grow}
use Rattle.gl_safety.proofs.Signatures.{last_signs, recorded_le, recorded_bound, last_more}
use Rattle.gl_safety.proofs.Invariants.{Good, Made, Reached, rising_of, sure_within, known_in, won_grow, sured_more, commits_more, shuts_grow}
use Rattle.gl_rules.proofs.Soundness.{sound_push}
use Rattle.gl_safety.proofs.Places.{MarksKnown, place_same, mark_entry, marks_known}
use Rattle.gl_rules.specs.Replication.{update_match, lower_next, may_commit}

module _ {E Q G R A F : Type 0} {b : Book E Q G R A F} {s : Start E} (o : IsOpening b (EachFollows b) s) (la : IsLawful b (EachFollows b)) where
  -- a leader's log grows by an entry of its view
  module _ (x : NodeId) (g : Story E) (n : Node E) (e : E) (t : Tale o g) (z : Good o g x n) (rules : n.role ≡ Leader) (view_is : b.view_of e ≡ n.view)
      (follows : b.breaks 0 n.log e ≡ None) (records : b.is_signature e ≡ true → b.recorded_commit e ≡ n.commit)
      (unmarked : (y : NodeId) (m q : ℕ) → b.mark (n.log ++ e ∷ []) y ≡ Some m → b.removal n.log y ≡ Some q → (b.mark n.log y ≡ Some m) ⊎ (q ≤ n.commit)) where
    won : g.chief n.view ≡ Some x
    won = z.voter.chief_is rules

    mine : n.log ≡ g.led n.view
    mine = z.logged.mine won

    old_in : (i : ℕ) (f : E) → slice_get (g.led n.view) i ≡ Some f → slice_get (n.log ++ e ∷ []) i ≡ Some f
    old_in i f a = get_left n.log (e ∷ []) i f (ap (λ l. slice_get l i) mine ∙ a)

    grows : Grows b.view_of x g (reported_led n.view (n.log ++ e ∷ []) g)
    grows = grows_led b.view_of x n.view (n.log ++ e ∷ []) g won old_in
        (λ i f a. ⊎_elim (λ (q : slice_get n.log i ≡ Some f). inl (ap (λ l. slice_get l i) (sym mine) ∙ q)) (λ (q : (i ≡ length n.log) × (f ≡ e)). inr (ap b.view_of q.1 ∙ view_is)) (get_push n.log e i f a))

    here : at_view g.led n.view (n.log ++ e ∷ []) n.view ≡ n.log ++ e ∷ []
    here = grind (arith, id_tests)

    pushed : (i : ℕ) (f : E) → slice_get n.log i ≡ Some f → slice_get (n.log ++ e ∷ []) i ≡ Some f
    pushed i f a = get_left n.log (e ∷ []) i f a

    matches : Matches b (at_view g.led n.view (n.log ++ e ∷ [])) (n.log ++ e ∷ [])
    matches = record {
      below = λ i j f d a h w. ⊎_elim
          (λ (q : slice_get n.log i ≡ Some f).
          let old : slice_get n.log j ≡ Some d = ⊎_elim (λ (r : slice_get n.log j ≡ Some d). r) (λ (r : (j ≡ length n.log) × (d ≡ e)). absurd (omega (arith, r.0, within n.log i f q))) (get_push n.log e j d w) in
          grows.led (b.view_of f) j d (z.logged.matches.below i j f d q h old))
          (λ (q : (i ≡ length n.log) × (f ≡ e)).
          ap (λ v. slice_get (at_view g.led n.view (n.log ++ e ∷ []) v) j) (ap b.view_of q.1 ∙ view_is) ∙ ap (λ l. slice_get l j) here ∙ w)
          (get_push n.log e i f a);
    }

    bound : Bound b n.view (n.log ++ e ∷ [])
    bound = record {
      view = λ i f a. ⊎_elim
          (λ (q : slice_get n.log i ≡ Some f). z.logged.bound.view i f q)
          (λ (q : (i ≡ length n.log) × (f ≡ e)). let r = ap b.view_of q.1 ∙ view_is in (omega (arith, z.logged.positive), omega arith))
          (get_push n.log e i f a);
    }

    rising : Rising b (n.log ++ e ∷ [])
    rising = record {
      rising = λ i j f d h a w. ⊎_elim
          (λ (q : slice_get n.log j ≡ Some d).
          let old : slice_get n.log i ≡ Some f = ⊎_elim (λ (r : slice_get n.log i ≡ Some f). r) (λ (r : (i ≡ length n.log) × (f ≡ e)). absurd (omega (arith, r.0, within n.log j d q))) (get_push n.log e i f a) in
          (rising_of o g t n.log z.logged.matches).rising i j f d h old q)
          (λ (q : (j ≡ length n.log) × (d ≡ e)). omega (arith, (bound.view i f a).1, ap b.view_of q.1 ∙ view_is))
          (get_push n.log e j d w);
    }

    sure_n : Sured o g n.log n.commit n.view
    sure_n = z.commits.ruled rules

    at_led : (P : List E → Type 0) (u : ℕ) → P (n.log ++ e ∷ []) → P (g.led u) → P (at_view g.led n.view (n.log ++ e ∷ []) u)
    at_led P u p q = by_test P (u == n.view) (n.log ++ e ∷ []) (g.led u) (λ d. p) (λ d. q)

    old_led : (u i : ℕ) (f : E) → u ≢ n.view → slice_get (at_view g.led n.view (n.log ++ e ∷ []) u) i ≡ Some f → slice_get (g.led u) i ≡ Some f
    old_led u i f q d = grind (arith, id_tests)

    known_here : (i : ℕ) (f : E) → slice_get (n.log ++ e ∷ []) i ≡ Some f → b.is_signature f ≡ true → (b.recorded_commit f ≤ suc i) × Sured o (reported_led n.view (n.log ++ e ∷ []) g) (n.log ++ e ∷ []) (b.recorded_commit f) n.view
    known_here i f a d = ⊎_elim
        (λ (q : slice_get n.log i ≡ Some f).
        let r = known_in o g t n.log i f n.view z.logged.matches z.logged.bound q d in
        (r.0, sured_grow o grows n.log (n.log ++ e ∷ []) pushed (b.recorded_commit f) n.view r.1))
        (λ (q : (i ≡ length n.log) × (f ≡ e)).
        let r : b.recorded_commit f ≡ n.commit = ap b.recorded_commit q.1 ∙ records (ap b.is_signature (sym q.1) ∙ d) in (
          omega (arith, q.0, sure_within o g n.log n.commit n.view sure_n),
          subst (λ (c : ℕ). Sured o (reported_led n.view (n.log ++ e ∷ []) g) (n.log ++ e ∷ []) c n.view) (sym r) (sured_grow o grows n.log (n.log ++ e ∷ []) pushed n.commit n.view sure_n),
        ))
        (get_push n.log e i f a)

    follows_here : (i : ℕ) (f : E) → slice_get (n.log ++ e ∷ []) i ≡ Some f → b.breaks 0 (take i (n.log ++ e ∷ [])) f ≡ None
    follows_here i f a = ⊎_elim
        (λ (q : slice_get n.log i ≡ Some f).
        let cut : take i n.log ≡ take i (n.log ++ e ∷ []) = same_take i n.log (n.log ++ e ∷ []) (omega (arith, within n.log i f q)) (λ j y d w. pushed j y w) in
        let r : b.breaks 0 (take i (g.led n.view)) f ≡ None = t.follows n.view i f (ap (λ l. slice_get l i) (sym mine) ∙ q) in
        ap (λ l. b.breaks 0 l f) (sym cut) ∙ ap (λ l. b.breaks 0 (take i l) f) mine ∙ r)
        (λ (q : (i ≡ length n.log) × (f ≡ e)).
        let cut : take i n.log ≡ take i (n.log ++ e ∷ []) = same_take i n.log (n.log ++ e ∷ []) (omega (arith, q.0)) (λ j y d w. pushed j y w) in
        let all : take i n.log ≡ n.log = ap (λ k. take k n.log) q.0 ∙ take_whole n.log in
        ap (λ l. b.breaks 0 l f) (sym cut ∙ all) ∙ ap (b.breaks 0 n.log) q.1 ∙ follows)
        (get_push n.log e i f a)

    sound : EachFollows b (n.log ++ e ∷ [])
    sound = sound_push b n.log e z.sound follows

    only_old : Same (length n.log) (n.log ++ e ∷ []) n.log
    only_old j f h a = ⊎_elim (λ (q : slice_get n.log j ≡ Some f). q) (λ (q : (j ≡ length n.log) × (f ≡ e)). absurd (omega (arith, q.0))) (get_push n.log e j f a)

    longer : length n.log ≤ length (n.log ++ e ∷ [])
    longer = omega (arith, length-append n.log (e ∷ []))

    -- of a mark the removal is older than the new entry
    removal_old : (y : NodeId) (m q : ℕ) → b.mark (n.log ++ e ∷ []) y ≡ Some m → b.removal (n.log ++ e ∷ []) y ≡ Some q → b.removal n.log y ≡ Some q
    removal_old y m q a d =
        let en = mark_entry b la (n.log ++ e ∷ []) y m sound a in
        let same : q ≡ en.5.0 = let t_ = sym d ∙ en.5.2 in cc in
        place_same b b.removal la.removals (n.log ++ e ∷ []) n.log y q (length n.log) sound z.sound longer only_old
        (omega (arith, same, en.5.1, within (n.log ++ e ∷ []) en.0 en.2 en.3, length-append n.log (e ∷ []))) d

    mark_old : (y : NodeId) (m : ℕ) → m ≤ length n.log → b.mark (n.log ++ e ∷ []) y ≡ Some m → b.mark n.log y ≡ Some m
    mark_old y m h a = place_same b b.mark la.markings (n.log ++ e ∷ []) n.log y m (length n.log) sound z.sound longer only_old h a

    known_marks : MarksKnown b n.log
    known_marks = marks_known b la g.led n.log z.logged.matches z.sound t.follows t.matches t.marks

    -- the commit of a leader is not below the removal of a node with a mark
    covered : (y : NodeId) (m q : ℕ) → b.mark n.log y ≡ Some m → b.removal n.log y ≡ Some q → q ≤ n.commit
    covered y m q a d = ⊎_elim
        (λ (h : last_signature b n.log < m). z.commits.marked rules y m q a h d)
        (λ (h : m ≤ last_signature b n.log). below (last_signature b n.log) refl h)
        (cases_lt (last_signature b n.log) m)
      where
        en : (i : ℕ) × (m ≡ suc i) × (f : E) × (slice_get n.log i ≡ Some f) × (b.is_signature f ≡ false) × ((r : ℕ) × (r ≤ i) × (b.removal n.log y ≡ Some r))
        en = mark_entry b la n.log y m z.sound a

        below : (k : ℕ) → last_signature b n.log ≡ k → m ≤ last_signature b n.log → q ≤ n.commit
        below zero c h = absurd (omega (arith, en.1))
        below (suc k) c h =
            let u = last_signs b n.log k c in
            let other : en.0 ≢ k = λ (w : en.0 ≡ k). let p : slice_get n.log k ≡ Some en.2 = ap (slice_get n.log) (sym w) ∙ en.3 in let same : en.2 ≡ u.0 = let v = sym p ∙ u.1 in cc in true≢false (sym u.2 ∙ ap b.is_signature (sym same) ∙ en.4) in
            omega (arith, known_marks.known y m q a d k u.0 u.1 u.2 (omega (arith, en.1)), recorded_le b n.log k u.0 u.1 u.2, z.commits.recorded)

    marks_here : MarksKnown b (n.log ++ e ∷ [])
    marks_here = record {
      known = λ y m q a d i f c sg h. ⊎_elim
          (λ (w : slice_get n.log i ≡ Some f). known_marks.known y m q (mark_old y m (omega (arith, within n.log i f w)) a) (removal_old y m q a d) i f w sg h)
          (λ (w : (i ≡ length n.log) × (f ≡ e)).
          omega (arith, covered y m q (mark_old y m (omega (arith, w.0)) a) (removal_old y m q a d), ap b.recorded_commit w.1 ∙ records (ap b.is_signature (sym w.1) ∙ sg)))
          (get_push n.log e i f c);
    }

    own : Ballots b (reported_led n.view (n.log ++ e ∷ []) g) x
    own = record {
      votes = λ w c d a.
          let r = (t.ballots x).votes w c d a in
          let small : w ≤ n.view = ⊎_elim (λ (q : n.view < w). absurd (let y = z.voter.later w q in cc)) (λ (q : w ≤ n.view). q) (cases_lt n.view w) in
          record {
            bid = r.bid;
            at = r.at;
            old = λ f u i d y q m. back r u i w (r.old f u i d y q (marks u i d (omega arith) m));
            late = λ u i d y q m. back r u i (suc w) (r.late u i d y q (marks u i d (omega arith) m));
          };
      barred = (t.ballots x).barred;
      within = λ v i a. let r = (t.ballots x).within v i a in (r.0, grows.led v i r.0 r.1);
    }
      where
        marks : (u i : ℕ) (d : E) → u ≢ n.view → Mark b (at_view g.led n.view (n.log ++ e ∷ [])) u i d → Mark b g.led u i d
        marks u i d q m = record { at = old_led u i d q m.at; view = m.view; signs = m.signs }

        back : {w : ℕ} {c : NodeId} (r : Voted b g x w c) (u i top : ℕ) → Covers r.bid u i ⊎ Lost b g.chief g.led u i top → Covers r.bid u i ⊎ Lost b g.chief (at_view g.led n.view (n.log ++ e ∷ [])) u i top
        back r u i top q = ⊎_elim (λ (f : Covers r.bid u i). inl f) (λ (f : Lost b g.chief g.led u i top). inr (lost_grow b grows u i top f)) q

    tale_append : Tale o (reported_led n.view (n.log ++ e ∷ []) g)
    tale_append = record {
      early = t.early;
      matches = λ u. at_led (λ l. Matches b (at_view g.led n.view (n.log ++ e ∷ [])) l) u matches (matches_grow b grows (g.led u) (t.matches u));
      bound = λ u. by_test (Bound b u) (u == n.view) (n.log ++ e ∷ []) (g.led u) (λ d. let q : n.view ≡ u = grind (arith, id_tests) in subst (λ (w : ℕ). Bound b w (n.log ++ e ∷ [])) q bound) (λ d. t.bound u);
      rising = λ u. at_led (Rising b) u rising (t.rising u);
      empty = λ u d. ⊎_elim (λ (q : u ≡ n.view). absurd (let r : g.chief n.view ≡ None = ap g.chief (sym q) ∙ d in let y = won in cc)) (λ (q : u ≢ n.view). let r = t.empty u d in grind (arith, id_tests)) (cases_eq u n.view);
      begins = λ u c d i f h a. grows.led u i f (t.begins u c d i f h a);
      low = t.low;
      won = λ u c d a. won_grow o grows u c (t.won u c d a);
      known = λ u i f a d. ⊎_elim
          (λ (q : u ≡ n.view).
          let r = known_here i f (ap (λ l. slice_get l i) (sym here) ∙ ap (λ v. slice_get (at_view g.led n.view (n.log ++ e ∷ []) v) i) (sym q) ∙ a) d in (
            r.0,
            subst (λ (w : ℕ). Sured o (reported_led n.view (n.log ++ e ∷ []) g) (at_view g.led n.view (n.log ++ e ∷ []) w) (b.recorded_commit f) w) (sym q)
                (subst (λ (l : List E). Sured o (reported_led n.view (n.log ++ e ∷ []) g) l (b.recorded_commit f) n.view) (sym here) r.1),
          ))
          (λ (q : u ≢ n.view).
          let r = t.known u i f (old_led u i f q a) d in
          (r.0, sured_grow o grows (g.led u) (at_view g.led n.view (n.log ++ e ∷ []) u) (grows.led u) (b.recorded_commit f) u r.1))
          (cases_eq u n.view);
      bids = t.bids;
      shuts = λ c w y a. shuts_grow o grows 0 w y (t.shuts c w y a);
      stood = t.stood;
      ballots = λ y. ⊎_elim (λ (q : y ≡ x). subst (Ballots b (reported_led n.view (n.log ++ e ∷ []) g)) (sym q) own) (λ (q : y ≢ x). ballots_of b grows y q (t.ballots y)) (cases_same y x);
      follows = λ u i f a. follows_at u i f (u == n.view) a;
      marks = λ u. at_led (MarksKnown b) u marks_here (t.marks u);
    }
      where
        follows_at : (u i : ℕ) (f : E) (m : Bool) → slice_get (if m then n.log ++ e ∷ [] else g.led u) i ≡ Some f → b.breaks 0 (take i (if m then n.log ++ e ∷ [] else g.led u)) f ≡ None
        follows_at u i f true a = follows_here i f a
        follows_at u i f false a = t.follows u i f a

    pub made_append : Reached o x g (append_entry n e) []
    made_append = (reported_led n.view (n.log ++ e ∷ []) g, record { grow = grows; tale = tale_append; good = good; sent = tt; commits = λ v. inl refl })
      where
        sure_h : (c u : ℕ) → Sured o g n.log c u → Sured o (reported_led n.view (n.log ++ e ∷ []) g) (n.log ++ e ∷ []) c u
        sure_h c u q = sured_grow o grows n.log (n.log ++ e ∷ []) pushed c u q

        good : Good o (reported_led n.view (n.log ++ e ∷ []) g) x (append_entry n e)
        good = record {
          voter = z.voter;
          logged = record { positive = z.logged.positive; mine = λ a. sym here; matches = matches; bound = bound };
          kept = record {
            bid_is = λ r. absurd (cc);
            unbid = z.kept.unbid;
            fresh = λ r i f a. absurd (cc);
            ends = λ r. absurd (cc);
            future = z.kept.future;
            keeps = λ v i f a m. ⊎_elim
                (λ (q : v ≡ n.view). inl (ap (λ l. slice_get l i) (sym here) ∙ ap (λ u. slice_get (at_view g.led n.view (n.log ++ e ∷ []) u) i) (sym q) ∙ m.at))
                (λ (q : v ≢ n.view). ⊎_elim (λ (d : slice_get n.log i ≡ Some f). inl (pushed i f d)) (λ (d : Lost b g.chief g.led v i (suc n.view)). inr (lost_grow b grows v i (suc n.view) d))
                (z.kept.keeps v i f a (record { at = old_led v i f q m.at; view = m.view; signs = m.signs })))
                (cases_eq v n.view);
          };
          commits = record {
            bounded = inl (sure_h n.commit n.view sure_n);
            based = let q = z.commits.based in (q.0, sure_h n.base q.0 q.1);
            above = z.commits.above;
            recorded = recorded_bound b (n.log ++ e ∷ []) n.commit (λ i f a d. ⊎_elim
                (λ (q : slice_get n.log i ≡ Some f). omega (arith, recorded_le b n.log i f q d, z.commits.recorded))
                (λ (q : (i ≡ length n.log) × (f ≡ e)). omega (arith, ap b.recorded_commit q.1 ∙ records (ap b.is_signature (sym q.1) ∙ d)))
                (get_push n.log e i f a));
            ruled = λ r. sure_h n.commit n.view sure_n;
            young = λ r. absurd (cc);
            opened = λ r. z.commits.opened r;
            matches = z.commits.matches;
            marked = λ r y m q a h d. ⊎_elim
                (λ (w : b.mark n.log y ≡ Some m). z.commits.marked rules y m q w (omega (arith, last_more b n.log (n.log ++ e ∷ []) pushed)) (removal_old y m q a d))
                (λ (w : q ≤ n.commit). w)
                (unmarked y m q a (removal_old y m q a d));
          };
          sound = sound;
        }

  pub good_used : (x : NodeId) (g h : Story E) (n : Node E) (k : ℕ) → Made o x g h n [] → Made o x g h (record n { used = k }) []
  good_used x g h n k m = record { commits = m.commits; grow = m.grow; tale = m.tale; good = record { voter = m.good.voter; logged = m.good.logged; kept = m.good.kept; commits = m.good.commits; sound = m.good.sound }; sent = m.sent }

  pub good_acknowledged : (x y : NodeId) (seqno : ℕ) (g : Story E) (n : Node E) → Good o g x n → seqno ≤ g.held y n.view → Good o g x (update_match b y seqno n)
  good_acknowledged x y seqno g n z h = record {
    voter = z.voter;
    logged = z.logged;
    kept = z.kept;
    commits = record {
      bounded = z.commits.bounded;
      based = z.commits.based;
      above = z.commits.above;
      recorded = z.commits.recorded;
      ruled = z.commits.ruled;
      young = z.commits.young;
      opened = z.commits.opened;
      matches = λ r u. put_all (λ w m. m ≤ g.held w n.view) n.matched y (max (n.matched y) seqno) (omega (arith, z.commits.matches r y)) (λ w d. z.commits.matches r w) u;
      marked = z.commits.marked;
    };
    sound = z.sound;
  }

  pub good_sent_back : (x y : NodeId) (seqno : ℕ) (g : Story E) (n : Node E) → Good o g x n → Good o g x (lower_next b y seqno n)
  good_sent_back x y seqno g n z = record { voter = z.voter; logged = z.logged; kept = z.kept; commits = z.commits; sound = z.sound }

  -- how far a leader committed is reported
  module _ (x : NodeId) (v k : ℕ) (g : Story E) where
    committed_grows : Grows b.view_of x g (reported_committed v k g)
    committed_grows = grows_committed b.view_of x v k g

    pub committed_tale : Tale o g → Tale o (reported_committed v k g)
    committed_tale t = record {
      early = t.early;
      matches = t.matches;
      bound = t.bound;
      rising = t.rising;
      empty = t.empty;
      begins = t.begins;
      low = t.low;
      won = λ u c d a. won_grow o committed_grows u c (t.won u c d a);
      known = λ u i e a d. let r = t.known u i e a d in (r.0, sured_more o committed_grows (g.led u) (b.recorded_commit e) u r.1);
      bids = t.bids;
      shuts = t.shuts;
      stood = t.stood;
      ballots = λ y. record {
        votes = λ w c d a. let r = (t.ballots y).votes w c d a in record { bid = r.bid; at = r.at; old = r.old; late = r.late };
        barred = (t.ballots y).barred;
        within = (t.ballots y).within;
      };
      follows = t.follows;
      marks = t.marks;
    }

    pub committed_good : (y : NodeId) (n : Node E) → Good o g y n → Good o (reported_committed v k g) y n
    committed_good y n z = record {
      voter = z.voter;
      logged = z.logged;
      kept = z.kept;
      commits = commits_more o committed_grows y n.view n.role n.log n.commit n.base n.matched (λ r. refl) z.commits;
      sound = z.sound;
    }

  -- what a leader may commit
  committable : (x : NodeId) (n : Node E) (i : ℕ) → may_commit b x n (suc i) ≡ true →
      (e : E) × (slice_get n.log i ≡ Some e) × (b.is_signature e ≡ true) × (b.view_of e ≡ n.view) × (n.commit < suc i) × (quorum (λ y. same y x || nat_le (suc i) (n.matched y)) (active_upto b n.log n.commit (suc i)) ≡ true)
  committable x n i a = go (slice_get n.log i) refl a
    where
      go : (m : Option E) → slice_get n.log i ≡ m → (nat_lt n.commit (suc i) && is_signature_in b n.view m && quorum (λ y. same y x || nat_le (suc i) (n.matched y)) (active_upto b n.log n.commit (suc i))) ≡ true →
          (e : E) × (slice_get n.log i ≡ Some e) × (b.is_signature e ≡ true) × (b.view_of e ≡ n.view) × (n.commit < suc i) × (quorum (λ y. same y x || nat_le (suc i) (n.matched y)) (active_upto b n.log n.commit (suc i)) ≡ true)
      go None d w = absurd (grind (arith, nat_tests))
      go (Some e) d w = (e, d, grind (arith, nat_tests), grind (arith, nat_tests), grind (arith, nat_tests), grind (arith, nat_tests))

  pub good_commit : (x : NodeId) (g : Story E) (n : Node E) (i : ℕ) → Good o g x n → n.role ≡ Leader → may_commit b x n (suc i) ≡ true → suc i ≤ g.committed n.view → Good o g x (record n { commit = suc i })
  good_commit x g n i z rules may far = record {
    voter = z.voter;
    logged = z.logged;
    kept = z.kept;
    commits = record {
      bounded = inl sure_k;
      based = z.commits.based;
      above = omega (arith, z.commits.above, c.4);
      recorded = omega (arith, z.commits.recorded, c.4);
      ruled = λ r. sure_k;
      young = λ r. absurd (cc);
      opened = λ r. omega (arith, z.commits.opened r, c.4);
      matches = z.commits.matches;
      marked = λ r y m q a h d. omega (arith, z.commits.marked rules y m q a h d, c.4);
    };
    sound = z.sound;
  }
    where
      c : (e : E) × (slice_get n.log i ≡ Some e) × (b.is_signature e ≡ true) × (b.view_of e ≡ n.view) × (n.commit < suc i) × (quorum (λ y. same y x || nat_le (suc i) (n.matched y)) (active_upto b n.log n.commit (suc i)) ≡ true)
      c = committable x n i may

      won : g.chief n.view ≡ Some x
      won = z.voter.chief_is rules

      mine : n.log ≡ g.led n.view
      mine = z.logged.mine won

      on_led : slice_get (g.led n.view) i ≡ Some c.0
      on_led = ap (λ l. slice_get l i) (sym mine) ∙ c.1

      holds : (y : NodeId) → (same y x || nat_le (suc i) (n.matched y)) ≡ true → Holds g y n.view i
      holds y a = go (same y x) refl a
        where
          go : (m : Bool) → same y x ≡ m → (m || nat_le (suc i) (n.matched y)) ≡ true → Holds g y n.view i
          go true d w = inr (won ∙ ap Some (sym (same_is y x d)))
          go false d w = let k : suc i ≤ n.matched y = grind (arith, nat_tests) in inl (omega (arith, z.commits.matches rules y))

      ruled : Sured o g n.log n.commit n.view
      ruled = z.commits.ruled rules

      cert : Cert o (suc ruled.0) g n.view i
      cert = record {
        votes = λ y. same y x || nat_le (suc i) (n.matched y);
        commit = n.commit;
        less = omega (arith, c.4);
        opened = z.commits.opened (inr rules);
        within = within (g.led n.view) i c.0 on_led;
        backed = subst (λ (l : List E). Backed b (λ y. same y x || nat_le (suc i) (n.matched y)) l n.commit (suc i)) mine (backed_by b (λ y. same y x || nat_le (suc i) (n.matched y)) n.log n.commit (suc i) c.5);
        holds = holds;
        sure = subst (λ (l : List E). Sure o ruled.0 g l n.commit n.view) mine ruled.1;
      }

      sure_k : Sured o g n.log (suc i) n.view
      sure_k = (
        suc ruled.0,
        inr (record {
          i = i;
          seqno = refl;
          entry = c.0;
          at = c.1;
          signs = c.2;
          v = n.view;
          j = i;
          last = c.0;
          mark = record { at = on_led; view = c.3; signs = c.2 };
          cert = cert;
          le = omega arith;
          top = omega arith;
          done = omega (arith, far);
          leads = on_led;
        }),
      )
