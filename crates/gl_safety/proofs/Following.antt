-- What a follower does: it takes entries from the leader of its view, and starts again.
use Rattle.std.proofs.Common.{◌≡◌, ◌≢◌, ◌⊎◌, inl, inr, ⊎_elim, ℕ, zero, suc, ◌≤◌, ◌<◌, min, max, List, [], take, true, Option, Some, None, slice_get, refl, sym, ap, ◌∙◌, subst, arith}
use Rattle.std.proofs.lemmas.Bool.{cases_eq, cases_lt}
use Rattle.gl_rules.specs.Identity.{NodeId}
use Rattle.gl_rules.specs.Book.{Book}
use Rattle.gl_rules.specs.Node.{Node, Role, Follower, Candidate, Leader}
use Rattle.gl_rules.specs.Log.{last_signature, greatest_recorded}
use Rattle.gl_rules.specs.Steps.{known_commit}
use Rattle.gl_rules.specs.World.{Start}
use Rattle.gl_rules.specs.Safety.{IsOpening, EachFollows}
use Rattle.gl_rules.proofs.Ids.{id_tests, cases_same, put2, put2_cases, put2_at}
use Rattle.gl_rules.proofs.Lists.{Same, there, within}
use Rattle.gl_safety.proofs.Story.{Story, Grows, reported_held, grows_held}
use Rattle.gl_safety.proofs.Facts.{Holds, Matches, Bound, Mark, Lost, Ballots, agree, is_led, matches_part, ballots_of}
use Rattle.gl_safety.proofs.Certificates.{SureOver, Cert, Sured, Tale}
use Rattle.gl_safety.proofs.Complete.{chief_of_led}
use Rattle.gl_safety.proofs.Signatures.{last_take}
use Rattle.gl_safety.proofs.Invariants.{Commits, Good, Reached, sure_to, recorded_sure, won_grow, sured_more, shuts_grow}
use Rattle.gl_rules.specs.Replication.{accept_entries}
use Rattle.gl_safety.proofs.Merging.{Merged}

module _ {E Q G R A F : Type 0} {b : Book E Q G R A F} {s : Start E} (o : IsOpening b (EachFollows b) s) where
  -- no candidate and no leader
  commits_follow : (g : Story E) (x : NodeId) (view : ℕ) (role : Role) (log : List E) (c base : ℕ) (matched : NodeId → ℕ) → Commits o g x view role log c base matched → Commits o g x view Follower log c base matched
  commits_follow g x view role log c base matched z = record {
    bounded = z.bounded;
    based = z.based;
    above = z.above;
    recorded = z.recorded;
    ruled = λ r. absurd (cc);
    young = λ r. absurd (cc);
    opened = λ r. absurd (⊎_elim (λ (q : Follower ≡ Candidate). cc) (λ (q : Follower ≡ Leader). cc) r);
    matches = λ r y. absurd (cc);
    marked = λ r. absurd (cc);
  }

  pub good_follow : (x : NodeId) (g : Story E) (n : Node E) (l : Option NodeId) → Good o g x n → Good o g x (record n { role = Follower; leader = l })
  good_follow x g n l z = record {
    voter = record { cast = z.voter.cast; later = z.voter.later; counted = λ r y a. absurd (cc); won = z.voter.won; unwon = λ r a. absurd (cc); chief_is = λ r. absurd (cc) };
    logged = z.logged;
    kept = record { bid_is = λ r. absurd (cc); unbid = z.kept.unbid; fresh = λ r i e a. absurd (cc); ends = λ r. absurd (cc); future = z.kept.future; keeps = z.kept.keeps };
    commits = commits_follow g x n.view n.role n.log n.commit n.base n.matched z.commits;
    sound = z.sound;
  }

  -- the greatest of base and what is recorded
  known_sure : (g : Story E) → Tale o g → (l : List E) (v base : ℕ) → Matches b g.led l → Bound b v l → Sured o g l (max base (greatest_recorded b l)) v ⊎ (max base (greatest_recorded b l) ≡ base)
  known_sure g t l v base p q = ⊎_elim
      (λ (h : base < greatest_recorded b l). inl (subst (λ (c : ℕ). Sured o g l c v) (omega arith) (recorded_sure o g t l v (greatest_recorded b l) p q refl)))
      (λ (h : greatest_recorded b l ≤ base). inr (omega arith))
      (cases_lt base (greatest_recorded b l))

  pub good_restart : (x : NodeId) (g : Story E) (n : Node E) (used cuts : ℕ) → Tale o g → Good o g x n →
      Good o g x (record n { role = Follower; leader = None; commit = known_commit b n; votes = []; matched = λ _. 0; next = λ _. None; start = 1; used = used; cuts = cuts })
  good_restart x g n used cuts t z = record {
    voter = record { cast = z.voter.cast; later = z.voter.later; counted = λ r y a. absurd (cc); won = z.voter.won; unwon = λ r a. absurd (cc); chief_is = λ r. absurd (cc) };
    logged = z.logged;
    kept = record { bid_is = λ r. absurd (cc); unbid = z.kept.unbid; fresh = λ r i e a. absurd (cc); ends = λ r. absurd (cc); future = z.kept.future; keeps = z.kept.keeps };
    commits = record {
      bounded = known_sure g t n.log n.view n.base z.logged.matches z.logged.bound;
      based = z.commits.based;
      above = omega arith;
      recorded = omega arith;
      ruled = λ r. absurd (cc);
      young = λ r. absurd (cc);
      opened = λ r. absurd (⊎_elim (λ (q : Follower ≡ Candidate). cc) (λ (q : Follower ≡ Leader). cc) r);
      matches = λ r y. absurd (cc);
      marked = λ r. absurd (cc);
    };
    sound = z.sound;
  }

  -- a follower takes what the leader of its view sent
  module _ (x : NodeId) (g : Story E) (n : Node E) (r : List E) (seqno theirs cuts : ℕ) (t : Tale o g) (z : Good o g x n) (follows : n.role ≡ Follower)
      (m : Merged b n.log (g.led n.view) seqno r) (kept : Same n.commit n.log r) (sound : EachFollows b r) (sure_c : Sured o g (g.led n.view) theirs n.view) where
    k : Grows b.view_of x g (reported_held x n.view seqno g)
    k = grows_held b.view_of x n.view seqno g

    matches : Matches b g.led r
    matches = ⊎_elim
        (λ (q : r ≡ n.log). subst (Matches b g.led) (sym q) z.logged.matches)
        (λ (q : ((j : ℕ) (f : E) → slice_get r j ≡ Some f → slice_get (g.led n.view) j ≡ Some f) × (d : ℕ) × (d < seqno) × ((e f : E) → slice_get n.log d ≡ Some e → slice_get (g.led n.view) d ≡ Some f → b.view_of e ≢ b.view_of f)).
        matches_part b g.led (g.led n.view) r (t.matches n.view) q.0)
        m.way

    bound : Bound b n.view r
    bound = ⊎_elim
        (λ (q : r ≡ n.log). subst (Bound b n.view) (sym q) z.logged.bound)
        (λ (q : ((j : ℕ) (f : E) → slice_get r j ≡ Some f → slice_get (g.led n.view) j ≡ Some f) × (d : ℕ) × (d < seqno) × ((e f : E) → slice_get n.log d ≡ Some e → slice_get (g.led n.view) d ≡ Some f → b.view_of e ≢ b.view_of f)).
        record { view = λ i e a. (t.bound n.view).view i e (q.0 i e a) })
        m.way

    -- an entry of r below seqno
    in_prefix : (i : ℕ) (e : E) → i < seqno → slice_get (g.led n.view) i ≡ Some e → slice_get r i ≡ Some e
    in_prefix i e h a = let y = there r i (omega (arith, m.long)) in y.1 ∙ sym (m.prefix i y.0 h y.1) ∙ a

    -- a signature that stood stays, or the leader of this view lacks it
    stays : (v i : ℕ) (e : E) → Mark b g.led v i e → slice_get n.log i ≡ Some e → (slice_get r i ≡ Some e) ⊎ Lost b g.chief g.led v i (suc n.view)
    stays v i e w a = ⊎_elim
        (λ (q : r ≡ n.log). inl (ap (λ l. slice_get l i) q ∙ a))
        (λ (q : ((j : ℕ) (f : E) → slice_get r j ≡ Some f → slice_get (g.led n.view) j ≡ Some f) × (d : ℕ) × (d < seqno) × ((e f : E) → slice_get n.log d ≡ Some e → slice_get (g.led n.view) d ≡ Some f → b.view_of e ≢ b.view_of f)).
        changed q.0 q.1 q.2 q.3)
        m.way
      where
        changed : ((j : ℕ) (f : E) → slice_get r j ≡ Some f → slice_get (g.led n.view) j ≡ Some f) → (d : ℕ) → d < seqno → ((e f : E) → slice_get n.log d ≡ Some e → slice_get (g.led n.view) d ≡ Some f → b.view_of e ≢ b.view_of f) →
            (slice_get r i ≡ Some e) ⊎ Lost b g.chief g.led v i (suc n.view)
        changed all d small differ = go (slice_get (g.led n.view) i) refl
          where
            top : (f : E) × (slice_get r d ≡ Some f)
            top = there r d (omega (arith, m.long))

            at_d : slice_get (g.led n.view) d ≡ Some top.0
            at_d = all d top.0 top.1

            has : slice_get (g.led n.view) i ≡ Some e → (slice_get r i ≡ Some e) ⊎ Lost b g.chief g.led v i (suc n.view)
            has f = ⊎_elim
                (λ (q : i < seqno). inl (in_prefix i e q f))
                (λ (q : seqno ≤ i).
                let y = there n.log d (omega (arith, within n.log i e a)) in
                let p = agree b g.led n.log (g.led n.view) i e z.logged.matches (t.matches n.view) a f d y.0 (omega arith) y.1 in
                absurd (differ y.0 y.0 y.1 p refl))
                (cases_lt i seqno)

            lost : ((f : E) → slice_get (g.led n.view) i ≡ Some f → b.view_of f ≢ v) → (v < n.view) → Lost b g.chief g.led v i (suc n.view)
            lost lacks low = let c = chief_of_led o g t n.view d top.0 at_d in record { view = n.view; above = low; below = omega arith; by = c.0; won = c.1; lacks = lacks }

            small_view : v ≤ n.view
            small_view = omega (arith, (z.logged.bound.view i e a).1, w.view)

            own : v ≡ n.view → slice_get (g.led n.view) i ≡ Some e
            own q = ap (λ u. slice_get (g.led u) i) (sym q) ∙ w.at

            go : (o : Option E) → slice_get (g.led n.view) i ≡ o → (slice_get r i ≡ Some e) ⊎ Lost b g.chief g.led v i (suc n.view)
            go None f = ⊎_elim (λ (q : v ≡ n.view). has (own q)) (λ (q : v ≢ n.view). inr (lost (λ u p. absurd (let y = sym f ∙ p in cc)) (omega (arith, small_view)))) (cases_eq v n.view)
            go (Some u) f = ⊎_elim
                (λ (q : b.view_of u ≡ v).
                let p : slice_get (g.led v) i ≡ Some u = is_led b g.led (g.led n.view) v i i u u (t.matches n.view) f q (omega arith) f in
                has (f ∙ sym p ∙ w.at))
                (λ (q : b.view_of u ≢ v). ⊎_elim
                (λ (h : v ≡ n.view). has (own h))
                (λ (h : v ≢ n.view). inr (lost (λ y p. let same : u ≡ y = let c = sym f ∙ p in cc in λ (c : b.view_of y ≡ v). q (ap b.view_of same ∙ c)) (omega (arith, small_view))))
                (cases_eq v n.view))
                (cases_eq (b.view_of u) v)

    tale_held : Tale o (reported_held x n.view seqno g)
    tale_held = record {
      early = t.early;
      matches = t.matches;
      bound = t.bound;
      rising = t.rising;
      empty = t.empty;
      begins = t.begins;
      low = t.low;
      won = λ u c d a. won_grow o k u c (t.won u c d a);
      known = λ u i e a d. let r = t.known u i e a d in (r.0, sured_more o k (g.led u) (b.recorded_commit e) u r.1);
      bids = t.bids;
      shuts = λ c w y a. shuts_grow o k 0 w y (t.shuts c w y a);
      stood = t.stood;
      ballots = λ y. ⊎_elim (λ (q : y ≡ x). subst (Ballots b (reported_held x n.view seqno g)) (sym q) own) (λ (q : y ≢ x). ballots_of b k y q (t.ballots y)) (cases_same y x);
      follows = t.follows;
      marks = t.marks;
    }
      where
        holds : (u i : ℕ) → u ≢ n.view → (i < put2 g.held x n.view (max (g.held x n.view) seqno) x u) ⊎ (g.chief u ≡ Some x) → Holds g x u i
        holds u i d q = ⊎_elim (λ (f : i < put2 g.held x n.view (max (g.held x n.view) seqno) x u). inl (grind (arith, id_tests))) (λ (f : g.chief u ≡ Some x). inr f) q

        own : Ballots b (reported_held x n.view seqno g) x
        own = record {
          votes = λ w c d a.
              let v = (t.ballots x).votes w c d a in
              let small : w ≤ n.view = ⊎_elim (λ (q : n.view < w). absurd (let y = z.voter.later w q in cc)) (λ (q : w ≤ n.view). q) (cases_lt n.view w) in
              record {
                bid = v.bid;
                at = v.at;
                old = λ f u i e y q j. v.old f u i e y (holds u i (omega arith) q) j;
                late = λ u i e y q j. v.late u i e y (holds u i (omega arith) q) j;
              };
          barred = (t.ballots x).barred;
          within = λ v i a. ⊎_elim
              (λ (q : (x ≡ x) × (v ≡ n.view) × (put2 g.held x n.view (max (g.held x n.view) seqno) x v ≡ max (g.held x n.view) seqno)).
              ⊎_elim
              (λ (h : i < seqno). let y = there r i (omega (arith, m.long)) in (y.0, ap (λ u. slice_get (g.led u) i) q.1 ∙ m.prefix i y.0 h y.1))
              (λ (h : seqno ≤ i). let y = (t.ballots x).within n.view i (omega (arith, q.2)) in (y.0, ap (λ u. slice_get (g.led u) i) q.1 ∙ y.1))
              (cases_lt i seqno))
              (λ (q : put2 g.held x n.view (max (g.held x n.view) seqno) x v ≡ g.held x v). (t.ballots x).within v i (omega (arith, q)))
              (put2_cases g.held x n.view (max (g.held x n.view) seqno) x v);
        }

    -- the last signature at or below the sender's commit
    sure_below : (q : ℕ) → last_signature b (take (min theirs seqno) r) ≡ q → Sured o g r q n.view
    sure_below zero d = (0, inl refl)
    sure_below (suc i) d = (
      sure_c.0,
      ⊎_elim
          (λ (q : theirs ≡ 0). absurd (omega (arith, y.1)))
          (λ (q : SureOver o (Cert o sure_c.0 g) g (g.led n.view) theirs n.view). inr (record {
            i = i;
            seqno = refl;
            entry = y.0;
            at = y.2;
            signs = y.3;
            v = q.v;
            j = q.j;
            last = q.last;
            mark = q.mark;
            cert = q.cert;
            le = omega (arith, q.le, q.seqno, y.1);
            top = q.top;
            done = omega (arith, q.done, y.1);
            leads = agree b g.led (g.led n.view) (g.led q.v) q.i q.entry (t.matches n.view) (t.matches q.v) q.at q.leads i y.0 (omega (arith, q.seqno, y.1)) (m.prefix i y.0 (omega (arith, y.1)) y.2);
          }))
          sure_c.1,
    )
      where
        y : (e : E) × (i < min theirs seqno) × (slice_get r i ≡ Some e) × (b.is_signature e ≡ true)
        y = last_take b (min theirs seqno) r i d

    after : ℕ
    after = max (max n.commit (max n.base (greatest_recorded b r))) (last_signature b (take (min theirs seqno) r))

    stays_sure : (c u w : ℕ) → u ≤ w → c ≤ n.commit → Sured o g n.log c u → Sured o g r c w
    stays_sure c u w d h q = sure_to o g n.log r c u w d (λ i e p a f. kept i e (omega (arith, p)) a) q

    after_sure : Sured o g r (max (max n.commit (max n.base (greatest_recorded b r))) (last_signature b (take (min theirs seqno) r))) n.view ⊎ (max (max n.commit (max n.base (greatest_recorded b r))) (last_signature b (take (min theirs seqno) r)) ≡ n.base)
    after_sure = ⊎_elim
        (λ (h : max n.commit (max n.base (greatest_recorded b r)) < last_signature b (take (min theirs seqno) r)).
        inl (subst (λ (c : ℕ). Sured o g r c n.view) (omega arith) (sure_below (last_signature b (take (min theirs seqno) r)) refl)))
        (λ (h : last_signature b (take (min theirs seqno) r) ≤ max n.commit (max n.base (greatest_recorded b r))). ⊎_elim
        (λ (d : n.commit < max n.base (greatest_recorded b r)). ⊎_elim
        (λ (q : Sured o g r (max n.base (greatest_recorded b r)) n.view). inl (subst (λ (c : ℕ). Sured o g r c n.view) (omega arith) q))
        (λ (q : max n.base (greatest_recorded b r) ≡ n.base). inr (omega arith))
        (known_sure g t r n.view n.base matches bound))
        (λ (d : max n.base (greatest_recorded b r) ≤ n.commit). ⊎_elim
        (λ (q : Sured o g n.log n.commit n.view). inl (subst (λ (c : ℕ). Sured o g r c n.view) (omega arith) (stays_sure n.commit n.view n.view (omega arith) (omega arith) q)))
        (λ (q : n.commit ≡ n.base). inr (omega arith))
        z.commits.bounded)
        (cases_lt n.commit (max n.base (greatest_recorded b r))))
        (cases_lt (max n.commit (max n.base (greatest_recorded b r))) (last_signature b (take (min theirs seqno) r)))

    pub made_accept : (y : NodeId) → Reached o x g (accept_entries b x y seqno theirs (record n { log = r; cuts = cuts })).node (accept_entries b x y seqno theirs (record n { log = r; cuts = cuts })).sent
    made_accept y = (reported_held x n.view seqno g, record { grow = k; tale = tale_held; good = good; commits = λ v. inl refl; sent = (let q = put2_at g.held x n.view (max (g.held x n.view) seqno) in omega arith, tt) })
      where
        n1 : Node E
        n1 = record n { log = r; cuts = cuts; commit = max (max n.commit (max n.base (greatest_recorded b r))) (last_signature b (take (min theirs seqno) r)) }

        good : Good o (reported_held x n.view seqno g) x (record n { log = r; cuts = cuts; commit = max (max n.commit (max n.base (greatest_recorded b r))) (last_signature b (take (min theirs seqno) r)) })
        good = record {
          voter = z.voter;
          logged = record {
            positive = z.logged.positive;
            mine = λ a. ⊎_elim
                (λ (q : r ≡ n.log). q ∙ z.logged.mine a)
                (λ (q : ((j : ℕ) (f : E) → slice_get r j ≡ Some f → slice_get (g.led n.view) j ≡ Some f) × (d : ℕ) × (d < seqno) × ((e f : E) → slice_get n.log d ≡ Some e → slice_get (g.led n.view) d ≡ Some f → b.view_of e ≢ b.view_of f)).
                let y = there r q.1 (omega (arith, m.long, q.2)) in
                let p = q.0 q.1 y.0 y.1 in
                absurd (q.3 y.0 y.0 (ap (λ l. slice_get l q.1) (z.logged.mine a) ∙ p) p refl))
                m.way;
            matches = matches;
            bound = bound;
          };
          kept = record {
            bid_is = λ e. absurd (cc);
            unbid = z.kept.unbid;
            fresh = λ e i f a. absurd (cc);
            ends = λ e. absurd (cc);
            future = λ v a. let q = z.kept.future v a in grind (arith, id_tests);
            keeps = λ v i e a w. ⊎_elim
                (λ (q : i < put2 g.held x n.view (max (g.held x n.view) seqno) x v). ⊎_elim
                (λ (d : (x ≡ x) × (v ≡ n.view) × (put2 g.held x n.view (max (g.held x n.view) seqno) x v ≡ max (g.held x n.view) seqno)). ⊎_elim
                (λ (h : i < seqno). inl (in_prefix i e h (ap (λ u. slice_get (g.led u) i) (sym d.1) ∙ w.at)))
                (λ (h : seqno ≤ i). again v i e w (inl (let f : i < g.held x n.view = omega (arith, d.2) in subst (λ (u : ℕ). i < g.held x u) (sym d.1) f)))
                (cases_lt i seqno))
                (λ (d : put2 g.held x n.view (max (g.held x n.view) seqno) x v ≡ g.held x v). again v i e w (inl (omega arith)))
                (put2_cases g.held x n.view (max (g.held x n.view) seqno) x v))
                (λ (q : g.chief v ≡ Some x). again v i e w (inr q))
                a;
          };
          commits = record {
            bounded = ⊎_elim (λ (q : Sured o g r (max (max n.commit (max n.base (greatest_recorded b r))) (last_signature b (take (min theirs seqno) r))) n.view). inl (sured_more o k r (max (max n.commit (max n.base (greatest_recorded b r))) (last_signature b (take (min theirs seqno) r))) n.view q))
                (λ (q : max (max n.commit (max n.base (greatest_recorded b r))) (last_signature b (take (min theirs seqno) r)) ≡ n.base). inr q) after_sure;
            based = let q = z.commits.based in (q.0, sured_more o k r n.base q.0 (stays_sure n.base q.0 q.0 (omega arith) z.commits.above q.1));
            above = omega (arith, z.commits.above);
            recorded = omega arith;
            ruled = λ e. absurd (cc);
            young = λ e. absurd (cc);
            opened = λ e. absurd (⊎_elim (λ (q : n.role ≡ Candidate). cc) (λ (q : n.role ≡ Leader). cc) e);
            matches = λ e y. absurd (cc);
            marked = λ e. absurd (cc);
          };
          sound = sound;
        }
          where
            again : (v i : ℕ) (e : E) → Mark b g.led v i e → Holds g x v i → (slice_get r i ≡ Some e) ⊎ Lost b g.chief g.led v i (suc n.view)
            again v i e w a = ⊎_elim (λ (q : slice_get n.log i ≡ Some e). stays v i e w q) (λ (q : Lost b g.chief g.led v i (suc n.view)). inr q) (z.kept.keeps v i e a w)
