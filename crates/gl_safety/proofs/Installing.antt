-- A node without a log takes another's committed one.
use Rattle.std.proofs.Common.{◌≡◌, ◌⊎◌, inl, inr, ⊎_elim, ℕ, zero, suc, ◌-◌, ◌≤◌, List, [], length, take, Bool, true, false, ◌&&◌, nat_lt, if◌then◌else◌, Option, Some, None, slice_get, refl, sym, ap, ◌∙◌, subst, length-take, arith}
use Rattle.std.proofs.lemmas.Bool.Decides.{nat_tests}
use Rattle.gl_rules.specs.Identity.{NodeId}
use Rattle.gl_rules.specs.Book.{Book}
use Rattle.gl_rules.specs.Node.{Node, Candidate, Leader}
use Rattle.gl_rules.specs.Log.{entry_at, view_at, last_signature}
use Rattle.gl_rules.specs.Steps.{enter_view}
use Rattle.gl_rules.specs.World.{Start}
use Rattle.gl_rules.specs.Safety.{IsOpening, IsLawful, EachFollows}
use Rattle.gl_rules.proofs.Ids.{by_test}
use Rattle.gl_rules.proofs.Lists.{there, get_take, take_get, take_nothing}
use Rattle.gl_safety.proofs.Story.{Story}
use Rattle.gl_safety.proofs.Facts.{Lost, agree, matches_part}
use Rattle.gl_safety.proofs.Certificates.{SureOver, Cert, Settled, Tale}
use Rattle.gl_safety.proofs.Signatures.{last_le, view_at_is, recorded_bound}
use Rattle.gl_safety.proofs.Invariants.{Good, rising_of, sure_within, settled_of, known_in}
use Rattle.gl_rules.proofs.Soundness.{sound_cut}
use Rattle.gl_rules.specs.Replication.{greatest_evidence, snapshot_of, is_evidence_at, with_snapshot}
use Rattle.gl_safety.proofs.Standing.{good_rise}

module _ {E Q G R A F : Type 0} {b : Book E Q G R A F} {s : Start E} (o : IsOpening b (EachFollows b) s) (la : IsLawful b (EachFollows b)) where
  evidence_is : (log : List E) (base k i : ℕ) → greatest_evidence b log base k ≡ Some i → (j : ℕ) × (i ≡ suc j) × (suc j ≤ k) × (e : E) × (slice_get log j ≡ Some e) × (b.is_evidence e ≡ true)
  unfolding greatest_evidence
  evidence_is log base zero i a = absurd (cc)
  evidence_is log base (suc k) i a = go (slice_get log k) refl a (evidence_is log base k i)
    where
      go : (m : Option E) → slice_get log k ≡ m → (if nat_lt base (suc k) && is_evidence_at b m then Some (suc k) else greatest_evidence b log base k) ≡ Some i →
          (greatest_evidence b log base k ≡ Some i → (j : ℕ) × (i ≡ suc j) × (suc j ≤ k) × (e : E) × (slice_get log j ≡ Some e) × (b.is_evidence e ≡ true)) →
          (j : ℕ) × (i ≡ suc j) × (suc j ≤ suc k) × (e : E) × (slice_get log j ≡ Some e) × (b.is_evidence e ≡ true)
      go None d w again = up (again (grind arith))
        where
          up : (j : ℕ) × (i ≡ suc j) × (suc j ≤ k) × (e : E) × (slice_get log j ≡ Some e) × (b.is_evidence e ≡ true) → (j : ℕ) × (i ≡ suc j) × (suc j ≤ suc k) × (e : E) × (slice_get log j ≡ Some e) × (b.is_evidence e ≡ true)
          up r = (r.0, r.1, omega (arith, r.2), r.3, r.4, r.5)
      go (Some e) d w again = here (nat_lt base (suc k)) (b.is_evidence e) refl w
        where
          up : (j : ℕ) × (i ≡ suc j) × (suc j ≤ k) × (e : E) × (slice_get log j ≡ Some e) × (b.is_evidence e ≡ true) → (j : ℕ) × (i ≡ suc j) × (suc j ≤ suc k) × (e : E) × (slice_get log j ≡ Some e) × (b.is_evidence e ≡ true)
          up r = (r.0, r.1, omega (arith, r.2), r.3, r.4, r.5)

          here : (p q : Bool) → b.is_evidence e ≡ q → (if p && q then Some (suc k) else greatest_evidence b log base k) ≡ Some i → (j : ℕ) × (i ≡ suc j) × (suc j ≤ suc k) × (e : E) × (slice_get log j ≡ Some e) × (b.is_evidence e ≡ true)
          here true true f w = (k, let z : suc k ≡ i = cc in sym z, omega arith, e, d, f)
          here true false f w = up (again w)
          here false q f w = up (again w)

  -- a snapshot ends at a committed signature
  pub snapshot_ends : (g : Story E) (y : NodeId) (m : Node E) (i : ℕ) → Good o g y m → snapshot_of b m ≡ Some i →
      (j : ℕ) × (i ≡ suc (suc j)) × (suc j ≤ m.commit) × (e : E) × (slice_get m.log j ≡ Some e) × (b.is_signature e ≡ true)
  snapshot_ends g y m i z a =
      let r = evidence_is m.log m.base (last_signature b (take m.commit m.log) - 1) i a in
      let low : last_signature b (take m.commit m.log) ≤ m.commit = omega (arith, last_le b (take m.commit m.log), length-take m.commit m.log) in
      let w = la.witnessed m.log r.0 r.3 z.sound r.4 r.5 in
      go r.0 r.1 (omega (arith, r.2)) w.0 w.1 w.2
    where
      go : (k : ℕ) → i ≡ suc k → suc k ≤ m.commit → (f : E) → entry_at m.log k ≡ Some f → b.is_signature f ≡ true → (j : ℕ) × (i ≡ suc (suc j)) × (suc j ≤ m.commit) × (e : E) × (slice_get m.log j ≡ Some e) × (b.is_signature e ≡ true)
      go zero d h f w v = absurd (cc)
      go (suc j) d h f w v = (j, d, omega arith, f, w, v)

  -- x takes y's log up to a committed signature
  install_at : (g : Story E) (x y : NodeId) (n m : Node E) (j : ℕ) (e : E) → Tale o g → Good o g x n → Good o g y m → n.log ≡ [] → suc j ≤ m.commit → slice_get m.log j ≡ Some e → b.is_signature e ≡ true → b.view_of e ≤ n.view →
      Good o g x (record n { log = take (suc j) m.log; base = suc j; commit = suc j })
  install_at g x y n m j e t z w none low a signs up = record {
    voter = z.voter;
    logged = record {
      positive = z.logged.positive;
      mine = λ c. absurd (let d = t.begins n.view x c 0 opening_first.0 (omega (arith, o.long)) opening_first.1 in let f = ap (λ l. slice_get l 0) (sym none ∙ z.logged.mine c) ∙ d in cc);
      matches = matches_part b g.led m.log (take (suc j) m.log) w.logged.matches part;
      bound = record {
        view = λ i f d.
            let r = get_take (suc j) m.log i f d in
            ((w.logged.bound.view i f r.1).0, omega (arith, (rising_of o g t m.log w.logged.matches).rising i j f e (omega (arith, r.0)) r.1 a));
      };
    };
    kept = record {
      bid_is = λ r. absurd (idle (inl r));
      unbid = z.kept.unbid;
      fresh = λ r i f d. absurd (idle (inl r));
      ends = λ r. absurd (idle (inl r));
      future = z.kept.future;
      keeps = λ v i f d k. ⊎_elim
          (λ (q : slice_get n.log i ≡ Some f). absurd (let r = ap (λ l. slice_get l i) (sym none) ∙ q in cc))
          (λ (q : Lost b g.chief g.led v i (suc n.view)). inr q)
          (z.kept.keeps v i f d k);
    };
    commits = record {
      bounded = inr refl;
      based = (
        sure_m.0,
        (
          (sure_m.1).0,
          inr (record {
            i = j;
            seqno = refl;
            entry = e;
            at = take_get (suc j) m.log j e (omega arith) a;
            signs = signs;
            v = q.v;
            j = q.j;
            last = q.last;
            mark = q.mark;
            cert = q.cert;
            le = omega (arith, q.seqno, q.le);
            top = q.top;
            done = omega (arith, q.done, q.seqno);
            leads = agree b g.led m.log (g.led q.v) q.i q.entry w.logged.matches (t.matches q.v) q.at q.leads j e (omega (arith, q.seqno)) a;
          }),
        ),
      );
      above = omega arith;
      recorded = recorded_bound b (take (suc j) m.log) (suc j) (λ i f d v.
          let r = get_take (suc j) m.log i f d in
          omega (arith, (known_in o g t m.log i f m.view w.logged.matches w.logged.bound r.1 v).0, r.0));
      ruled = λ r. absurd (idle (inr r));
      young = λ r. absurd (idle (inl r));
      opened = λ r. absurd (idle r);
      matches = λ r v. absurd (idle (inr r));
      marked = λ r. absurd (idle (inr r));
    };
    sound = sound_cut b m.log (suc j) w.sound;
  }
    where
      part : (i : ℕ) (f : E) → slice_get (take (suc j) m.log) i ≡ Some f → slice_get m.log i ≡ Some f
      part i f d = (get_take (suc j) m.log i f d).1

      opening_first : (f : E) × (slice_get s.opening 0 ≡ Some f)
      opening_first = there s.opening 0 (omega (arith, o.long))

      sure_m : Settled o g m.log m.commit
      sure_m = settled_of o g y m.view m.role m.log m.commit m.base m.matched w.commits

      q : SureOver o (Cert o (sure_m.1).0 g) g m.log m.commit sure_m.0
      q = ⊎_elim (λ (d : m.commit ≡ 0). absurd (omega arith)) (λ (d : SureOver o (Cert o (sure_m.1).0 g) g m.log m.commit sure_m.0). d) (sure_m.1).1

      -- who has no log neither stands nor leads
      idle : (n.role ≡ Candidate) ⊎ (n.role ≡ Leader) → ⊥
      idle r =
          let c = settled_of o g x n.view n.role n.log n.commit n.base n.matched z.commits in
          let d : length n.log ≡ 0 = ap length none in
          omega (arith, z.commits.opened r, sure_within o g n.log n.commit c.0 c.1, o.long)

  rise_none : (v : ℕ) (n : Node E) → n.log ≡ [] → (enter_view b v n).log ≡ []
  unfolding enter_view
  rise_none v n e = ap (take (last_signature b n.log)) e ∙ take_nothing (last_signature b n.log)

  rise_view : (v : ℕ) (n : Node E) → (enter_view b v n).view ≡ v
  unfolding enter_view
  rise_view v n = refl

  pub good_install : (g : Story E) (x y : NodeId) (n m : Node E) (i : ℕ) → Tale o g → Good o g x n → Good o g y m → n.log ≡ [] → snapshot_of b m ≡ Some i → Good o g x (with_snapshot b m (i - 1) n)
  good_install g x y n m i t z w none a = go (nat_lt n.view (b.view_of r.3)) refl
    where
      r : (j : ℕ) × (i ≡ suc (suc j)) × (suc j ≤ m.commit) × (e : E) × (slice_get m.log j ≡ Some e) × (b.is_signature e ≡ true)
      r = snapshot_ends g y m i w a

      at_place : view_at b m.log (i - 1) ≡ b.view_of r.3
      at_place = let d : i - 1 ≡ suc r.0 = omega (arith, r.1) in ap (view_at b m.log) d ∙ view_at_is b m.log r.0 r.3 r.4

      seqno : suc r.0 ≡ i - 1
      seqno = omega (arith, r.1)

      go : (p : Bool) → nat_lt n.view (b.view_of r.3) ≡ p → Good o g x (with_snapshot b m (i - 1) n)
      go p d = subst (λ (v : ℕ). Good o g x (record (if nat_lt n.view v then enter_view b v n else n) { log = take (i - 1) m.log; base = i - 1; commit = i - 1 })) (sym at_place)
          (subst (λ (k : ℕ). Good o g x (record (if nat_lt n.view (b.view_of r.3) then enter_view b (b.view_of r.3) n else n) { log = take k m.log; base = k; commit = k })) seqno
          (by_test (λ l. Good o g x (record l { log = take (suc r.0) m.log; base = suc r.0; commit = suc r.0 })) (nat_lt n.view (b.view_of r.3)) (enter_view b (b.view_of r.3) n) n higher same))
        where
          higher : nat_lt n.view (b.view_of r.3) ≡ true → Good o g x (record (enter_view b (b.view_of r.3) n) { log = take (suc r.0) m.log; base = suc r.0; commit = suc r.0 })
          higher h = install_at g x y (enter_view b (b.view_of r.3) n) m r.0 r.3 t (good_rise o la g x n (b.view_of r.3) (grind (arith, nat_tests)) z) w risen_none r.2 r.4 r.5 risen_view
            where
              risen_none : (enter_view b (b.view_of r.3) n).log ≡ []
              risen_none = rise_none (b.view_of r.3) n none

              risen_view : b.view_of r.3 ≤ (enter_view b (b.view_of r.3) n).view
              risen_view = omega (arith, rise_view (b.view_of r.3) n)

          same : nat_lt n.view (b.view_of r.3) ≡ false → Good o g x (record n { log = take (suc r.0) m.log; base = suc r.0; commit = suc r.0 })
          same h = install_at g x y n m r.0 r.3 t z w none r.2 r.4 r.5 (grind (arith, nat_tests))
