-- The invariants hold at the start.
use Rattle.std.proofs.Common.{◌≡◌, ◌≢◌, inl, inr, ⊎_elim, ℕ, suc, ◌+◌, ◌<◌, List, [], length, take, Bool, true, false, ◌==◌, if◌then◌else◌, Some, None, slice_get, refl, sym, ap, ◌∙◌, subst, true≢false, arith}
use Rattle.std.proofs.lemmas.Bool.Decides.{nat_tests}
use Rattle.gl_rules.specs.Identity.{NodeId, same, member}
use Rattle.gl_rules.specs.Book.{Book}
use Rattle.gl_rules.specs.Node.{Role, Follower, Candidate, Leader}
use Rattle.gl_rules.specs.World.{Start, begin, joiner, starter, leader_at_start, node_at_start}
use Rattle.gl_rules.specs.Safety.{IsOpening, IsLawful, EachFollows}
use Rattle.gl_rules.proofs.Ids.{same_is, same_self, by_test}
use Rattle.gl_rules.proofs.Lists.{within}
use Rattle.gl_safety.proofs.Story.{Story}
use Rattle.gl_safety.proofs.Facts.{Matches, Bound, Rising}
use Rattle.gl_safety.proofs.Certificates.{Sured, Tale}
use Rattle.gl_safety.proofs.Signatures.{last_above, recorded_bound}
use Rattle.gl_safety.proofs.Invariants.{Good}
use Rattle.gl_rules.proofs.Soundness.{sound_cut}
use Rattle.gl_safety.proofs.Places.{MarksKnown, place_within}
use Rattle.gl_safety.proofs.Runs.{Holding, first_story}

module _ {E Q G R A F : Type 0} {b : Book E Q G R A F} {s : Start E} (o : IsOpening b (EachFollows b) s) (la : IsLawful b (EachFollows b)) where
  g : Story E
  g = first_story o la

  led_here : ℕ → List E
  led_here v = if v == 2 then s.opening else []

  in_led : (v i : ℕ) (e : E) → slice_get (if v == 2 then s.opening else []) i ≡ Some e → (v ≡ 2) × (slice_get s.opening i ≡ Some e)
  in_led v i e a = go (v == 2) (grind (arith, nat_tests)) a
    where
      go : (m : Bool) → (m ≡ true → v ≡ 2) → slice_get (if m then s.opening else []) i ≡ Some e → (v ≡ 2) × (slice_get s.opening i ≡ Some e)
      go true d w = (d refl, w)
      go false d w = absurd (cc)

  opening_matches : Matches b (λ v. if v == 2 then s.opening else []) s.opening
  opening_matches = record { below = λ i j e f a h d. ap (λ v. slice_get (if v == 2 then s.opening else []) j) (o.views i e a) ∙ d }

  opening_bound : Bound b 2 s.opening
  opening_bound = record { view = λ i e a. let q : b.view_of e ≡ 2 = o.views i e a in (omega arith, omega arith) }

  nothing : {P : Type 0} (i : ℕ) (e : E) → slice_get [] i ≡ Some e → P
  nothing i e a = absurd (cc)

  signature_is : (i : ℕ) (e : E) → slice_get s.opening i ≡ Some e → b.is_signature e ≡ true → b.recorded_commit e ≡ suc i
  signature_is i e a z =
      let q = o.alone i e a z in
      let same : e ≡ o.signature = let w : slice_get s.opening o.before ≡ Some e = ap (slice_get s.opening) (sym q) ∙ a in let u = sym w ∙ o.last in cc in
      ap b.recorded_commit same ∙ o.records ∙ ap suc (sym q)

  module _ (h : Story E) (led_is : h.led ≡ (λ v. if v == 2 then s.opening else [])) (committed_is : h.committed 2 ≡ length s.opening) where
    opening_sure : Sured o h s.opening (length s.opening) 2
    opening_sure = (
      0,
      inr (record {
        i = o.before;
        seqno = o.long;
        entry = o.signature;
        at = o.last;
        signs = o.signs;
        v = 2;
        j = o.before;
        last = o.signature;
        mark = record { at = ap (λ f. slice_get (f 2) o.before) led_is ∙ o.last; view = o.views o.before o.signature o.last; signs = o.signs };
        cert = (refl, sym o.long);
        le = omega arith;
        top = omega arith;
        done = omega (arith, committed_is);
        leads = ap (λ f. slice_get (f 2) o.before) led_is ∙ o.last;
      }),
    )

  opening_marks : MarksKnown b s.opening
  opening_marks = record { known = λ y m q a d i e c z h. omega (arith, place_within b b.removal la.removals s.opening y q o.sound d, signature_is i e c z, o.alone i e c z, o.long) }

  tale_first : Tale o (first_story o la)
  unfolding first_story
  tale_first = record {
    early = λ y v c a d. grind (arith, nat_tests);
    matches = λ v. by_test (Matches b (λ v. if v == 2 then s.opening else [])) (v == 2) s.opening [] (λ d. opening_matches) (λ d. record { below = λ i j e f a h z. nothing i e a });
    bound = λ v. by_test (Bound b v) (v == 2) s.opening [] (λ d. let q : 2 ≡ v = grind (arith, nat_tests) in subst (λ (w : ℕ). Bound b w s.opening) q opening_bound) (λ d. record { view = λ i e a. nothing i e a });
    rising = λ v. by_test (Rising b) (v == 2) s.opening [] (λ d. record { rising = λ i j e f h a z. let p : b.view_of e ≡ 2 = o.views i e a in let q : b.view_of f ≡ 2 = o.views j f z in omega arith }) (λ d. record { rising = λ i j e f h a z. nothing i e a });
    empty = λ v d. grind (arith, nat_tests);
    begins = λ v c d i e h a. let q : v ≡ 2 = grind (arith, nat_tests) in grind (arith, nat_tests);
    low = λ v c d. let q : v ≡ 2 = grind (arith, nat_tests) in omega arith;
    won = λ u c d a. absurd (let q : u ≡ 2 = grind (arith, nat_tests) in omega arith);
    known = λ v i e a d.
        let q = in_led v i e a in
        let r = signature_is i e q.1 d in
        let here : i ≡ o.before = o.alone i e q.1 d in (
          omega arith,
          subst (λ (w : ℕ). Sured o (first_story o la) (if w == 2 then s.opening else []) (b.recorded_commit e) w) (sym q.0)
              (subst (λ (c : ℕ). Sured o (first_story o la) s.opening c 2) (o.long ∙ ap suc (sym here) ∙ sym r) (opening_sure (first_story o la) refl refl)),
        );
    bids = λ c w l a. absurd (cc);
    shuts = λ c w y a. absurd (cc);
    stood = λ c w y a. absurd (cc);
    ballots = λ y. record { votes = λ w c d a. absurd (let q : w ≡ 2 = grind (arith, nat_tests) in omega arith); barred = λ w c a d. cc; within = λ v i a. absurd (omega arith) };
    follows = λ v i e a. follows_at v i e (v == 2) a;
    marks = λ v. by_test (MarksKnown b) (v == 2) s.opening [] (λ d. opening_marks) (λ d. record { known = λ y m q a k i e c z h. nothing i e c });
  }
    where
      follows_at : (v i : ℕ) (e : E) (m : Bool) → slice_get (if m then s.opening else []) i ≡ Some e → b.breaks 0 (take i (if m then s.opening else [])) e ≡ None
      follows_at v i e true a = o.sound i e a
      follows_at v i e false a = absurd (cc)

  -- a node with the opening ledger
  good_starter : (x : NodeId) (r : Role) (start reserved used : ℕ) → (r ≡ Candidate → ⊥) → (r ≡ Leader → x ≡ s.first) → (node_at_start s x).vote ≡ Some s.first →
      Good o (first_story o la) x (record (starter s) { role = r; start = start; reserved = reserved; used = used })
  unfolding first_story
  good_starter x r start reserved used calm first vote = record {
    voter = record {
      cast = vote;
      later = λ v a. grind (arith, nat_tests);
      counted = λ d y a. absurd (calm d);
      won = λ v a. let q : v ≡ 2 = grind (arith, nat_tests) in omega arith;
      unwon = λ d a. calm d;
      chief_is = λ d. ap Some (sym (first d));
    };
    logged = record { positive = omega arith; mine = λ a. refl; matches = opening_matches; bound = opening_bound };
    kept = record {
      bid_is = λ d. absurd (calm d);
      unbid = λ v a. refl;
      fresh = λ d i e a. absurd (calm d);
      ends = λ d. absurd (calm d);
      future = λ v a. refl;
      keeps = λ v i e a m. inl ((in_led v i e m.at).1);
    };
    commits = record {
      bounded = inl (opening_sure (first_story o la) refl refl);
      based = (0, (0, inl refl));
      above = omega arith;
      recorded = recorded_bound b s.opening (length s.opening) (λ i e a z. omega (arith, signature_is i e a z, within s.opening i e a));
      ruled = λ d. opening_sure (first_story o la) refl refl;
      young = λ d. absurd (calm d);
      opened = λ d. omega arith;
      matches = λ d y. omega arith;
      marked = λ d y m q a h c. absurd (omega (arith, place_within b b.mark la.markings s.opening y m o.sound a, last_above b s.opening o.before o.signature o.last o.signs, o.long));
    };
    sound = o.sound;
  }

  good_joiner : (x : NodeId) → x ≢ s.first → (node_at_start s x).vote ≡ None → Good o (first_story o la) x joiner
  unfolding first_story
  good_joiner x other vote = record {
    voter = record {
      cast = vote;
      later = λ v a. grind (arith, nat_tests);
      counted = λ d y a. absurd (cc);
      won = λ v a. absurd (not_chief v a);
      unwon = λ d a. absurd (cc);
      chief_is = λ d. absurd (cc);
    };
    logged = record { positive = omega arith; mine = λ a. absurd (not_chief 2 a); matches = record { below = λ i j e f a h z. nothing i e a }; bound = record { view = λ i e a. nothing i e a } };
    kept = record {
      bid_is = λ d. absurd (cc);
      unbid = λ v a. refl;
      fresh = λ d i e a. absurd (cc);
      ends = λ d. absurd (cc);
      future = λ v a. refl;
      keeps = λ v i e a m. absurd (⊎_elim (λ (q : i < 0). omega arith) (λ (q : (if v == 2 then Some s.first else None) ≡ Some x). not_chief v q) a);
    };
    commits = record {
      bounded = inl (0, inl refl);
      based = (0, (0, inl refl));
      above = omega arith;
      recorded = recorded_bound b [] 0 (λ i e a z. nothing i e a);
      ruled = λ d. absurd (cc);
      young = λ d. absurd (cc);
      opened = λ d. absurd (⊎_elim (λ (q : Follower ≡ Candidate). cc) (λ (q : Follower ≡ Leader). cc) d);
      matches = λ d y. absurd (cc);
      marked = λ d. absurd (cc);
    };
    sound = sound_cut b s.opening 0 o.sound;
  }
    where
      not_chief : (v : ℕ) → (if v == 2 then Some s.first else None) ≡ Some x → ⊥
      not_chief v a = go (v == 2) a
        where
          go : (m : Bool) → (if m then Some s.first else None) ≡ Some x → ⊥
          go true d = other (let q : s.first ≡ x = cc in sym q)
          go false d = cc

  good_first : (x : NodeId) → Good o (first_story o la) x (node_at_start s x)
  good_first x = go (same x s.first) refl (member x s.starting) refl
    where
      go : (p : Bool) → same x s.first ≡ p → (q : Bool) → member x s.starting ≡ q → Good o (first_story o la) x (if p then leader_at_start s else (if q then starter s else joiner))
      go true d q e = good_starter x Leader (length s.opening + 1) 1 1 (λ r. cc) (λ r. same_is x s.first d) (ap (λ m. (if m then leader_at_start s else (if member x s.starting then starter s else joiner)).vote) d)
      go false d true e = good_starter x Follower 1 0 0 (λ r. cc) (λ r. absurd (cc)) (ap (λ m. (if m then leader_at_start s else (if member x s.starting then starter s else joiner)).vote) d ∙ ap (λ m. (if m then starter s else joiner).vote) e)
      go false d false e = good_joiner x (λ (r : x ≡ s.first). true≢false (sym (same_self x) ∙ ap (same x) r ∙ d)) (ap (λ m. (if m then leader_at_start s else (if member x s.starting then starter s else joiner)).vote) d ∙ ap (λ m. (if m then starter s else joiner).vote) e)

  pub holding_first : Holding o la (begin s) (first_story o la)
  holding_first = record { tale = tale_first; nodes = good_first; sent = tt }
