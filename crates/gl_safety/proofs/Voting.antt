-- A vote that is granted, and one that is counted.
use Rattle.std.proofs.Common.{◌≡◌, ◌≢◌, ◌⊎◌, inl, inr, ⊎_elim, ℕ, suc, ◌≤◌, ◌<◌, [], ◌∷◌, Bool, true, false, if◌then◌else◌, Option, Some, None, slice_get, refl, sym, ap, ◌∙◌, subst, arith}
use Rattle.std.proofs.lemmas.Bool.{cases_eq, cases_lt}
use Rattle.gl_rules.specs.Identity.{NodeId, member}
use Rattle.gl_rules.specs.Book.{Book}
use Rattle.gl_rules.specs.Node.{Node}
use Rattle.gl_rules.specs.Message.{Position, VoteReply}
use Rattle.gl_rules.specs.Log.{is_up_to_date, last_signature_position}
use Rattle.gl_rules.specs.World.{Start}
use Rattle.gl_rules.specs.Safety.{IsOpening, EachFollows}
use Rattle.gl_rules.proofs.Ids.{id_tests, same_is, cases_same, put2, put2_cases, put2_at}
use Rattle.gl_safety.proofs.Story.{Story, Grows, early_by, reported_ballot, grows_same, grows_ballot}
use Rattle.gl_safety.proofs.Facts.{Holds, Covers, Mark, Lost, Ballots, lost_more, ballots_of}
use Rattle.gl_safety.proofs.Certificates.{Tale}
use Rattle.gl_safety.proofs.Signatures.{covers_last, covers_more}
use Rattle.gl_safety.proofs.Invariants.{Good, Reached, rising_of, won_grow, sured_more, shuts_grow, commits_more, made_same}
use Rattle.gl_rules.specs.Elections.{may_vote_for, vote_if, add_vote}

module _ {E Q G R A F : Type 0} {b : Book E Q G R A F} {s : Start E} (o : IsOpening b (EachFollows b) s) where
  -- the story of a vote that was free
  module _ (x c : NodeId) (theirs : Position) (g : Story E) (n : Node E) (t : Tale o g) (z : Good o g x n) (unvoted : g.ballot x n.view ≡ None)
      (least : is_up_to_date theirs (last_signature_position b n.log) ≡ true) (bid_is : g.bid c n.view ≡ Some theirs) where
    grows : Grows b.view_of x g (reported_ballot x n.view c g)
    grows = grows_ballot b.view_of x c n.view g (inl unvoted)

    covers : (v i : ℕ) (e : E) → slice_get n.log i ≡ Some e → Mark b g.led v i e → Covers theirs v i
    covers v i e a m = covers_more b theirs (last_signature_position b n.log) v i least
        (subst (λ (w : ℕ). Covers (last_signature_position b n.log) w i) m.view (covers_last b n.log i e (rising_of o g t n.log z.logged.matches) a m.signs))

    free : (w : ℕ) → w ≡ n.view → put2 g.early x n.view (early_by (g.ballot x n.view) (g.chief n.view) (g.early x n.view)) x w ≡ true → g.chief n.view ≡ None
    free w d f = go (g.chief n.view) refl (let q : put2 g.early x n.view (early_by (g.ballot x n.view) (g.chief n.view) (g.early x n.view)) x n.view ≡ true = ap (put2 g.early x n.view (early_by (g.ballot x n.view) (g.chief n.view) (g.early x n.view)) x) (sym d) ∙ f in
        ap (λ k. early_by k (g.chief n.view) (g.early x n.view)) (sym unvoted) ∙ sym (put2_at g.early x n.view (early_by (g.ballot x n.view) (g.chief n.view) (g.early x n.view))) ∙ q)
      where
        go : (m : Option NodeId) → g.chief n.view ≡ m → early_by None m (g.early x n.view) ≡ true → m ≡ None
        go None d f = refl
        go (Some y) d f = absurd (cc)

    own : Ballots b (reported_ballot x n.view c g) x
    own = record {
      votes = λ w d u a. ⊎_elim
          (λ (q : (x ≡ x) × (w ≡ n.view) × (put2 g.ballot x n.view (Some c) x w ≡ Some c)).
          let same : c ≡ d = let p = sym q.2 ∙ a in cc in
          record {
            bid = theirs;
            at = ap (λ y. g.bid y w) (sym same) ∙ ap (g.bid c) q.1 ∙ bid_is;
            old = λ f v i e l r m. ⊎_elim
                (λ (p : slice_get n.log i ≡ Some e). inl (covers v i e p m))
                (λ (p : Lost b g.chief g.led v i (suc n.view)). inr (strict p w q.1 (free w q.1 f)))
                (z.kept.keeps v i e r m);
            late = λ v i e l r m. ⊎_elim
                (λ (p : slice_get n.log i ≡ Some e). inl (covers v i e p m))
                (λ (p : Lost b g.chief g.led v i (suc n.view)). inr (lost_more b (grows_same b.view_of x g) v i (suc n.view) (suc w) (omega (arith, q.1)) p))
                (z.kept.keeps v i e r m);
          })
          (λ (q : put2 g.ballot x n.view (Some c) x w ≡ g.ballot x w).
          let r = (t.ballots x).votes w d u (sym q ∙ a) in
          let other : w ≢ n.view = λ (p : w ≡ n.view). let f : g.ballot x n.view ≡ Some d = ap (g.ballot x) (sym p) ∙ sym q ∙ a in let y = sym unvoted ∙ f in cc in
          record { bid = r.bid; at = r.at; old = λ f. r.old (let e : put2 g.early x n.view (early_by (g.ballot x n.view) (g.chief n.view) (g.early x n.view)) x w ≡ g.early x w = grind (arith, id_tests) in sym e ∙ f); late = r.late })
          (put2_cases g.ballot x n.view (Some c) x w);
      barred = λ w d a v. ⊎_elim
          (λ (q : (x ≡ x) × (w ≡ n.view) × (put2 g.ballot x n.view (Some c) x w ≡ Some c)).
          let same : c ≡ d = let p = sym q.2 ∙ v in cc in
          let far = t.shuts d w x a in
          barred_by d w far.0 far.1 far.2 (ap (λ y. g.bid y w) (sym same) ∙ ap (g.bid c) q.1 ∙ bid_is) q.1 far.3 far.4 far.5)
          (λ (q : put2 g.ballot x n.view (Some c) x w ≡ g.ballot x w). (t.ballots x).barred w d a (sym q ∙ v))
          (put2_cases g.ballot x n.view (Some c) x w);
      within = (t.ballots x).within;
    }
      where
        strict : {v i : ℕ} → Lost b g.chief g.led v i (suc n.view) → (w : ℕ) → w ≡ n.view → g.chief n.view ≡ None → Lost b g.chief g.led v i w
        strict p w q f = record {
          view = p.view;
          above = p.above;
          below = ⊎_elim (λ (d : p.view ≡ n.view). absurd (let y : g.chief n.view ≡ Some p.by = ap g.chief (sym d) ∙ p.won in cc)) (λ (d : p.view ≢ n.view). omega (arith, p.below, q)) (cases_eq p.view n.view);
          by = p.by;
          won = p.won;
          lacks = p.lacks;
        }

        barred_by : (d : NodeId) (w v i : ℕ) (e : E) → g.bid d w ≡ Some theirs → w ≡ n.view → w ≤ v → Holds g x v i → Mark b g.led v i e → ⊥
        barred_by d w v i e a q far f m =
            let low = (t.bids d w theirs a).1 in
            let same : v ≡ n.view = ⊎_elim
            (λ (p : i < g.held x v). ⊎_elim (λ (r : n.view < v). absurd (omega (arith, z.kept.future v r))) (λ (r : v ≤ n.view). omega arith) (cases_lt n.view v))
            (λ (p : g.chief v ≡ Some x). omega (arith, z.voter.won v p)) f in
            ⊎_elim
            (λ (p : slice_get n.log i ≡ Some e). ⊎_elim (λ (r : v < theirs.view). omega arith) (λ (r : (v ≡ theirs.view) × (i < theirs.seqno)). omega (arith, r.0)) (covers v i e p m))
            (λ (p : Lost b g.chief g.led v i (suc n.view)). omega (arith, p.above, p.below))
            (z.kept.keeps v i e f m)

    tale_vote : Tale o (reported_ballot x n.view c g)
    tale_vote = record {
      early = λ y u d a f. grind (arith, id_tests, t.early y u d);
      matches = t.matches;
      bound = t.bound;
      rising = t.rising;
      empty = t.empty;
      begins = t.begins;
      low = t.low;
      won = λ u d p a. won_grow o grows u d (t.won u d p a);
      known = λ u i e a d. let r = t.known u i e a d in (r.0, sured_more o grows (g.led u) (b.recorded_commit e) u r.1);
      bids = t.bids;
      shuts = λ d w y a. shuts_grow o grows 0 w y (t.shuts d w y a);
      stood = t.stood;
      ballots = λ y. ⊎_elim (λ (q : y ≡ x). subst (Ballots b (reported_ballot x n.view c g)) (sym q) own) (λ (q : y ≢ x). ballots_of b grows y q (t.ballots y)) (cases_same y x);
      follows = t.follows;
      marks = t.marks;
    }

    good_vote : Good o (reported_ballot x n.view c g) x (record n { vote = Some c })
    good_vote = record {
      voter = record {
        cast = put2_at g.ballot x n.view (Some c);
        later = λ u a. let q = z.voter.later u a in grind (arith, id_tests);
        counted = λ r y a. grows.ballot y n.view x (z.voter.counted r y a);
        won = z.voter.won;
        unwon = z.voter.unwon;
        chief_is = z.voter.chief_is;
      };
      logged = z.logged;
      kept = z.kept;
      commits = commits_more o grows x n.view n.role n.log n.commit n.base n.matched (λ r. refl) z.commits;
      sound = z.sound;
    }

  -- a vote that is granted, and its reply
  pub made_vote : (x c : NodeId) (theirs : Position) (g : Story E) (n : Node E) → Tale o g → Good o g x n → may_vote_for n.vote c ≡ true → is_up_to_date theirs (last_signature_position b n.log) ≡ true → g.bid c n.view ≡ Some theirs →
      Reached o x g (vote_if b true c n) (record { sender = x; receiver = c; view = n.view; body = VoteReply true } ∷ [])
  made_vote x c theirs g n t z free least bid_is = go n.vote refl free
    where
      go : (m : Option NodeId) → n.vote ≡ m → may_vote_for m c ≡ true → Reached o x g (vote_if b true c n) (record { sender = x; receiver = c; view = n.view; body = VoteReply true } ∷ [])
      go None d f =
          let unvoted : g.ballot x n.view ≡ None = z.voter.cast ∙ d in (
            reported_ballot x n.view c g,
            record {
              grow = grows x c theirs g n t z unvoted least bid_is;
              tale = tale_vote x c theirs g n t z unvoted least bid_is;
              good = good_vote x c theirs g n t z unvoted least bid_is;
              sent = (put2_at g.ballot x n.view (Some c), tt);
              commits = λ v. inl refl;
            },
          )
      go (Some y) d f =
          let voted : g.ballot x n.view ≡ Some c = z.voter.cast ∙ d ∙ ap Some (same_is y c f) in (
            g,
            made_same o x g (vote_if b true c n) (record { sender = x; receiver = c; view = n.view; body = VoteReply true } ∷ []) t (record {
              voter = record { cast = voted; later = z.voter.later; counted = z.voter.counted; won = z.voter.won; unwon = z.voter.unwon; chief_is = z.voter.chief_is };
              logged = z.logged;
              kept = z.kept;
              commits = z.commits;
              sound = z.sound;
            }) (voted, tt),
          )

  pub good_count : (x y : NodeId) (g : Story E) (n : Node E) → Good o g x n → g.ballot y n.view ≡ Some x → Good o g x (add_vote b y n)
  good_count x y g n z voted = record {
    voter = record {
      cast = z.voter.cast;
      later = z.voter.later;
      counted = λ r u a. ⊎_elim (λ (q : u ≡ y). ap (λ w. g.ballot w n.view) q ∙ voted) (λ (q : member u n.votes ≡ true). z.voter.counted r u q) (among u (member y n.votes) refl a);
      won = z.voter.won;
      unwon = z.voter.unwon;
      chief_is = z.voter.chief_is;
    };
    logged = z.logged;
    kept = z.kept;
    commits = z.commits;
    sound = z.sound;
  }
    where
      among : (u : NodeId) (m : Bool) → member y n.votes ≡ m → member u (if m then n.votes else y ∷ n.votes) ≡ true → (u ≡ y) ⊎ (member u n.votes ≡ true)
      among u true d a = inr a
      among u false d a = grind (arith, id_tests)
