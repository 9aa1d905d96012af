-- What holds of each node, of each message and of the story, at every moment.
use Rattle.std.proofs.Common.{◌≡◌, ◌≢◌, ◌⊎◌, inl, inr, ⊎_elim, ℕ, zero, suc, ◌-◌, ◌≤◌, ◌<◌, List, [], ◌∷◌, ◌++◌, length, true, false, Option, Some, None, slice_get, refl, sym, ap, ◌∙◌, subst, arith}
use Rattle.std.proofs.lemmas.Bool.{cases_lt}
use Rattle.gl_safety.proofs.Signatures.{recorded_some}
use Rattle.gl_rules.specs.Identity.{NodeId, member}
use Rattle.gl_rules.specs.Majority.{majority}
use Rattle.gl_rules.specs.Book.{Book}
use Rattle.gl_rules.specs.Node.{Node, Role, Candidate, Leader}
use Rattle.gl_rules.specs.Message.{Position, Message, Body, RequestVote, VoteReply, Append, AppendReply, ProposeVote}
use Rattle.gl_rules.specs.Log.{last_signature_position, last_signature, greatest_recorded}
use Rattle.gl_rules.specs.World.{Start}
use Rattle.gl_rules.specs.Safety.{IsOpening, EachFollows}
use Rattle.gl_rules.proofs.Lists.{Same, there, within}
use Rattle.gl_safety.proofs.Story.{Story, Grows, grows_same}
use Rattle.gl_safety.proofs.Configurations.{IsNewest}
use Rattle.gl_safety.proofs.Facts.{Holds, Matches, Bound, Rising, Mark, Lost, Segment, Ballots, is_led, led_is, matches_grow, mark_grow, mark_back, lost_grow, holds_grow, holds_back, segment_grow}
use Rattle.gl_safety.proofs.Certificates.{SureOver, Cert, Sured, Settled, Below, Won, Tale, sure_grow, sured_grow}
use Rattle.gl_safety.proofs.Complete.{chief_of_led}

-- votes
pub record Voter (ballot : NodeId → ℕ → Option NodeId) (chief : ℕ → Option NodeId) (x : NodeId) (view : ℕ) (vote : Option NodeId) (role : Role) (votes : List NodeId) : Type 0 where
  pub cast : ballot x view ≡ vote
  pub later : (v : ℕ) → view < v → ballot x v ≡ None
  pub counted : role ≡ Candidate → (y : NodeId) → member y votes ≡ true → ballot y view ≡ Some x
  pub won : (v : ℕ) → chief v ≡ Some x → v ≤ view
  pub unwon : role ≡ Candidate → chief view ≡ Some x → ⊥
  pub chief_is : role ≡ Leader → chief view ≡ Some x

module _ {E Q G R A F : Type 0} (b : Book E Q G R A F) where
  -- logs
  pub record Logged (chief : ℕ → Option NodeId) (led : ℕ → List E) (x : NodeId) (view : ℕ) (log : List E) : Type 0 where
    pub positive : 1 < view
    pub mine : chief view ≡ Some x → log ≡ led view
    pub matches : Matches b led log
    pub bound : Bound b view log

  -- what was acknowledged is still there, or was lost by a later leader
  pub record Kept (bid : NodeId → ℕ → Option Position) (held : NodeId → ℕ → ℕ) (chief : ℕ → Option NodeId) (led : ℕ → List E) (x : NodeId) (view : ℕ) (role : Role) (log : List E) : Type 0 where
    pub bid_is : role ≡ Candidate → bid x view ≡ Some (last_signature_position b log)
    pub unbid : (v : ℕ) → view < v → bid x v ≡ None
    pub fresh : role ≡ Candidate → (i : ℕ) (e : E) → slice_get log i ≡ Some e → b.view_of e < view
    pub ends : role ≡ Candidate → length log ≤ last_signature b log
    pub future : (v : ℕ) → view < v → held x v ≡ 0
    pub keeps : (v i : ℕ) (e : E) → (i < held x v) ⊎ (chief v ≡ Some x) → Mark b led v i e → (slice_get log i ≡ Some e) ⊎ Lost b chief led v i (suc view)

module _ {E Q G R A F : Type 0} {b : Book E Q G R A F} {s : Start E} (o : IsOpening b (EachFollows b) s) where
  -- enough nodes have gone too far to vote for x in this view
  abbrev pub Barred : Story E → NodeId → List E → ℕ → ℕ → Type 0
  Barred g x l c w = (p : ℕ) (m : List NodeId) → IsNewest b l c p m → majority (g.shut x w) m ≡ true

  -- commit numbers
  pub record Commits (g : Story E) (x : NodeId) (view : ℕ) (role : Role) (log : List E) (commit base : ℕ) (matched : NodeId → ℕ) : Type 0 where
    pub bounded : Sured o g log commit view ⊎ (commit ≡ base)
    pub based : Settled o g log base
    pub above : base ≤ commit
    pub recorded : greatest_recorded b log ≤ commit
    pub ruled : role ≡ Leader → Sured o g log commit view
    pub young : role ≡ Candidate → Below o g log commit view ⊎ Barred g x log commit view
    pub opened : (role ≡ Candidate) ⊎ (role ≡ Leader) → length s.opening ≤ commit
    pub matches : role ≡ Leader → (y : NodeId) → matched y ≤ g.held y view
    pub marked : role ≡ Leader → (y : NodeId) (m q : ℕ) → b.mark log y ≡ Some m → last_signature b log < m → b.removal log y ≡ Some q → q ≤ commit

  pub record Good (g : Story E) (x : NodeId) (n : Node E) : Type 0 where
    pub voter : Voter g.ballot g.chief x n.view n.vote n.role n.votes
    pub logged : Logged b g.chief g.led x n.view n.log
    pub kept : Kept b g.bid g.held g.chief g.led x n.view n.role n.log
    pub commits : Commits g x n.view n.role n.log n.commit n.base n.matched
    pub sound : EachFollows b n.log

  -- what a message says
  abbrev pub BodySent : Story E → NodeId → NodeId → ℕ → Body E → Type 0
  BodySent g x y v (RequestVote l) = g.bid x v ≡ Some l
  BodySent g x y v (VoteReply true) = g.ballot x v ≡ Some y
  BodySent g x y v (VoteReply false) = Unit {0}
  BodySent g x y v (Append p es c) = Segment b (g.led v) p es × Sured o g (g.led v) c v
  BodySent g x y v (AppendReply true k) = k ≤ g.held x v
  BodySent g x y v (AppendReply false k) = Unit {0}
  BodySent g x y v ProposeVote = Unit {0}

  abbrev pub AllSent : Story E → List (Message E) → Type 0
  AllSent g [] = Unit {0}
  AllSent g (m ∷ ms) = BodySent g m.sender m.receiver m.view m.body × AllSent g ms

  -- what a step makes of x and the story
  pub record Made (x : NodeId) (g h : Story E) (n : Node E) (out : List (Message E)) : Type 0 where
    pub grow : Grows b.view_of x g h
    pub tale : Tale o h
    pub good : Good h x n
    pub sent : AllSent h out
    pub commits : (v : ℕ) → (h.committed v ≡ g.committed v) ⊎ ((n.role ≡ Leader) × (n.view ≡ v) × (h.committed v ≤ n.commit))

  abbrev pub Reached : NodeId → Story E → Node E → List (Message E) → Type 0
  Reached x g n out = (h : Story E) × Made x g h n out

  -- pieces of logs
  pub rising_of : (g : Story E) → Tale o g → (l : List E) → Matches b g.led l → Rising b l
  rising_of g t l p = record {
    rising = λ i j e f d a z.
        (t.rising (b.view_of f)).rising i j e f d (p.below j i f e z d a) (p.below j j f f z (omega arith) z);
  }

  pub begins_of : (g : Story E) → Tale o g → (l : List E) → Matches b g.led l → length s.opening ≤ length l → Same (length s.opening) s.opening l
  begins_of g t l p d i e h a =
      let y = there l (length l - 1) (omega arith) in
      let at_end = is_led b g.led l (b.view_of y.0) (length l - 1) (length l - 1) y.0 y.0 p y.1 refl (omega arith) y.1 in
      let c = chief_of_led o g t (b.view_of y.0) (length l - 1) y.0 at_end in
      led_is b g.led l (b.view_of y.0) (length l - 1) i y.0 e p y.1 refl (omega arith) (t.begins (b.view_of y.0) c.0 c.1 i e h a)

  -- a signature stands nowhere before the opening's own
  pub signature_above : (g : Story E) → Tale o g → (l : List E) (i : ℕ) (e : E) → Matches b g.led l → slice_get l i ≡ Some e → b.is_signature e ≡ true → length s.opening ≤ suc i
  signature_above g t l i e p a z = go (length s.opening)
    where
      u : slice_get (g.led (b.view_of e)) i ≡ Some e
      u = p.below i i e e a (omega arith) a

      small : i < length s.opening → length s.opening ≤ suc i
      small h =
          let c = chief_of_led o g t (b.view_of e) i e u in
          let y = there s.opening i h in
          let w = t.begins (b.view_of e) c.0 c.1 i y.0 h y.1 in
          let q : y.0 ≡ e = let d = sym w ∙ u in cc in
          omega (arith, o.long, o.alone i y.0 y.1 (ap b.is_signature q ∙ z))

      go : (k : ℕ) → length s.opening ≤ suc i
      go k = ⊎_elim small (λ (h : length s.opening ≤ i). omega arith) (cases_lt i (length s.opening))

  -- a sure commit is a seqno of the log
  pub sure_within : (g : Story E) (l : List E) (c t : ℕ) → Sured o g l c t → c ≤ length l
  sure_within g l c t z = ⊎_elim (λ (q : c ≡ 0). omega arith) (λ (q : SureOver o (Cert o z.0 g) g l c t). omega (arith, q.seqno, within l q.i q.entry q.at)) z.1

  pub settled_of : (g : Story E) (x : NodeId) (view : ℕ) (role : Role) (log : List E) (c base : ℕ) (matched : NodeId → ℕ) → Commits g x view role log c base matched → Settled o g log c
  settled_of g x view role log c base matched z = ⊎_elim
      (λ (q : Sured o g log c view). (view, q))
      (λ (q : c ≡ base). (z.based.0, subst (λ (k : ℕ). Sured o g log k z.based.0) (sym q) z.based.1))
      z.bounded

  -- a sure commit in another log that has its signature
  pub sure_to : (g : Story E) (l r : List E) (c t u : ℕ) → t ≤ u → ((i : ℕ) (e : E) → c ≡ suc i → slice_get l i ≡ Some e → b.is_signature e ≡ true → slice_get r i ≡ Some e) → Sured o g l c t → Sured o g r c u
  sure_to g l r c t u h a z = (
    z.0,
    ⊎_elim
        (λ (q : c ≡ 0). inl q)
        (λ (q : SureOver o (Cert o z.0 g) g l c t). inr (record {
          i = q.i;
          seqno = q.seqno;
          entry = q.entry;
          at = a q.i q.entry q.seqno q.at q.signs;
          signs = q.signs;
          v = q.v;
          j = q.j;
          last = q.last;
          mark = q.mark;
          cert = q.cert;
          le = q.le;
          top = omega (arith, q.top);
          done = q.done;
          leads = q.leads;
        }))
        z.1,
  )

  -- what a signature of a log records is sure there
  pub known_in : (g : Story E) → Tale o g → (l : List E) (i : ℕ) (e : E) (v : ℕ) → Matches b g.led l → Bound b v l → slice_get l i ≡ Some e → b.is_signature e ≡ true → (b.recorded_commit e ≤ suc i) × Sured o g l (b.recorded_commit e) v
  known_in g t l i e v p q a z =
      let u : slice_get (g.led (b.view_of e)) i ≡ Some e = p.below i i e e a (omega arith) a in
      let k = t.known (b.view_of e) i e u z in (
        k.0,
        sure_to g (g.led (b.view_of e)) l (b.recorded_commit e) (b.view_of e) v ((q.view i e a).1)
            (λ j f d y w. led_is b g.led l (b.view_of e) i j e f p a refl (omega (arith, k.0)) y) k.1,
      )

  -- the greatest recorded commit is sure
  pub recorded_sure : (g : Story E) → Tale o g → (l : List E) (v r : ℕ) → Matches b g.led l → Bound b v l → greatest_recorded b l ≡ r → Sured o g l r v
  recorded_sure g t l v zero p q z = (0, inl refl)
  recorded_sure g t l v (suc r) p q z =
      let y = recorded_some b l r z in
      subst (λ (c : ℕ). Sured o g l c v) y.4 (known_in g t l y.0 y.1 v p q y.2 y.3).1

  -- what stays
  module _ {x : NodeId} {g h : Story E} (k : Grows b.view_of x g h) where
    pub won_grow : (u : ℕ) (c : NodeId) → Won o g u c → Won o h u c
    won_grow u c q = record {
      log = q.log;
      commit = q.commit;
      votes = q.votes;
      bid = q.bid;
      depth = q.depth;
      top = q.top;
      less = q.less;
      opened = q.opened;
      within = q.within;
      matches = matches_grow b k q.log q.matches;
      begins = q.begins;
      backed = q.backed;
      sure = sure_grow o k q.depth q.log q.log (λ i e a. a) q.commit q.top q.sure;
      at = k.bid c u q.bid q.at;
      ballots = λ y a. let r = q.ballots y a in (k.ballot y u c r.0, k.early y u c r.0 r.1);
      bid_less = q.bid_less;
      bid_zero = q.bid_zero;
      bid_top = q.bid_top;
      prefix = λ i e a. k.led u i e (q.prefix i e a);
    }

    pub sured_more : (l : List E) (c t : ℕ) → Sured o g l c t → Sured o h l c t
    sured_more l c t z = sured_grow o k l l (λ i e a. a) c t z

    pub shuts_grow : (v w : ℕ) (y : NodeId) → (u : ℕ) × (i : ℕ) × (e : E) × (w ≤ u) × Holds g y u i × Mark b g.led u i e → (u : ℕ) × (i : ℕ) × (e : E) × (w ≤ u) × Holds h y u i × Mark b h.led u i e
    shuts_grow v w y r = (r.0, r.1, r.2, r.3, holds_grow b k y r.0 r.1 r.4, mark_grow b k r.0 r.1 r.2 r.5)

    pub commits_more : (y : NodeId) (view : ℕ) (role : Role) (log : List E) (c base : ℕ) (matched : NodeId → ℕ) → (role ≡ Candidate → h.shut y view ≡ g.shut y view) → Commits g y view role log c base matched → Commits h y view role log c base matched
    commits_more y view role log c base matched same z = record {
      bounded = ⊎_elim (λ (q : Sured o g log c view). inl (sured_more log c view q)) (λ (q : c ≡ base). inr q) z.bounded;
      based = (z.based.0, sured_more log base z.based.0 z.based.1);
      above = z.above;
      recorded = z.recorded;
      ruled = λ r. sured_more log c view (z.ruled r);
      young = λ r. ⊎_elim (λ (q : Below o g log c view). inl (q.0, q.1, sured_more log c q.0 q.2)) (λ (q : Barred g y log c view). inr (λ p m a. ap (λ f. majority f m) (same r) ∙ q p m a)) (z.young r);
      opened = z.opened;
      matches = λ r u. omega (arith, z.matches r u, k.held u view);
      marked = z.marked;
    }

    pub good_of : (y : NodeId) (n : Node E) → y ≢ x → Ballots b g y → Good g y n → Good h y n
    good_of y n d w z = record {
      voter = record {
        cast = k.ballot_of y n.view d ∙ z.voter.cast;
        later = λ v a. k.ballot_of y v d ∙ z.voter.later v a;
        counted = λ r u a. k.ballot u n.view y (z.voter.counted r u a);
        won = λ v a. z.voter.won v (k.chief_of v y d a);
        unwon = λ r a. z.voter.unwon r (k.chief_of n.view y d a);
        chief_is = λ r. k.chief n.view y (z.voter.chief_is r);
      };
      logged = record {
        positive = z.logged.positive;
        mine = λ a. let q = k.chief_of n.view y d a in z.logged.mine q ∙ sym (k.led_of n.view y d q);
        matches = matches_grow b k n.log z.logged.matches;
        bound = z.logged.bound;
      };
      kept = record {
        bid_is = λ r. k.bid y n.view (last_signature_position b n.log) (z.kept.bid_is r);
        unbid = λ v a. k.bid_of y v d ∙ z.kept.unbid v a;
        fresh = z.kept.fresh;
        ends = z.kept.ends;
        future = λ v a. k.held_of y v d ∙ z.kept.future v a;
        keeps = λ v i e a m.
            let a' : Holds g y v i = holds_back b k y v i d a in
            ⊎_elim (λ (q : slice_get n.log i ≡ Some e). inl q) (λ (q : Lost b g.chief g.led v i (suc n.view)). inr (lost_grow b k v i (suc n.view) q))
            (z.kept.keeps v i e a' (mark_back b k y v i e d w a' m));
      };
      commits = commits_more y n.view n.role n.log n.commit n.base n.matched (λ r. k.shut_of y n.view d) z.commits;
      sound = z.sound;
    }

    pub sent_grow : (m : Message E) → BodySent g m.sender m.receiver m.view m.body → BodySent h m.sender m.receiver m.view m.body
    sent_grow m = body m.body
      where
        body : (p : Body E) → BodySent g m.sender m.receiver m.view p → BodySent h m.sender m.receiver m.view p
        body (RequestVote l) z = k.bid m.sender m.view l z
        body (VoteReply true) z = k.ballot m.sender m.view m.receiver z
        body (VoteReply false) z = z
        body (Append p es c) z = (segment_grow b k m.view p es z.0, sured_grow o k (g.led m.view) (h.led m.view) (k.led m.view) c m.view z.1)
        body (AppendReply true p) z = omega (arith, k.held m.sender m.view)
        body (AppendReply false p) z = z
        body ProposeVote z = z

    pub all_grow : (ms : List (Message E)) → AllSent g ms → AllSent h ms
    all_grow [] z = tt
    all_grow (m ∷ ms) z = (sent_grow m z.0, all_grow ms z.1)

  pub all_append : (g : Story E) (ms out : List (Message E)) → AllSent g ms → AllSent g out → AllSent g (ms ++ out)
  all_append g [] out z w = w
  all_append g (m ∷ ms) out z w = (z.0, all_append g ms out z.1 w)

  pub sent_at : (g : Story E) (ms : List (Message E)) (i : ℕ) (m : Message E) → AllSent g ms → slice_get ms i ≡ Some m → BodySent g m.sender m.receiver m.view m.body
  sent_at g [] i m z a = absurd (cc)
  sent_at g (n ∷ ms) zero m z a = let q : n ≡ m = cc in subst (λ (r : Message E). BodySent g r.sender r.receiver r.view r.body) q z.0
  sent_at g (n ∷ ms) (suc i) m z a = sent_at g ms i m z.1 a

  pub made_same : (x : NodeId) (g : Story E) (n : Node E) (out : List (Message E)) → Tale o g → Good g x n → AllSent g out → Made x g g n out
  made_same x g n out t z w = record { grow = grows_same b.view_of x g; tale = t; good = z; sent = w; commits = λ v. inl refl }
