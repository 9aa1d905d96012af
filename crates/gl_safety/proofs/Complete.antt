-- Who wins a view has all that was certified in earlier views, and nobody else wins it. Both hold
-- of any story at one moment.
use Rattle.std.proofs.Common.{◌≡◌, ◌≢◌, ◌⊎◌, inl, inr, ⊎_elim, ℕ, zero, suc, ◌-◌, ◌≤◌, ◌<◌, List, length, take, Bool, true, Option, Some, None, slice_get, refl, sym, ap, ◌∙◌, subst, arith}
use Rattle.std.proofs.lemmas.Bool.{cases_eq, cases_lt}
use Rattle.gl_rules.specs.Identity.{NodeId}
use Rattle.gl_rules.specs.Majority.{majority}
use Rattle.gl_rules.specs.Book.{Book}
use Rattle.gl_rules.specs.Message.{Position}
use Rattle.gl_rules.specs.World.{Start}
use Rattle.gl_rules.specs.Safety.{IsOpening, EachFollows}
use Rattle.gl_rules.proofs.Ids.{share}
use Rattle.gl_rules.proofs.Lists.{Same, same_take, there, within}
use Rattle.gl_safety.proofs.Story.{Story}
use Rattle.gl_safety.proofs.Configurations.{IsNewest, Backed, newest_same, newest_exists, backs}
use Rattle.gl_safety.proofs.Facts.{Holds, Covers, Matches, Mark, Lost, agree, is_led, led_is}
use Rattle.gl_safety.proofs.Certificates.{SureOver, Cert, Sure, Below, Won, Tale}

module _ {E Q G R A F : Type 0} {b : Book E Q G R A F} {s : Start E} (o : IsOpening b (EachFollows b) s) where
  -- who has the votes for w: the one who won it, or a candidate that is about to
  pub record Winner (g : Story E) (w : ℕ) : Type 0 where
    pub log : List E
    pub commit : ℕ
    pub votes : NodeId → Bool
    pub bid : Position
    pub depth : ℕ
    pub top : ℕ
    pub less : top < w
    pub opened : length s.opening ≤ commit
    pub within : commit ≤ length log
    pub matches : Matches b g.led log
    pub begins : Same (length s.opening) s.opening log
    pub backed : Backed b votes log commit (length log)
    pub sure : Sure o depth g log commit top
    pub lim : ℕ
    pub lim_least : w ≤ lim
    pub lim_most : lim ≤ suc w
    pub old : (y : NodeId) → votes y ≡ true → (v i : ℕ) (e : E) → v < w → Holds g y v i → Mark b g.led v i e → Covers bid v i ⊎ Lost b g.chief g.led v i lim
    pub bid_less : bid.view < w
    pub bid_zero : bid.seqno ≡ 0 → bid.view ≡ 0
    pub bid_top : (i : ℕ) → bid.seqno ≡ suc i → (e : E) × (slice_get log i ≡ Some e) × (b.view_of e ≡ bid.view)

  -- leaders of views below w have what was certified before them
  abbrev pub Before : Story E → ℕ → Type 0
  Before g w = (u : ℕ) (c : NodeId) → u < w → g.chief u ≡ Some c → (n v i : ℕ) (e : E) → Cert o n g v i → Mark b g.led v i e → v < u → slice_get (g.led u) i ≡ Some e

  -- what completeness says at a moment
  abbrev pub Whole : Story E → Type 0
  Whole g = (u : ℕ) (c : NodeId) → g.chief u ≡ Some c → (n v i : ℕ) (e : E) → Cert o n g v i → Mark b g.led v i e → v < u → slice_get (g.led u) i ≡ Some e

  pub chief_of_led : (g : Story E) → Tale o g → (v i : ℕ) (e : E) → slice_get (g.led v) i ≡ Some e → (c : NodeId) × (g.chief v ≡ Some c)
  chief_of_led g t v i e a = go (g.chief v) refl
    where
      go : (m : Option NodeId) → g.chief v ≡ m → (c : NodeId) × (g.chief v ≡ Some c)
      go (Some c) z = (c, z)
      go None z = absurd (let q = sym (ap (λ l. slice_get l i) (t.empty v z)) ∙ a in cc)

  -- the opening's configuration stands in each log that begins with it
  pub newest_in : (l : List E) (c : ℕ) → Same (length s.opening) s.opening l → length s.opening ≤ c → (p : ℕ) × (m : List NodeId) × IsNewest b l c p m
  newest_in l c a h =
      let cut : take o.configured_at s.opening ≡ take o.configured_at l = same_take o.configured_at s.opening l (omega (arith, o.within, o.long)) (λ j x d e. a j x (omega (arith, o.within, o.long)) e) in
      newest_exists b l o.configured_at (c - o.configured_at) c o.members o.counted (ap b.configuration (sym cut) ∙ o.configured) (omega (arith, o.within, o.long))

  -- the certificate of a commit that isn't 0
  pub settled : (n c t : ℕ) (g : Story E) (l : List E) → length s.opening ≤ c → Sure o n g l c t → SureOver o (Cert o n g) g l c t
  settled n c t g l h z = ⊎_elim (λ (q : c ≡ 0). absurd (omega (arith, o.long))) (λ (q : SureOver o (Cert o n g) g l c t). q) z

  module _ {g : Story E} {w : ℕ} (x : Winner g w) (t : Tale o g) (before : Before g x.lim) where
    -- a voter that held the certified signature: what the winner stood with covers it
    covered : (n v i : ℕ) (e : E) → Cert o (suc n) g v i → Mark b g.led v i e → v < w → (y : NodeId) → x.votes y ≡ true → Holds g y v i → slice_get x.log i ≡ Some e
    covered n v i e c m h y p q = ⊎_elim (λ (z : Covers x.bid v i). by_bid z) (λ (z : Lost b g.chief g.led v i x.lim). absurd (not_lost z)) (x.old y p v i e h q m)
      where
        not_lost : Lost b g.chief g.led v i x.lim → ⊥
        not_lost z = z.lacks e (before z.view z.by z.below z.won (suc n) v i e c m z.above) m.view

        at_bid : (k : ℕ) → x.bid.seqno ≡ suc k → Covers x.bid v i → slice_get x.log i ≡ Some e
        at_bid k d z =
            let r = x.bid_top k d in
            ⊎_elim
            (λ (u : v < x.bid.view).
            let ch = chief_of_led g t x.bid.view k r.0 (is_led b g.led x.log x.bid.view k k r.0 r.0 x.matches r.1 r.2 (omega arith) r.1) in
            let a : slice_get (g.led x.bid.view) i ≡ Some e = before x.bid.view ch.0 (omega (arith, x.bid_less, x.lim_least)) ch.1 (suc n) v i e c m u in
            let low : i ≤ k = ⊎_elim (λ (q : k < i). absurd (omega (arith, (t.rising x.bid.view).rising k i r.0 e (omega arith) (is_led b g.led x.log x.bid.view k k r.0 r.0 x.matches r.1 r.2 (omega arith) r.1) a, r.2, m.view))) (λ (q : i ≤ k). q) (cases_lt k i) in
            led_is b g.led x.log x.bid.view k i r.0 e x.matches r.1 r.2 low a)
            (λ (u : (v ≡ x.bid.view) × (i < x.bid.seqno)).
            led_is b g.led x.log v k i r.0 e x.matches r.1 (r.2 ∙ sym u.0) (omega (arith, u.1)) m.at)
            z

        by_bid : Covers x.bid v i → slice_get x.log i ≡ Some e
        by_bid z = go x.bid.seqno refl
          where
            go : (k : ℕ) → x.bid.seqno ≡ k → slice_get x.log i ≡ Some e
            go zero d = absurd (⊎_elim (λ (u : v < x.bid.view). omega (arith, x.bid_zero d)) (λ (u : (v ≡ x.bid.view) × (i < x.bid.seqno)). omega (arith, u.1)) z)
            go (suc k) d = at_bid k d z

    -- a configuration that the winner and the certificate both count
    meet : (n v i : ℕ) (e : E) → Cert o (suc n) g v i → Mark b g.led v i e → v < w → (y : NodeId) × (x.votes y ≡ true) × ((Holds g y v i)) → slice_get x.log i ≡ Some e
    meet n v i e c m h y = covered n v i e c m h y.0 y.1 y.2

    both : (n v i : ℕ) (c : Cert o (suc n) g v i) (mem : List NodeId) → majority x.votes mem ≡ true → majority c.votes mem ≡ true → (y : NodeId) × (x.votes y ≡ true) × (Holds g y v i)
    both n v i c mem p q = let y = share x.votes c.votes mem p q in (y.0, y.1, c.holds y.0 y.2)

    step : (n v i : ℕ) (e : E) (c : Cert o (suc n) g v i) → Mark b g.led v i e → v < w → (q : SureOver o (Cert o n g) g (g.led v) c.commit v) → slice_get x.log q.j ≡ Some q.last → slice_get x.log i ≡ Some e
    step n v i e c m h q deep = ⊎_elim (λ (d : c.commit < x.commit). later d) (λ (d : x.commit ≤ c.commit). sooner d) (cases_lt c.commit x.commit)
      where
        z : SureOver o (Cert o x.depth g) g x.log x.commit x.top
        z = settled x.depth x.commit x.top g x.log x.opened x.sure

        -- the winner has the leader's commit
        own : slice_get x.log q.i ≡ Some q.entry
        own = led_is b g.led x.log q.v q.j q.i q.last q.entry x.matches deep q.mark.view q.le q.leads

        own_led : Same (suc q.i) x.log (g.led v)
        own_led = agree b g.led x.log (g.led v) q.i q.entry x.matches (t.matches v) own q.at

        finish : (p : ℕ) (mem : List NodeId) (d : ℕ) → IsNewest b x.log d p mem → IsNewest b (g.led v) d p mem → x.commit ≤ d → c.commit ≤ d → d ≤ length x.log → d ≤ suc i → slice_get x.log i ≡ Some e
        finish p mem d a f k l r u = meet n v i e c m h (both n v i c mem (backs b x.votes x.log x.commit (length x.log) d p mem x.backed k r a) (backs b c.votes (g.led v) c.commit (suc i) d p mem c.backed l u f))

        sooner : x.commit ≤ c.commit → slice_get x.log i ≡ Some e
        sooner d =
            let y = newest_in x.log c.commit x.begins (omega (arith, x.opened)) in
            let long : c.commit ≤ length x.log = omega (arith, within x.log q.i q.entry own, q.seqno) in
            let a : Same c.commit x.log (g.led v) = λ j u k f. own_led j u (omega (arith, q.seqno)) f in
            finish y.0 y.1 c.commit y.2 (newest_same b x.log (g.led v) c.commit y.0 y.1 long a y.2) d (omega arith) long (omega (arith, c.less))

        -- the leader has the winner's commit
        shares : c.commit < x.commit → (z.i < i) → slice_get (g.led v) z.i ≡ Some z.entry → slice_get x.log i ≡ Some e
        shares d k a =
            let y = newest_in x.log x.commit x.begins x.opened in
            let f : Same (suc z.i) x.log (g.led v) = agree b g.led x.log (g.led v) z.i z.entry x.matches (t.matches v) z.at a in
            finish y.0 y.1 x.commit y.2 (newest_same b x.log (g.led v) x.commit y.0 y.1 x.within (λ j u l r. f j u (omega (arith, z.seqno)) r) y.2) (omega arith) (omega arith) x.within (omega (arith, z.seqno))

        through : (u : ℕ) → slice_get (g.led u) z.i ≡ Some z.entry → slice_get (g.led u) i ≡ Some e → c.commit < x.commit → slice_get x.log i ≡ Some e
        through u a f d = ⊎_elim
            (λ (k : z.i < i). shares d k (agree b g.led (g.led u) (g.led v) i e (t.matches u) (t.matches v) f m.at z.i z.entry (omega arith) a))
            (λ (k : i ≤ z.i). agree b g.led (g.led u) x.log z.i z.entry (t.matches u) x.matches a z.at i e (omega arith) f)
            (cases_lt z.i i)

        later : c.commit < x.commit → slice_get x.log i ≡ Some e
        later d = ⊎_elim
            (λ (k : v < z.v).
            let ch = chief_of_led g t z.v z.j z.last z.mark.at in
            through z.v z.leads (before z.v ch.0 (omega (arith, z.top, x.less, x.lim_least)) ch.1 (suc n) v i e c m k) d)
            (λ (k : z.v ≤ v). ⊎_elim
            (λ (j : z.v ≡ v). through z.v z.leads (ap (λ u. slice_get (g.led u) i) j ∙ m.at) d)
            (λ (j : z.v ≢ v).
            let ch = chief_of_led g t v i e m.at in
            let a : slice_get (g.led v) z.j ≡ Some z.last = before v ch.0 (omega (arith, x.lim_least)) ch.1 x.depth z.v z.j z.last z.cert z.mark (omega arith) in
            through v (agree b g.led (g.led z.v) (g.led v) z.j z.last (t.matches z.v) (t.matches v) z.mark.at a z.i z.entry (omega (arith, z.le)) z.leads) m.at d)
            (cases_eq z.v v))
            (cases_lt v z.v)

    -- the winner has each certified signature of an earlier view
    pub has_all : (n v i : ℕ) (e : E) → Cert o n g v i → Mark b g.led v i e → v < w → slice_get x.log i ≡ Some e
    has_all zero v i e c m h =
        let y = there s.opening i (omega (arith, c.1)) in
        let ch = chief_of_led g t v i e m.at in
        x.begins i e (omega (arith, c.1)) (y.1 ∙ sym (t.begins v ch.0 ch.1 i y.0 (omega (arith, c.1)) y.1) ∙ m.at)
    has_all (suc n) v i e c m h =
        let q = settled n c.commit v g (g.led v) c.opened c.sure in
        step n v i e c m h q (has_all n q.v q.j q.last q.cert q.mark (omega (arith, q.top)))

  -- two that have the votes for one view have a voter in common
  module _ {g : Story E} {w : ℕ} (x z : Winner g w) (t : Tale o g) (before : Before g (suc w)) where
    till : (l : ℕ) → l ≤ suc w → Before g l
    till l h u c k = before u c (omega arith)

    -- each has the other's commit
    crossed : (x z : Winner g w) → (q : SureOver o (Cert o x.depth g) g x.log x.commit x.top) → slice_get z.log q.i ≡ Some q.entry
    crossed x z q =
        led_is b g.led z.log q.v q.j q.i q.last q.entry z.matches
        (has_all z t (till z.lim z.lim_most) x.depth q.v q.j q.last q.cert q.mark (omega (arith, q.top, x.less)))
        q.mark.view q.le q.leads

    upto : (x z : Winner g w) → x.commit ≤ z.commit → (y : NodeId) × (x.votes y ≡ true) × (z.votes y ≡ true)
    upto x z h =
        let q = settled z.depth z.commit z.top g z.log z.opened z.sure in
        let a : slice_get x.log q.i ≡ Some q.entry = crossed z x q in
        let f : Same (suc q.i) z.log x.log = agree b g.led z.log x.log q.i q.entry z.matches x.matches q.at a in
        let n = newest_in z.log z.commit z.begins z.opened in
        let r = newest_same b z.log x.log z.commit n.0 n.1 z.within (λ j u k d. f j u (omega (arith, q.seqno)) d) n.2 in
        share x.votes z.votes n.1
        (backs b x.votes x.log x.commit (length x.log) z.commit n.0 n.1 x.backed h (omega (arith, q.seqno, within x.log q.i q.entry a)) r)
        (backs b z.votes z.log z.commit (length z.log) z.commit n.0 n.1 z.backed (omega arith) z.within n.2)

    pub one_voter : (y : NodeId) × (x.votes y ≡ true) × (z.votes y ≡ true)
    one_voter = ⊎_elim
        (λ (h : z.commit < x.commit). let y = upto z x (omega arith) in (y.0, y.2, y.1))
        (λ (h : x.commit ≤ z.commit). upto x z h)
        (cases_lt z.commit x.commit)

  unfoldable pub winner_of : (g : Story E) → Tale o g → (u : ℕ) (c : NodeId) → 2 < u → Won o g u c → Winner g u
  winner_of g t u c h q = record {
    log = q.log;
    commit = q.commit;
    votes = q.votes;
    bid = q.bid;
    depth = q.depth;
    top = q.top;
    less = q.less;
    opened = q.opened;
    within = q.within;
    matches = q.matches;
    begins = q.begins;
    backed = q.backed;
    sure = q.sure;
    lim = u;
    lim_least = omega arith;
    lim_most = omega arith;
    old = λ y a v i e d f m.
        let k = q.ballots y a in
        let r = (t.ballots y).votes u c h k.0 in
        let same : r.bid ≡ q.bid = let z = sym r.at ∙ q.at in cc in
        subst (λ (l : Position). Covers l v i ⊎ Lost b g.chief g.led v i u) same (r.old k.1 v i e d f m);
    bid_less = q.bid_less;
    bid_zero = q.bid_zero;
    bid_top = q.bid_top;
  }

  complete_at : (g : Story E) → Tale o g → (w : ℕ) → Before g w → (c : NodeId) → g.chief w ≡ Some c → (n v i : ℕ) (e : E) → Cert o n g v i → Mark b g.led v i e → v < w → slice_get (g.led w) i ≡ Some e
  unfolding winner_of
  complete_at g t w before c a n v i e z m h =
      let ch = chief_of_led g t v i e m.at in
      let high : 2 < w = omega (arith, t.low v ch.0 ch.1) in
      let q = t.won w c high a in
      q.prefix i e (has_all (winner_of g t w c high q) t before n v i e z m h)

  pub completes : (g : Story E) → Tale o g → (n : ℕ) → Before g n
  completes g t zero u c h = absurd (omega arith)
  completes g t (suc n) u c h = ⊎_elim
      (λ (z : u < n). completes g t n u c z)
      (λ (z : n ≤ u). let e : u ≡ n = omega arith in complete_at g t u (subst (Before g) (sym e) (completes g t n)) c)
      (cases_lt u n)

  -- each leader has what was certified before its view
  pub complete : (g : Story E) → Tale o g → Whole g
  complete g t u c = completes g t (suc u) u c (omega arith)

  -- A commit is certified below w, or else enough nodes have gone too far to vote in w.
  pub descend : (g : Story E) → Tale o g → (w : ℕ) → 2 < w → (n : ℕ) (l : List E) (c t : ℕ) → Matches b g.led l → SureOver o (Cert o n g) g l c t →
      Below o g l c w ⊎ ((gone : NodeId → Bool) × ((p : ℕ) (m : List NodeId) → IsNewest b l c p m → majority gone m ≡ true) × ((y : NodeId) → gone y ≡ true → (v : ℕ) × (i : ℕ) × (e : E) × (w ≤ v) × Holds g y v i × Mark b g.led v i e))
  descend g t w h zero l c u p q = inl (
    q.v,
    omega (arith, q.cert.0),
    (
      0,
      inr (record {
        i = q.i;
        seqno = q.seqno;
        entry = q.entry;
        at = q.at;
        signs = q.signs;
        v = q.v;
        j = q.j;
        last = q.last;
        mark = q.mark;
        cert = q.cert;
        le = q.le;
        top = omega arith;
        done = q.done;
        leads = q.leads;
      }),
    ),
  )
  descend g t w h (suc n) l c u p q = ⊎_elim
      (λ (k : q.v < w). inl (
        q.v,
        k,
        (
          suc n,
          inr (record {
            i = q.i;
            seqno = q.seqno;
            entry = q.entry;
            at = q.at;
            signs = q.signs;
            v = q.v;
            j = q.j;
            last = q.last;
            mark = q.mark;
            cert = q.cert;
            le = q.le;
            top = omega arith;
            done = q.done;
            leads = q.leads;
          }),
        ),
      ))
      (λ (k : w ≤ q.v). ⊎_elim
      (λ (d : q.i < q.cert.commit).
      let r = settled n q.cert.commit q.v g (g.led q.v) q.cert.opened q.cert.sure in
      let a : slice_get (g.led r.v) q.i ≡ Some q.entry = agree b g.led (g.led q.v) (g.led r.v) r.i r.entry (t.matches q.v) (t.matches r.v) r.at r.leads q.i q.entry (omega (arith, r.seqno)) q.leads in
      descend g t w h n l c u p (record {
        i = q.i;
        seqno = q.seqno;
        entry = q.entry;
        at = q.at;
        signs = q.signs;
        v = r.v;
        j = r.j;
        last = r.last;
        mark = r.mark;
        cert = r.cert;
        le = omega (arith, r.seqno, r.le);
        top = omega (arith, r.top, q.top);
        done = omega (arith, r.done, q.seqno);
        leads = a;
      }))
      (λ (d : q.cert.commit ≤ q.i).
      let f : Same (suc q.i) l (g.led q.v) = agree b g.led l (g.led q.v) q.i q.entry p (t.matches q.v) q.at q.leads in
      inr (
        q.cert.votes,
        (λ m mem z.
            backs b q.cert.votes (g.led q.v) q.cert.commit (suc q.j) c m mem q.cert.backed (omega (arith, q.seqno)) (omega (arith, q.seqno, q.le))
            (newest_same b l (g.led q.v) c m mem (omega (arith, q.seqno, within l q.i q.entry q.at)) (λ j x r e. f j x (omega (arith, q.seqno)) e) z)),
        (λ y z. (q.v, q.j, q.last, k, q.cert.holds y z, q.mark)),
      ))
      (cases_lt q.i q.cert.commit))
      (cases_lt q.v w)
