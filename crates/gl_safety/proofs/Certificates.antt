-- Certificates: a majority in each active configuration acknowledged a signature of its leader's
-- view. The leader took the active configurations by its commit, which rests on an earlier
-- certificate. So certificates are counted by their depth.
use Rattle.std.proofs.Common.{◌≡◌, ◌⊎◌, inl, inr, ⊎_elim, ℕ, zero, suc, ◌≤◌, ◌<◌, List, [], length, take, Bool, true, Some, None, slice_get, ap, ◌∙◌, arith}
use Rattle.gl_rules.specs.Identity.{NodeId}
use Rattle.gl_rules.specs.Book.{Book}
use Rattle.gl_rules.specs.Message.{Position}
use Rattle.gl_rules.specs.World.{Start}
use Rattle.gl_rules.specs.Safety.{IsOpening, EachFollows}
use Rattle.gl_rules.proofs.Lists.{Same, same_take, there, within}
use Rattle.gl_safety.proofs.Story.{Story, Grows}
use Rattle.gl_safety.proofs.Configurations.{Backed}
use Rattle.gl_safety.proofs.Places.{MarksKnown}
use Rattle.gl_safety.proofs.Facts.{Holds, Matches, Bound, Rising, Mark, Ballots, mark_grow, holds_grow}

module _ {E Q G R A F : Type 0} {b : Book E Q G R A F} {s : Start E} (o : IsOpening b (EachFollows b) s) where
  -- the entry at seqno c of l is a signature, at or below a certified one of a view that is at most
  -- t
  pub record SureOver (C : ℕ → ℕ → Type 0) (g : Story E) (l : List E) (c t : ℕ) : Type 0 where
    pub i : ℕ
    pub seqno : c ≡ suc i
    pub entry : E
    pub at : slice_get l i ≡ Some entry
    pub signs : b.is_signature entry ≡ true
    pub v : ℕ
    pub j : ℕ
    pub last : E
    pub mark : Mark b g.led v j last
    pub cert : C v j
    pub le : i ≤ j
    pub top : v ≤ t
    -- that view's leader committed as much
    pub done : c ≤ g.committed v
    pub leads : slice_get (g.led v) i ≡ Some entry

  pub record CertOver (S : List E → ℕ → ℕ → Type 0) (g : Story E) (v i : ℕ) : Type 0 where
    pub votes : NodeId → Bool
    pub commit : ℕ
    pub less : commit ≤ i
    pub opened : length s.opening ≤ commit
    pub within : i < length (g.led v)
    pub backed : Backed b votes (g.led v) commit (suc i)
    pub holds : (y : NodeId) → votes y ≡ true → Holds g y v i
    pub sure : S (g.led v) commit v

  -- a certificate, over at most n certificates that went before
  abbrev pub Cert : ℕ → Story E → ℕ → ℕ → Type 0
  Cert zero g v i = (v ≡ 2) × (suc i ≡ length s.opening)
  Cert (suc n) g v i = CertOver (λ l c t. (c ≡ 0) ⊎ SureOver (Cert n g) g l c t) g v i

  abbrev pub Sure : ℕ → Story E → List E → ℕ → ℕ → Type 0
  Sure n g l c t = (c ≡ 0) ⊎ SureOver (Cert n g) g l c t

  abbrev pub Sured : Story E → List E → ℕ → ℕ → Type 0
  Sured g l c t = (d : ℕ) × Sure d g l c t

  abbrev pub Settled : Story E → List E → ℕ → Type 0
  Settled g l c = (t : ℕ) × Sured g l c t

  abbrev pub Below : Story E → List E → ℕ → ℕ → Type 0
  Below g l c w = (t : ℕ) × (t < w) × Sured g l c t

  -- who won u, with what
  pub record Won (g : Story E) (u : ℕ) (c : NodeId) : Type 0 where
    pub log : List E
    pub commit : ℕ
    pub votes : NodeId → Bool
    pub bid : Position
    pub depth : ℕ
    pub top : ℕ
    pub less : top < u
    pub opened : length s.opening ≤ commit
    pub within : commit ≤ length log
    pub matches : Matches b g.led log
    pub begins : Same (length s.opening) s.opening log
    pub backed : Backed b votes log commit (length log)
    pub sure : Sure depth g log commit top
    pub at : g.bid c u ≡ Some bid
    pub ballots : (y : NodeId) → votes y ≡ true → (g.ballot y u ≡ Some c) × (g.early y u ≡ true)
    pub bid_less : bid.view < u
    pub bid_zero : bid.seqno ≡ 0 → bid.view ≡ 0
    pub bid_top : (i : ℕ) → bid.seqno ≡ suc i → (e : E) × (slice_get log i ≡ Some e) × (b.view_of e ≡ bid.view)
    pub prefix : (i : ℕ) (e : E) → slice_get log i ≡ Some e → slice_get (g.led u) i ≡ Some e

  -- what holds of the story
  pub record Tale (g : Story E) : Type 0 where
    pub early : (y : NodeId) (v : ℕ) (c : NodeId) → g.ballot y v ≡ Some c → g.chief v ≡ None → g.early y v ≡ true
    pub matches : (v : ℕ) → Matches b g.led (g.led v)
    pub bound : (v : ℕ) → Bound b v (g.led v)
    pub rising : (v : ℕ) → Rising b (g.led v)
    pub empty : (v : ℕ) → g.chief v ≡ None → g.led v ≡ []
    pub begins : (v : ℕ) (c : NodeId) → g.chief v ≡ Some c → Same (length s.opening) s.opening (g.led v)
    pub low : (v : ℕ) (c : NodeId) → g.chief v ≡ Some c → 1 < v
    pub won : (u : ℕ) (c : NodeId) → 2 < u → g.chief u ≡ Some c → Won g u c
    pub known : (v i : ℕ) (e : E) → slice_get (g.led v) i ≡ Some e → b.is_signature e ≡ true → (b.recorded_commit e ≤ suc i) × Sured g (g.led v) (b.recorded_commit e) v
    pub bids : (c : NodeId) (w : ℕ) (l : Position) → g.bid c w ≡ Some l → (2 < w) × (l.view < w)
    pub shuts : (c : NodeId) (w : ℕ) (y : NodeId) → g.shut c w y ≡ true → (v : ℕ) × (i : ℕ) × (e : E) × (w ≤ v) × Holds g y v i × Mark b g.led v i e
    pub stood : (c : NodeId) (w : ℕ) (y : NodeId) → g.shut c w y ≡ true → (l : Position) × (g.bid c w ≡ Some l)
    pub ballots : (y : NodeId) → Ballots b g y
    pub follows : (v i : ℕ) (e : E) → slice_get (g.led v) i ≡ Some e → b.breaks 0 (take i (g.led v)) e ≡ None
    pub marks : (v : ℕ) → MarksKnown b (g.led v)

  -- what stays
  module _ {x : NodeId} {g h : Story E} (k : Grows b.view_of x g h) where
    longer : (v i : ℕ) → i < length (g.led v) → i < length (h.led v)
    longer v i d = let y = there (g.led v) i d in within (h.led v) i y.0 (k.led v i y.0 y.1)

    backed_same : (votes : NodeId → Bool) (l r : List E) (c n : ℕ) → n ≤ length l → c ≤ n → Same n l r → Backed b votes l c n → Backed b votes r c n
    backed_same votes l r c n d i a z = record {
      newest = λ p m q. z.newest p m (record { counts = q.counts; below = q.below; at = ap b.configuration (cut p (omega (arith, q.below))) ∙ q.at; none = λ j u w. ap b.configuration (cut j (omega arith)) ∙ q.none j u w });
      above = λ q m u w t. z.above q m u w (ap b.configuration (cut q w) ∙ t);
    }
      where
        cut : (q : ℕ) → q ≤ n → take q l ≡ take q r
        cut q j = same_take q l r (omega arith) (λ i y u e. a i y (omega arith) e)

    over_grow : (C D : ℕ → ℕ → Type 0) → ((v j : ℕ) → C v j → D v j) → (l r : List E) → ((i : ℕ) (e : E) → slice_get l i ≡ Some e → slice_get r i ≡ Some e) → (c t : ℕ) →
        (c ≡ 0) ⊎ SureOver C g l c t → (c ≡ 0) ⊎ SureOver D h r c t
    over_grow C D f l r a c t z = ⊎_elim
        (λ (q : c ≡ 0). inl q)
        (λ (q : SureOver C g l c t). inr (record {
          i = q.i;
          seqno = q.seqno;
          entry = q.entry;
          at = a q.i q.entry q.at;
          signs = q.signs;
          v = q.v;
          j = q.j;
          last = q.last;
          mark = mark_grow b k q.v q.j q.last q.mark;
          cert = f q.v q.j q.cert;
          le = q.le;
          top = q.top;
          done = omega (arith, q.done, k.committed q.v);
          leads = k.led q.v q.i q.entry q.leads;
        }))
        z

    pub cert_grow : (n v i : ℕ) → Cert n g v i → Cert n h v i
    cert_grow zero v i c = c
    cert_grow (suc n) v i c = record {
      votes = c.votes;
      commit = c.commit;
      less = c.less;
      opened = c.opened;
      within = longer v i c.within;
      backed = backed_same c.votes (g.led v) (h.led v) c.commit (suc i) c.within (omega (arith, c.less)) (λ j e d a. k.led v j e a) c.backed;
      holds = λ y z. holds_grow b k y v i (c.holds y z);
      sure = over_grow (Cert n g) (Cert n h) (λ u j z. cert_grow n u j z) (g.led v) (h.led v) (k.led v) c.commit v c.sure;
    }

    pub sure_grow : (n : ℕ) (l r : List E) → ((i : ℕ) (e : E) → slice_get l i ≡ Some e → slice_get r i ≡ Some e) → (c t : ℕ) → Sure n g l c t → Sure n h r c t
    sure_grow n l r a c t z = over_grow (Cert n g) (Cert n h) (cert_grow n) l r a c t z

    pub sured_grow : (l r : List E) → ((i : ℕ) (e : E) → slice_get l i ≡ Some e → slice_get r i ≡ Some e) → (c t : ℕ) → Sured g l c t → Sured h r c t
    sured_grow l r a c t z = (z.0, sure_grow z.0 l r a c t z.1)
