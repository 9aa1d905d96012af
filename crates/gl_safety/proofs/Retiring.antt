-- A node whose retirement is committed is in no active configuration of a node that said so, nor of
-- a later leader, for good.
use Rattle.std.proofs.Common.{◌≡◌, ◌≢◌, inl, inr, ⊎_elim, ℕ, suc, ◌≤◌, ◌<◌, List, length, take, Bool, true, false, nat_le, nat_lt, if◌then◌else◌, Option, Some, None, slice_get, refl, sym, ap, ◌∙◌, true≢false, arith}
use Rattle.std.proofs.lemmas.Bool.{cases_lt}
use Rattle.std.proofs.lemmas.Bool.Decides.{nat_tests}
use Rattle.gl_rules.specs.Identity.{NodeId}
use Rattle.gl_rules.specs.Book.{Book}
use Rattle.gl_rules.specs.Node.{Node, Leader}
use Rattle.gl_rules.specs.Log.{greatest_recorded, last_signature}
use Rattle.gl_rules.specs.Retirement.{Ordered, Signed, Completed, RetiredCommitted, stage}
use Rattle.gl_rules.specs.World.{Start, Event, World, after}
use Rattle.gl_rules.specs.Safety.{IsOpening, IsLawful, EachFollows, IsRetiring, IsRetired, IsActive, RetiresSafely}
use Rattle.gl_rules.proofs.Lists.{Same, within}
use Rattle.gl_safety.proofs.Story.{Story}
use Rattle.gl_safety.proofs.Facts.{Matches, agree}
use Rattle.gl_safety.proofs.Certificates.{SureOver, Cert, Sured, Tale}
use Rattle.gl_safety.proofs.Complete.{complete}
use Rattle.gl_safety.proofs.Signatures.{recorded_le}
use Rattle.gl_safety.proofs.Invariants.{Good, sure_within, settled_of}
use Rattle.gl_safety.proofs.Places.{MarksKnown, place_same, mark_entry, marks_known}
use Rattle.gl_safety.proofs.Lasting.{Certified, Has, Moment, moments3}
use Rattle.gl_safety.proofs.Prefixes.{log_sound}
use Rattle.gl_safety.proofs.Committing.{committed_before}

module _ {E Q G R A F : Type 0} {b : Book E Q G R A F} {s : Start E} (o : IsOpening b (EachFollows b) s) (la : IsLawful b (EachFollows b)) where
  -- the mark is committed
  pub mark_reached : (n : Node E) (y : NodeId) → IsRetired b n y → (m : ℕ) × (b.mark n.log y ≡ Some m) × (m ≤ n.commit)
  unfolding stage
  mark_reached n y r = go (b.removal n.log y) (b.mark n.log y) refl r
    where
      go : (p q : Option ℕ) → b.mark n.log y ≡ q → stage p q (last_signature b n.log) n.commit ≡ Some RetiredCommitted → (m : ℕ) × (q ≡ Some m) × (m ≤ n.commit)
      go None q d w = absurd (cc)
      go (Some removal) None d w = absurd (not_reached (nat_le removal n.commit) (nat_lt removal (last_signature b n.log)) w)
        where
          not_reached : (p q : Bool) → (if p then Some Completed else (if q then Some Signed else Some Ordered)) ≡ Some RetiredCommitted → ⊥
          not_reached true q w = cc
          not_reached false true w = cc
          not_reached false false w = cc
      go (Some removal) (Some m) d w = (m, refl, reached (nat_le m n.commit) refl (nat_le removal n.commit) (nat_lt removal (last_signature b n.log)) w)
        where
          reached : (t : Bool) → nat_le m n.commit ≡ t → (p q : Bool) → (if t then Some RetiredCommitted else (if p then Some Completed else (if q then Some Signed else Some Ordered))) ≡ Some RetiredCommitted → m ≤ n.commit
          reached true e p q w = grind (arith, nat_tests)
          reached false e true q w = absurd (cc)
          reached false e false true w = absurd (cc)
          reached false e false false w = absurd (cc)

  module _ (re : IsRetiring b (EachFollows b)) where
    -- k's log holds what n committed, so that its commit reaches the removal
    gone : (n k : Node E) (y : NodeId) → EachFollows b n.log → EachFollows b k.log → MarksKnown b k.log → greatest_recorded b k.log ≤ k.commit → k.commit ≤ length k.log →
        (i : ℕ) (e : E) → n.commit ≡ suc i → slice_get n.log i ≡ Some e → b.is_signature e ≡ true → Same n.commit n.log k.log → IsRetired b n y → IsActive b k y → ⊥
    gone n k y zn zk marks least long i e at_i entry signs prefix r a =
        let m = mark_reached n y r in
        let en = mark_entry b la n.log y m.0 zn m.1 in
        let wide : n.commit ≤ length n.log = omega (arith, at_i, within n.log i e entry) in
        let mark_k : b.mark k.log y ≡ Some m.0 = place_same b b.mark la.markings n.log k.log y m.0 n.commit zn zk wide prefix m.2 m.1 in
        let removal_k : b.removal k.log y ≡ Some en.5.0 = place_same b b.removal la.removals n.log k.log y en.5.0 n.commit zn zk wide prefix (omega (arith, en.5.1, en.1, m.2)) en.5.2 in
        let other : en.0 ≢ i = λ (w : en.0 ≡ i).
        let same : en.2 ≡ e = let u : slice_get n.log i ≡ Some en.2 = ap (slice_get n.log) (sym w) ∙ en.3 in let v = sym u ∙ entry in cc in
        true≢false (sym signs ∙ ap b.is_signature (sym same) ∙ en.4) in
        let in_k : slice_get k.log i ≡ Some e = prefix i e (omega (arith, at_i)) entry in
        let low : en.5.0 ≤ k.commit = omega (arith, marks.known y m.0 en.5.0 mark_k removal_k i e in_k signs (omega (arith, en.1, m.2, at_i)), recorded_le b k.log i e in_k signs, least) in
        true≢false (sym a ∙ re.removed k.log y en.5.0 k.commit zk removal_k low long)

    within_log : (g : Story E) (x : NodeId) (n : Node E) → Good o g x n → n.commit ≤ length n.log
    within_log g x n z = let c = settled_of o g x n.view n.role n.log n.commit n.base n.matched z.commits in sure_within o g n.log n.commit c.0 c.1

    matches_to : (w : World E) (h : Story E) → Moment o la w h → (x : NodeId) → Matches b h.led (w.nodes x).log
    matches_to w h k x = record { below = λ i j e f a d l. k.later.led (b.view_of e) j f (((k.holding.nodes x)).logged.matches.below i j e f a d l) }

    -- of n at one moment and of k at another, whose log holds n's last committed entry
    gone_at : (u w : World E) (h : Story E) → Moment o la u h → Moment o la w h → (x z y : NodeId) (i : ℕ) (e : E) → (u.nodes x).commit ≡ suc i → slice_get (u.nodes x).log i ≡ Some e → b.is_signature e ≡ true →
        slice_get (w.nodes z).log i ≡ Some e → IsRetired b (u.nodes x) y → IsActive b (w.nodes z) y → ⊥
    gone_at u w h p q x z y i e at_i entry signs held r a =
        let zx = p.holding.nodes x in
        let zz = q.holding.nodes z in
        gone (u.nodes x) (w.nodes z) y zx.sound zz.sound
        (marks_known b la q.story.led (w.nodes z).log zz.logged.matches zz.sound q.holding.tale.follows q.holding.tale.matches q.holding.tale.marks)
        zz.commits.recorded (within_log q.story z (w.nodes z) zz) i e at_i entry signs
        (λ j f c d. agree b h.led (u.nodes x).log (w.nodes z).log i e (matches_to u h p x) (matches_to w h q z) entry held j f (omega (arith, at_i)) d)
        r a

    -- a commit that a mark reaches is no 0
    reaches : (n : Node E) (y : NodeId) → EachFollows b n.log → IsRetired b n y → 0 < n.commit
    reaches n y z r = let m = mark_reached n y r in let en = mark_entry b la n.log y m.0 z m.1 in omega (arith, en.1, m.2)

    module _ (h : Story E) (t : Tale o h) where
      -- what is sure at a moment is certified at the end
      certified : (u : World E) → Moment o la u h → (x : NodeId) (n : Node E) (c top d : ℕ) → (q : SureOver o (Cert o d h) h n.log c top) → Certified o la h q.i q.v q.j q.entry
      certified u p x n c top d q = record { tale = t; depth = d; last = q.last; mark = q.mark; cert = q.cert; le = q.le; signs = q.signs; leads = q.leads }

      -- who leads a later view holds it
      leader_has : (w : World E) → Moment o la w h → (z : NodeId) → (w.nodes z).role ≡ Leader → (i v j : ℕ) (e : E) → Certified o la h i v j e → v < (w.nodes z).view → Has o la i v e (w.nodes z)
      leader_has w q z r i v j e c d =
          let n = w.nodes z in
          let zz = q.holding.nodes z in
          let ch = zz.voter.chief_is r in
          let mine = zz.logged.mine ch in
          let top = complete o h t n.view z (q.later.chief n.view z ch) c.depth v j c.last c.cert c.mark d in
          let at_end = agree b h.led (h.led v) (h.led n.view) j c.last (t.matches v) (t.matches n.view) c.mark.at top i e (omega (arith, c.le)) c.leads in
          let low = (t.bound v).view i e c.leads in (
            ap (λ l. slice_get l i) mine ∙ ⊎_elim
                (λ (u : slice_get (q.story.led n.view) i ≡ Some e). u)
                (λ (u : b.view_of e ≡ n.view). absurd (omega (arith, low.1)))
                (q.later.fresh n.view z i e ch at_end),
            inl (omega arith),
          )

      -- what a node has committed
      sure_at : (u : World E) → Moment o la u h → (x y : NodeId) → IsRetired b (u.nodes x) y → (d : ℕ) × (top : ℕ) × (q : SureOver o (Cert o d h) h (u.nodes x).log (u.nodes x).commit top) × Has o la q.i q.v q.entry (u.nodes x)
      sure_at u p x y r =
          let n = u.nodes x in
          let z = p.holding.nodes x in
          let some = reaches n y z.sound r in
          ⊎_elim
          (λ (w : Sured o p.story n.log n.commit n.view).
          let c = p.later.sured n.log n.commit n.view w in
          ⊎_elim (λ (e : n.commit ≡ 0). absurd (omega arith)) (λ (q : SureOver o (Cert o c.0 h) h n.log n.commit n.view). (c.0, n.view, q, (q.at, inl (omega (arith, q.top))))) c.1)
          (λ (w : n.commit ≡ n.base).
          let k = settled_of o p.story x n.view n.role n.log n.commit n.base n.matched z.commits in
          let c = p.later.sured n.log n.commit k.0 k.1 in
          ⊎_elim (λ (e : n.commit ≡ 0). absurd (omega arith)) (λ (q : SureOver o (Cert o c.0 h) h n.log n.commit k.0). (c.0, k.0, q, (q.at, inr (omega (arith, q.seqno))))) c.1)
          z.commits.bounded

      leader_sure : (u : World E) → Moment o la u h → (x y : NodeId) → (u.nodes x).role ≡ Leader → IsRetired b (u.nodes x) y → (d : ℕ) × SureOver o (Cert o d h) h (u.nodes x).log (u.nodes x).commit (u.nodes x).view
      leader_sure u p x y l r =
          let n = u.nodes x in
          let z = p.holding.nodes x in
          let some = reaches n y z.sound r in
          let c = p.later.sured n.log n.commit n.view (z.commits.ruled l) in
          ⊎_elim (λ (e : n.commit ≡ 0). absurd (omega arith)) (λ (q : SureOver o (Cert o c.0 h) h n.log n.commit n.view). (c.0, q)) c.1

      -- z leads at v, and what it holds there is kept until w
      later_at : (u v w : World E) → Moment o la u h → Moment o la v h → Moment o la w h → ((i t j : ℕ) (e : E) → Certified o la h i t j e → (x : NodeId) → Has o la i t e (v.nodes x) → Has o la i t e (w.nodes x)) →
          (x z y : NodeId) → (u.nodes x).role ≡ Leader → IsRetired b (u.nodes x) y → (v.nodes z).role ≡ Leader → (u.nodes x).view < (v.nodes z).view → IsActive b (w.nodes z) y → ⊥
      later_at u v w p q k keeps x z y l r m d a =
          let c = leader_sure u p x y l r in
          let e = certified u p x (u.nodes x) (u.nodes x).commit (u.nodes x).view c.0 c.1 in
          let has = keeps c.1.i c.1.v c.1.j c.1.entry e z (leader_has v q z m c.1.i c.1.v c.1.j c.1.entry e (omega (arith, c.1.top))) in
          gone_at u w h p k x z y c.1.i c.1.entry c.1.seqno c.1.at c.1.signs has.0 r a

    pub here_safe : (es : List (Event Q G R)) (i j : ℕ) (x y : NodeId) → i ≤ j → IsRetired b ((after b s (take i es)).nodes x) y → IsActive b ((after b s (take j es)).nodes x) y → ⊥
    here_safe es i j x y d r a =
        let k = moments3 o la es i i j (omega arith) d in
        let c = sure_at k.story k.tale (after b s (take i es)) k.second x y r in
        let e = certified k.story k.tale (after b s (take i es)) k.second x ((after b s (take i es)).nodes x) ((after b s (take i es)).nodes x).commit c.1 c.0 c.2 in
        let has = k.late c.2.i c.2.v c.2.j c.2.entry e x c.3 in
        gone_at (after b s (take i es)) (after b s (take j es)) k.story k.second k.third x x y c.2.i c.2.entry c.2.seqno c.2.at c.2.signs has.0 r a

    pub later_safe : (es : List (Event Q G R)) (i j k : ℕ) (x z y : NodeId) → j ≤ k → ((after b s (take i es)).nodes x).role ≡ Leader → IsRetired b ((after b s (take i es)).nodes x) y →
        ((after b s (take j es)).nodes z).role ≡ Leader → ((after b s (take i es)).nodes x).view < ((after b s (take j es)).nodes z).view → IsActive b ((after b s (take k es)).nodes z) y → ⊥
    later_safe es i j k x z y d l r m v a = ⊎_elim
        (λ (p : i < j). let c = moments3 o la es i j k (omega arith) d in
        later_at c.story c.tale (after b s (take i es)) (after b s (take j es)) (after b s (take k es)) c.first c.second c.third c.late x z y l r m v a)
        (λ (p : j ≤ i). ⊎_elim
        (λ (q : i < k). let c = moments3 o la es j i k p (omega arith) in
        later_at c.story c.tale (after b s (take i es)) (after b s (take j es)) (after b s (take k es)) c.second c.first c.third
        (λ n t f e w u has. c.late n t f e w u (c.early n t f e w u has)) x z y l r m v a)
        (λ (q : k ≤ i). let c = moments3 o la es j k i d q in
        later_at c.story c.tale (after b s (take i es)) (after b s (take j es)) (after b s (take k es)) c.third c.first c.second c.early x z y l r m v a)
        (cases_lt i k))
        (cases_lt i j)

    retired : (k : Node E) (y : NodeId) (m q : ℕ) → b.mark k.log y ≡ Some m → b.removal k.log y ≡ Some q → m ≤ k.commit → IsRetired b k y
    unfolding stage
    retired k y m q a d h =
        ap (λ (p : Option ℕ). stage p (b.mark k.log y) (last_signature b k.log) k.commit) d
        ∙ ap (λ (p : Option ℕ). stage (Some q) p (last_signature b k.log) k.commit) a
        ∙ ap (λ (t : Bool). if t then Some RetiredCommitted else (if nat_le q k.commit then Some Completed else (if nat_lt q (last_signature b k.log) then Some Signed else Some Ordered))) (let u : nat_le m k.commit ≡ true = grind (arith, nat_tests) in u)

    -- a mark that is committed at x is so at a leader before
    pub led_safe : (es : List (Event Q G R)) (i : ℕ) (x y : NodeId) → IsRetired b ((after b s (take i es)).nodes x) y →
        (j : ℕ) × (z : NodeId) × (j ≤ i) × (((after b s (take j es)).nodes z).role ≡ Leader) × IsRetired b ((after b s (take j es)).nodes z) y
    led_safe es i x y r =
        let n = (after b s (take i es)).nodes x in
        let zn = log_sound o la es i x in
        let c = committed_before o la es i x (reaches n y zn r) in
        let k = (after b s (take c.0 es)).nodes c.1 in
        let zk = log_sound o la es c.0 c.1 in
        let m = mark_reached n y r in
        let en = mark_entry b la n.log y m.0 zn m.1 in
        let wide = commit_within es i x in
        let mark_k : b.mark k.log y ≡ Some m.0 = place_same b b.mark la.markings n.log k.log y m.0 n.commit zn zk wide c.5 m.2 m.1 in
        let removal_k : b.removal k.log y ≡ Some en.5.0 = place_same b b.removal la.removals n.log k.log y en.5.0 n.commit zn zk wide c.5 (omega (arith, en.5.1, en.1, m.2)) en.5.2 in
        (c.0, c.1, c.2, c.3, retired k y m.0 en.5.0 mark_k removal_k (omega (arith, m.2, c.4)))
      where
        commit_within : (es : List (Event Q G R)) (i : ℕ) (x : NodeId) → ((after b s (take i es)).nodes x).commit ≤ length ((after b s (take i es)).nodes x).log
        commit_within es i x = let k = moments3 o la es i i i (omega arith) (omega arith) in within_log k.first.story x ((after b s (take i es)).nodes x) (k.first.holding.nodes x)

    pub retires_safely : (es : List (Event Q G R)) → RetiresSafely b s es
    retires_safely es = record { here = here_safe es; later = later_safe es; led = led_safe es }
