-- What is certified stays: a node whose log reaches a signature at or below a certified one keeps
-- it, at each event and so for good.
use Rattle.std.proofs.Common.{◌≡◌, ◌≢◌, ◌⊎◌, inl, inr, ⊎_elim, ℕ, ◌+◌, ◌-◌, ◌≤◌, ◌<◌, min, List, [], ◌∷◌, length, take, drop, true, false, ◌&&◌, ◌||◌, ◌==◌, nat_lt, nat_le, if◌then◌else◌, Some, Result, Ok, Err, slice_get, refl, sym, ap, ◌∙◌, subst, arith}
use Rattle.std.proofs.lemmas.Bool.{cases_eq, cases_lt}
use Rattle.std.proofs.lemmas.Bool.Decides.{nat_tests}
use Rattle.gl_rules.specs.Identity.{NodeId}
use Rattle.gl_rules.specs.Book.{Book}
use Rattle.gl_rules.specs.Node.{Node, Role, Follower, Candidate, Leader}
use Rattle.gl_rules.specs.Message.{Position, Message, Body, RequestVote, VoteReply, Append, AppendReply, ProposeVote}
use Rattle.gl_rules.specs.Outcome.{Outcome, Step}
use Rattle.gl_rules.specs.Outcome as outcome
use Rattle.gl_rules.specs.Log.{view_at}
use Rattle.gl_rules.specs.Steps.{cut_to, enter_view, append_entry, update_view}
use Rattle.gl_rules.specs.Elections.{may_campaign, become_candidate}
use Rattle.gl_rules.specs.Replication.{matching_prefix_len, checked_append, accept_entries, append_reply, highest_possible_match, accept_or_refuse, merge_entries, merge_if_matching, become_follower, append_as, on_append, with_snapshot}
use Rattle.gl_rules.specs.World.{Start, Event, World, happens, run, begin, after}
use Rattle.gl_rules.specs.Safety.{IsOpening, IsLawful, EachFollows}
use Rattle.gl_rules.proofs.Ids.{by_test}
use Rattle.gl_rules.proofs.Lists.{there, within, take_get, drop_get, get_left}
use Rattle.gl_safety.proofs.Story.{Story}
use Rattle.gl_safety.proofs.Facts.{Segment, Mark, agree}
use Rattle.gl_safety.proofs.Certificates.{Cert, Sured, Tale}
use Rattle.gl_safety.proofs.Complete.{chief_of_led, complete}
use Rattle.gl_safety.proofs.Signatures.{signed_keeps}
use Rattle.gl_safety.proofs.Invariants.{Good, BodySent, sent_at}
use Rattle.gl_safety.proofs.Standing.{good_rise}
use Rattle.gl_safety.proofs.Following.{good_follow}
use Rattle.gl_safety.proofs.Merging.{held_le, held_ends, applied_is}
use Rattle.gl_safety.proofs.Runs.{Holding, Later, later_same, later_then, onward_event, first_story, run_append}
use Rattle.gl_safety.proofs.Beginning.{holding_first}
use Rattle.gl_safety.proofs.Prefixes.{take_further}
use Rattle.gl_safety.proofs.Walk.{Alike, Takes, event_keeps}

module _ {E Q G R A F : Type 0} {b : Book E Q G R A F} {s : Start E} (o : IsOpening b (EachFollows b) s) (la : IsLawful b (EachFollows b)) where
  -- in the story at the end, the signature e at index i is at or below the certified one of view v
  -- at index j
  pub record Certified (h : Story E) (i v j : ℕ) (e : E) : Type 0 where
    pub tale : Tale o h
    pub depth : ℕ
    pub last : E
    pub mark : Mark b h.led v j last
    pub cert : Cert o depth h v j
    pub le : i ≤ j
    pub signs : b.is_signature e ≡ true
    pub leads : slice_get (h.led v) i ≡ Some e

  -- a log that reaches it, of a node whose view or whose base does
  abbrev pub Has : ℕ → ℕ → E → Node E → Type 0
  Has i v e n = (slice_get n.log i ≡ Some e) × ((v ≤ n.view) ⊎ (i < n.base))

  module _ (x : NodeId) (h : Story E) (i v j : ℕ) (e : E) (c : Certified h i v j e) where
    alike : (n m : Node E) → Alike n m → Has i v e n → Has i v e m
    alike n m a p = (
      ap (λ l. slice_get l i) a.log ∙ p.0,
      ⊎_elim (λ (d : v ≤ n.view). inl (omega (arith, a.view))) (λ (d : i < n.base). inr (omega (arith, a.base))) p.1,
    )

    entered : (view : ℕ) (n : Node E) → n.view ≤ view → Has i v e n → Has i v e (enter_view b view n)
    unfolding enter_view
    entered view n up p = (
      signed_keeps b n.log i e p.0 c.signs,
      ⊎_elim (λ (d : v ≤ n.view). inl (omega arith)) (λ (d : i < n.base). inr d) p.1,
    )

    stood : (n : Node E) → may_campaign b x n ≡ true → Has i v e n → Has i v e (become_candidate b x n)
    stood n may p = entered (n.view + 1) n (omega arith) p

    grown : (n : Node E) (f : E) → n.role ≡ Leader → Has i v e n → Has i v e (append_entry n f)
    grown n f r p = (get_left n.log (f ∷ []) i e p.0, p.1)

    given : (m n : Node E) (seqno : ℕ) → n.log ≡ [] → Has i v e n → Has i v e (with_snapshot b m seqno n)
    given m n seqno d p = absurd (let q : slice_get [] i ≡ Some e = ap (λ l. slice_get l i) (sym d) ∙ p.0 in cc)

    -- entries of the leader of this view, which the log holds up to a seqno
    module _ (y : NodeId) (g : Story E) (n : Node E) (prev : Position) (es : List E) (theirs : ℕ) (t : Tale o g) (z : Good o g x n) (later : Later o la g h)
        (follower : n.role ≡ Follower) (segment : Segment b (g.led n.view) prev es) (sure_c : Sured o g (g.led n.view) theirs n.view) (has : Has i v e n) where
      -- the first entry that isn't held stands above
      cut_above : (k : ℕ) → k ≡ prev.seqno + matching_prefix_len b (drop prev.seqno n.log) es → matching_prefix_len b (drop prev.seqno n.log) es ≢ length es →
          (nat_lt k (length n.log) && nat_lt k n.commit) ≡ false → i < k
      cut_above k d more safe = ⊎_elim
          (λ (q : i < k). q)
          (λ (q : k ≤ i). absurd (⊎_elim (λ (w : v ≤ n.view). conflict q w) (λ (w : i < n.base). refused q w) has.1))
          (cases_lt i k)
        where
          long : i < length n.log
          long = within n.log i e has.0

          refused : k ≤ i → i < n.base → ⊥
          refused q w = let above = z.commits.above in let long' = long in grind (arith, nat_tests)

          conflict : k ≤ i → v ≤ n.view → ⊥
          conflict q w =
              let mine = there n.log k (omega (arith, long)) in
              let f = there es (matching_prefix_len b (drop prev.seqno n.log) es) (omega (arith, held_le b (drop prev.seqno n.log) es)) in
              let at_led : slice_get (h.led n.view) k ≡ Some f.0 = later.led n.view k f.0 (segment.items (matching_prefix_len b (drop prev.seqno n.log) es) k f.0 d f.1) in
              let top : slice_get (h.led n.view) j ≡ Some c.last = ⊎_elim
              (λ (u : v ≡ n.view). ap (λ r. slice_get (h.led r) j) (sym u) ∙ c.mark.at)
              (λ (u : v ≢ n.view). let ch = chief_of_led o h c.tale n.view k f.0 at_led in complete o h c.tale n.view ch.0 ch.1 c.depth v j c.last c.cert c.mark (omega arith))
              (cases_eq v n.view) in
              let in_v = agree b h.led n.log (h.led v) i e (record { below = λ p r d' f' a l m. later.led (b.view_of d') r f' (z.logged.matches.below p r d' f' a l m) }) (c.tale.matches v) has.0 c.leads k mine.0 (omega arith) mine.1 in
              let in_n = agree b h.led (h.led v) (h.led n.view) j c.last (c.tale.matches v) (c.tale.matches n.view) c.mark.at top k mine.0 (omega (arith, c.le)) in_v in
              let same : mine.0 ≡ f.0 = let u = sym in_n ∙ at_led in cc in
              held_ends b (drop prev.seqno n.log) es mine.0 f.0 (drop_get prev.seqno n.log (matching_prefix_len b (drop prev.seqno n.log) es) k d ∙ mine.1) f.1 (ap b.view_of same)

      extended : (k : ℕ) → i < k → (m : Result (List E) F) → checked_append b n.base (take k n.log) (drop (matching_prefix_len b (drop prev.seqno n.log) es) es) ≡ m →
          Has i v e (accept_or_refuse b n x y (prev.seqno + length es) theirs (cut_to k n) m).node
      extended k low (Err why) a = has
      extended k low (Ok log) a =
          let w = applied_is b n.base (take k n.log) (drop (matching_prefix_len b (drop prev.seqno n.log) es) es) log a in
          (ap (λ l. slice_get l i) w ∙ get_left (take k n.log) (drop (matching_prefix_len b (drop prev.seqno n.log) es) es) i e (take_get k n.log i e low has.0), has.1)

      merged : Has i v e (merge_entries b x y prev.seqno es (matching_prefix_len b (drop prev.seqno n.log) es) theirs n).node
      merged = by_test Kept (matching_prefix_len b (drop prev.seqno n.log) es == length es) (accept_entries b x y (prev.seqno + length es) theirs n) rest
          (λ d. has)
          (λ d. by_test Kept (nat_lt (prev.seqno + matching_prefix_len b (drop prev.seqno n.log) es) (length n.log) && nat_lt (prev.seqno + matching_prefix_len b (drop prev.seqno n.log) es) n.commit)
          (outcome.refuse n (outcome.BelowCommit n.commit (prev.seqno + matching_prefix_len b (drop prev.seqno n.log) es)))
          (accept_or_refuse b n x y (prev.seqno + length es) theirs (cut_to (prev.seqno + matching_prefix_len b (drop prev.seqno n.log) es) n) (checked_append b n.base (take (prev.seqno + matching_prefix_len b (drop prev.seqno n.log) es) n.log) (drop (matching_prefix_len b (drop prev.seqno n.log) es) es)))
          (λ f. has)
          (λ f. extended (prev.seqno + matching_prefix_len b (drop prev.seqno n.log) es) (cut_above (prev.seqno + matching_prefix_len b (drop prev.seqno n.log) es) refl (grind (arith, nat_tests)) f)
          (checked_append b n.base (take (prev.seqno + matching_prefix_len b (drop prev.seqno n.log) es) n.log) (drop (matching_prefix_len b (drop prev.seqno n.log) es) es)) refl))
        where
          Kept : Step E A F → Type 0
          Kept step = Has i v e step.node

          rest : Step E A F
          rest =
              if nat_lt (prev.seqno + matching_prefix_len b (drop prev.seqno n.log) es) (length n.log) && nat_lt (prev.seqno + matching_prefix_len b (drop prev.seqno n.log) es) n.commit
              then outcome.refuse n (outcome.BelowCommit n.commit (prev.seqno + matching_prefix_len b (drop prev.seqno n.log) es))
              else accept_or_refuse b n x y (prev.seqno + length es) theirs (cut_to (prev.seqno + matching_prefix_len b (drop prev.seqno n.log) es) n) (checked_append b n.base (take (prev.seqno + matching_prefix_len b (drop prev.seqno n.log) es) n.log) (drop (matching_prefix_len b (drop prev.seqno n.log) es) es))

      followed : Has i v e (merge_if_matching {A = A} {F = F} b x y prev es theirs n).node
      followed = by_test (λ (step : Step E A F). Has i v e step.node) ((prev.seqno == 0) || (nat_le prev.seqno (length n.log) && (view_at b n.log prev.seqno == prev.view)))
          (merge_entries b x y prev.seqno es (matching_prefix_len b (drop prev.seqno n.log) es) theirs n)
          (record { node = n; sent = append_reply b x y false (highest_possible_match b n.log prev.view (min (prev.seqno - 1) (length n.log))) n; outcome = outcome.Done })
          (λ d. merged)
          (λ d. has)

    append_keeps : (y : NodeId) (view : ℕ) (prev : Position) (es : List E) (theirs : ℕ) (g : Story E) (n : Node E) → Tale o g → Good o g x n → Later o la g h → view ≤ n.view →
        BodySent o g y x view (Append prev es theirs) → Has i v e n → Has i v e (on_append b x y view prev es theirs n).node
    unfolding on_append
    append_keeps y view prev es theirs g n t z later up said has =
        by_test Kept (nat_lt view n.view) (record { node = n; sent = append_reply b x y false 0 n; outcome = outcome.Done }) (append_as b n.role x y prev es theirs n) (λ d. has) (λ d. here (grind (arith, nat_tests)))
      where
        Kept : Step E A F → Type 0
        Kept step = Has i v e step.node

        here : view ≡ n.view → Kept (append_as b n.role x y prev es theirs n)
        here d = go n.role
          where
            follow : Kept (merge_if_matching b x y prev es theirs (become_follower b y n))
            follow = followed y g (become_follower b y n) prev es theirs t (good_follow o x g n (Some y) z) later refl
                (subst (λ (r : ℕ). Segment b (g.led r) prev es) d said.0) (subst (λ (r : ℕ). Sured o g (g.led r) theirs r) d said.1) has

            go : (r : Role) → Kept (append_as b r x y prev es theirs n)
            go Leader = has
            go Candidate = follow
            go Follower = follow

    rise_up : (r : ℕ) (n : Node E) → (enter_view b r n).view ≡ r
    unfolding enter_view
    rise_up r n = refl

    takes : (m : Message E) (g : Story E) (n : Node E) → Tale o g → Good o g x n → Later o la g h → BodySent o g m.sender x m.view m.body → Takes b x (Has i v e) alike grown entered stood given m.body m.sender m.view (update_view b m.view n)
    takes m g n t z later said = go m.body said
      where
        go : (p : Body E) → BodySent o g m.sender x m.view p → Takes b x (Has i v e) alike grown entered stood given p m.sender m.view (update_view b m.view n)
        go (RequestVote l) a = tt
        go (VoteReply granted) a = tt
        go (Append prev es theirs) a = by_test (λ (k : Node E). Has i v e k → Has i v e (on_append b x m.sender m.view prev es theirs k).node) (nat_lt n.view m.view) (enter_view b m.view n) n
            (λ d. append_keeps m.sender m.view prev es theirs g (enter_view b m.view n) t (good_rise o la g x n m.view (grind (arith, nat_tests)) z) later (omega (arith, rise_up m.view n)) a)
            (λ d. append_keeps m.sender m.view prev es theirs g n t z later (grind (arith, nat_tests)) a)
        go (AppendReply ok seqno) a = tt
        go ProposeVote a = tt

    event_has : (w : World E) (f : Event Q G R) (g : Story E) → Holding o la w g → Later o la g h → Has i v e (w.nodes x) → Has i v e ((happens b w f).world.nodes x)
    event_has w f g k later has = event_keeps b x (Has i v e) alike grown entered stood given w f
        (λ which m a r. rw r (takes m g (w.nodes x) k.tale (k.nodes x) later (rw (sym r) (sent_at o g w.sent which m k.sent a))))
        has

  -- what is certified in the story at the end is kept from one moment to another
  abbrev pub Keeps : Story E → World E → World E → Type 0
  Keeps h u w = (i v j : ℕ) (e : E) → Certified h i v j e → (x : NodeId) → Has i v e (u.nodes x) → Has i v e (w.nodes x)

  -- a moment of a run, which ends with the story h
  pub record Moment (w : World E) (h : Story E) : Type 0 where
    pub story : Story E
    pub holding : Holding o la w story
    pub later : Later o la story h

  run_keeps : (es : List (Event Q G R)) (w : World E) (g : Story E) → Holding o la w g →
      (k : Story E) × Holding o la (run b es w) k × Later o la g k × ((h : Story E) → Later o la k h → Keeps h w (run b es w))
  unfolding run
  run_keeps [] w g k = (g, k, later_same o la g, λ h later i v j e c x has. has)
  run_keeps (f ∷ es) w g k =
      let p = onward_event o la w g f k in
      let q = run_keeps es (happens b w f).world p.0 p.1 in (
        q.0,
        q.1,
        later_then o la g p.0 q.0 p.2 q.2,
        λ h later i v j e c x has. q.3 h later i v j e c x (event_has x h i v j e c w f g k (later_then o la g p.0 h p.2 (later_then o la p.0 q.0 h q.2 later)) has),
      )

  -- three moments of one run, in order
  pub record Moments3 (u v w : World E) : Type 0 where
    pub story : Story E
    pub tale : Tale o story
    pub first : Moment u story
    pub second : Moment v story
    pub third : Moment w story
    pub early : Keeps story u v
    pub late : Keeps story v w

  pub moments3 : (es : List (Event Q G R)) (i j k : ℕ) → i ≤ j → j ≤ k → Moments3 (after b s (take i es)) (after b s (take j es)) (after b s (take k es))
  moments3 es i j k c d =
      let p = run_keeps (take i es) (begin s) (first_story o la) (holding_first o la) in
      let f = take_further i j es c in
      let q = run_keeps f.0 (run b (take i es) (begin s)) p.0 p.1 in
      let at_j : run b f.0 (run b (take i es) (begin s)) ≡ run b (take j es) (begin s) = sym (run_append o la (take i es) f.0 (begin s)) ∙ ap (λ l. run b l (begin s)) (sym f.1) in
      let n = take_further j k es d in
      let r = run_keeps n.0 (run b f.0 (run b (take i es) (begin s))) q.0 q.1 in
      let at_k : run b n.0 (run b f.0 (run b (take i es) (begin s))) ≡ run b (take k es) (begin s) =
      ap (run b n.0) at_j ∙ sym (run_append o la (take j es) n.0 (begin s)) ∙ ap (λ l. run b l (begin s)) (sym n.1) in
      let last = later_same o la r.0 in
      let late : Keeps r.0 (run b f.0 (run b (take i es) (begin s))) (run b (take k es) (begin s)) = subst (λ (w : World E). Keeps r.0 (run b f.0 (run b (take i es) (begin s))) w) at_k (r.3 r.0 last) in
      record {
        story = r.0;
        tale = r.1.tale;
        first = record { story = p.0; holding = p.1; later = later_then o la p.0 q.0 r.0 q.2 r.2 };
        second = record { story = q.0; holding = subst (λ (w : World E). Holding o la w q.0) at_j q.1; later = r.2 };
        third = record { story = r.0; holding = subst (λ (w : World E). Holding o la w r.0) at_k r.1; later = last };
        early = subst (λ (w : World E). Keeps r.0 (run b (take i es) (begin s)) w) at_j (q.3 r.0 r.2);
        late = subst (λ (w : World E). Keeps r.0 w (run b (take k es) (begin s))) at_j late;
      }
