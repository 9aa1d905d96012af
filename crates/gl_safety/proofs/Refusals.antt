-- No message is refused for what its sender holds, but at a node whose commit is its base.
use Rattle.std.proofs.Common.{◌≡◌, ◌≢◌, ⊎_elim, ℕ, suc, ◌+◌, ◌-◌, ◌≤◌, ◌<◌, min, List, [], ◌∷◌, ◌++◌, length, take, drop, Bool, true, false, ◌&&◌, ◌||◌, ◌==◌, nat_lt, nat_le, if◌then◌else◌, Option, Some, None, Result, Ok, Err, slice_get, refl, sym, ap, ◌∙◌, subst, arith}
use Rattle.std.proofs.lemmas.Bool.{cases_eq}
use Rattle.std.proofs.lemmas.Bool.Decides.{nat_tests}
use Rattle.gl_rules.specs.Identity.{NodeId}
use Rattle.gl_rules.specs.Book.{Book}
use Rattle.gl_rules.specs.Node.{Node, Role, Follower, Candidate, Leader}
use Rattle.gl_rules.specs.Message.{Position, Message, Body, RequestVote, VoteReply, Append, AppendReply, ProposeVote}
use Rattle.gl_rules.specs.Log.{is_up_to_date, view_at, last_signature_position}
use Rattle.gl_rules.specs.Steps.{cut_to, enter_view, has_votes, campaign_outcome, update_view}
use Rattle.gl_rules.specs.World.{Start, Event, Deliver, World, answer_as, undo_if_refused, on_message, happens, begin, after}
use Rattle.gl_rules.specs.Safety.{IsOpening, IsLawful, EachFollows, RefusedOnlyAtBase, NeverConflicts}
use Rattle.gl_rules.proofs.Ids.{by_test}
use Rattle.gl_rules.proofs.Lists.{Same, same_take, there, within, drop_get, take_one_more}
use Rattle.gl_safety.proofs.Story.{Story}
use Rattle.gl_safety.proofs.Facts.{Segment, agree}
use Rattle.gl_safety.proofs.Certificates.{SureOver, Cert, Sured, Tale}
use Rattle.gl_safety.proofs.Complete.{chief_of_led, complete}
use Rattle.gl_safety.proofs.Invariants.{Good, BodySent, sent_at}
use Rattle.gl_rules.specs.Outcome.{Outcome, Step}
use Rattle.gl_rules.specs.Outcome as outcome
use Rattle.gl_rules.specs.Elections.{may_vote_for, may_campaign, become_candidate, campaign, vote_outcome, last_view, timeout_as, timeout, reply_to_vote_request, on_request_vote, add_vote, count_votes, vote_reply_as, on_vote_reply, on_propose_vote}
use Rattle.gl_rules.specs.Replication.{matching_prefix_len, unless_broken, checked_append, accept_entries, append_reply, highest_possible_match, accept_or_refuse, merge_entries, merge_if_matching, become_follower, append_as, on_append, update_match, update_progress, append_reply_as, on_append_reply}
use Rattle.gl_safety.proofs.Standing.{good_rise}
use Rattle.gl_safety.proofs.Following.{good_follow}
use Rattle.gl_safety.proofs.Merging.{held_le, held_in, held_ends, agreed}
use Rattle.gl_safety.proofs.Replicas.{suffix}
use Rattle.gl_safety.proofs.Runs.{Holding, first_story, onward_run}
use Rattle.gl_safety.proofs.Beginning.{holding_first}

module _ {E Q G R A F : Type 0} {b : Book E Q G R A F} {s : Start E} (o : IsOpening b (EachFollows b) s) (la : IsLawful b (EachFollows b)) where
  -- a step's outcome
  abbrev Fine : Node E → Step E A F → Type 0
  Fine n step = RefusedOnlyAtBase b n step.outcome

  timeout_fine : (n : Node E) (x : NodeId) (k : Node E) → Fine n (timeout b x k)
  unfolding timeout
  timeout_fine n x k = go k.role
    where
      stood : (m : Bool) → RefusedOnlyAtBase b n (campaign_outcome b m)
      stood true = tt
      stood false = tt

      allowed : (m l : Bool) → Fine n (if m then (if l then outcome.refuse k outcome.ViewLimit else campaign b x (become_candidate b x k)) else outcome.idle k)
      allowed true true = tt
      allowed true false = stood (has_votes b (become_candidate b x k))
      allowed false l = tt

      go : (r : Role) → Fine n (timeout_as b r x k)
      go Leader = tt
      go Candidate = allowed (may_campaign b x k) (k.view == last_view)
      go Follower = allowed (may_campaign b x k) (k.view == last_view)

  request_fine : (n : Node E) (x c : NodeId) (view : ℕ) (theirs : Position) (k : Node E) → Fine n (on_request_vote b x c view theirs k)
  unfolding on_request_vote
  request_fine n x c view theirs k = by_test (Fine n) (nat_lt view k.view) (reply_to_vote_request b x c false k) (reply_to_vote_request b x c (may_vote_for k.vote c && is_up_to_date theirs (last_signature_position b k.log)) k) (λ d. tt) (λ d. tt)

  reply_fine : (n : Node E) (y : NodeId) (view : ℕ) (granted : Bool) (k : Node E) → Fine n (on_vote_reply b y view granted k)
  unfolding on_vote_reply
  reply_fine n y view granted k = go k.role
    where
      won : (m : Bool) → RefusedOnlyAtBase b n (vote_outcome b m)
      won true = tt
      won false = tt

      go : (r : Role) → Fine n (vote_reply_as b r y view granted k)
      go Leader = tt
      go Follower = tt
      go Candidate = by_test (Fine n) (granted && (view == k.view)) (count_votes b (add_vote b y k)) (outcome.idle k) (λ d. won (has_votes b (add_vote b y k))) (λ d. tt)

  append_reply_fine : (n : Node E) (y : NodeId) (view : ℕ) (ok : Bool) (seqno : ℕ) (k : Node E) → Fine n (on_append_reply b y view ok seqno k)
  unfolding on_append_reply
  append_reply_fine n y view ok seqno k = go k.role
    where
      inner : (m : Bool) → Fine n (update_progress b m y seqno k)
      inner true = by_test (Fine n) (nat_le seqno (length k.log)) (outcome.quiet (update_match b y seqno k) outcome.Done) (outcome.idle k) (λ d. tt) (λ d. tt)
      inner false = tt

      go : (r : Role) → Fine n (append_reply_as b r y view ok seqno k)
      go Leader = by_test (Fine n) (view == k.view) (update_progress b ok y seqno k) (outcome.idle k) (λ d. inner ok) (λ d. tt)
      go Candidate = tt
      go Follower = tt

  propose_fine : (n : Node E) (x : NodeId) (view : ℕ) (k : Node E) → Fine n (on_propose_vote b x view k)
  unfolding on_propose_vote
  propose_fine n x view k = by_test (Fine n) (nat_lt view k.view) (outcome.idle k) (timeout b x k) (λ d. tt) (λ d. timeout_fine n x k)

  -- entries of a leader's log follow one another
  applied_fine : (base : ℕ) (m l es : List E) (k : ℕ) (why : F) → EachFollows b m → l ≡ take k m → ((i j : ℕ) (e : E) → j ≡ k + i → slice_get es i ≡ Some e → slice_get m j ≡ Some e) → checked_append b base l es ≡ Err why → ⊥
  unfolding checked_append
  applied_fine base m l [] k why f q items a = cc
  applied_fine base m l (e ∷ es) k why f q items a = go (b.breaks base l e) follows a
      (applied_fine base m (l ++ e ∷ []) es (suc k) why f (ap (λ r. r ++ e ∷ []) q ∙ take_one_more m k e at_k) (λ i j d z c. items (suc i) j d (omega arith) c))
    where
      at_k : slice_get m k ≡ Some e
      at_k = items 0 k e (omega arith) refl

      follows : b.breaks base l e ≡ None
      follows = la.weaker l e base (ap (λ r. b.breaks 0 r e) q ∙ f k e at_k)

      go : (w : Option F) → w ≡ None → unless_broken b w (checked_append b base (l ++ e ∷ []) es) ≡ Err why → (checked_append b base (l ++ e ∷ []) es ≡ Err why → ⊥) → ⊥
      go None d u again = again u
      go (Some y) d u again = cc

  module _ (x y : NodeId) (g : Story E) (n : Node E) (prev : Position) (es : List E) (theirs : ℕ) (t : Tale o g) (z : Good o g x n) (follower : n.role ≡ Follower)
      (segment : Segment b (g.led n.view) prev es) (sure_c : Sured o g (g.led n.view) theirs n.view) where
    module _ (short : prev.seqno ≤ length n.log) (prefix : Same prev.seqno n.log (g.led n.view)) where
      -- where the first entry that isn't held
      held : ℕ
      held = matching_prefix_len b (drop prev.seqno n.log) es

      cut_fine : (k : ℕ) → k ≡ prev.seqno + matching_prefix_len b (drop prev.seqno n.log) es → matching_prefix_len b (drop prev.seqno n.log) es ≢ length es → k < length n.log → k < n.commit → (n.commit ≡ n.base) × (0 < n.base)
      cut_fine k d more h low = ⊎_elim (λ (q : Sured o g n.log n.commit n.view). absurd (not_sure q)) (λ (q : n.commit ≡ n.base). (q, omega arith)) z.commits.bounded
        where
          mine : (e : E) × (slice_get n.log k ≡ Some e)
          mine = there n.log k h

          theirs_e : (f : E) × (slice_get es (matching_prefix_len b (drop prev.seqno n.log) es) ≡ Some f)
          theirs_e = there es (matching_prefix_len b (drop prev.seqno n.log) es) (omega (arith, held_le b (drop prev.seqno n.log) es))

          at_led : slice_get (g.led n.view) k ≡ Some theirs_e.0
          at_led = segment.items (matching_prefix_len b (drop prev.seqno n.log) es) k theirs_e.0 d theirs_e.1

          not_sure : Sured o g n.log n.commit n.view → ⊥
          not_sure q = ⊎_elim
              (λ (w : n.commit ≡ 0). omega arith)
              (λ (w : SureOver o (Cert o q.0 g) g n.log n.commit n.view).
              let top : slice_get (g.led n.view) w.j ≡ Some w.last = ⊎_elim
              (λ (c : w.v ≡ n.view). ap (λ u. slice_get (g.led u) w.j) (sym c) ∙ w.mark.at)
              (λ (c : w.v ≢ n.view). let ch = chief_of_led o g t n.view k theirs_e.0 at_led in complete o g t n.view ch.0 ch.1 q.0 w.v w.j w.last w.cert w.mark (omega (arith, w.top)))
              (cases_eq w.v n.view) in
              let led_k = agree b g.led (g.led w.v) (g.led n.view) w.j w.last (t.matches w.v) (t.matches n.view) w.mark.at top k mine.0 (omega (arith, w.le, w.seqno))
              (agree b g.led n.log (g.led w.v) w.i w.entry z.logged.matches (t.matches w.v) w.at w.leads k mine.0 (omega (arith, w.seqno)) mine.1) in
              let same : mine.0 ≡ theirs_e.0 = let c = sym led_k ∙ at_led in cc in
              held_ends b (drop prev.seqno n.log) es mine.0 theirs_e.0 (drop_get prev.seqno n.log (matching_prefix_len b (drop prev.seqno n.log) es) k d ∙ mine.1) theirs_e.1 (ap b.view_of same))
              q.1

      extended_fine : (k : ℕ) → k ≡ prev.seqno + matching_prefix_len b (drop prev.seqno n.log) es → (m : Result (List E) F) → checked_append b n.base (take k n.log) (drop (matching_prefix_len b (drop prev.seqno n.log) es) es) ≡ m →
          Fine n (accept_or_refuse b n x y (prev.seqno + length es) theirs (cut_to k n) m)
      extended_fine k d (Ok log) a = tt
      extended_fine k d (Err why) a = applied_fine n.base (g.led n.view) (take k n.log) (drop (matching_prefix_len b (drop prev.seqno n.log) es) es) k why (t.follows n.view)
          (same_take k n.log (g.led n.view) low (λ j f h c. agreed b g.led n.log (g.led n.view) es prev.seqno z.logged.matches (t.matches n.view) short prefix segment.items j f (omega arith) c))
          (λ i j e c v. segment.items (matching_prefix_len b (drop prev.seqno n.log) es + i) j e (omega arith) (sym (drop_get (matching_prefix_len b (drop prev.seqno n.log) es) es i (matching_prefix_len b (drop prev.seqno n.log) es + i) refl) ∙ v)) a
        where
          low : k ≤ length n.log
          low = ⊎_elim
              (λ (q : matching_prefix_len b (drop prev.seqno n.log) es ≡ 0). omega arith)
              (λ (q : matching_prefix_len b (drop prev.seqno n.log) es ≢ 0).
              let w = held_in b (drop prev.seqno n.log) es (matching_prefix_len b (drop prev.seqno n.log) es - 1) (omega arith) in
              let in_l : slice_get n.log (prev.seqno + (matching_prefix_len b (drop prev.seqno n.log) es - 1)) ≡ Some w.0 = sym (drop_get prev.seqno n.log (matching_prefix_len b (drop prev.seqno n.log) es - 1) (prev.seqno + (matching_prefix_len b (drop prev.seqno n.log) es - 1)) (omega arith)) ∙ w.2 in
              omega (arith, within n.log (prev.seqno + (matching_prefix_len b (drop prev.seqno n.log) es - 1)) w.0 in_l))
              (cases_eq (matching_prefix_len b (drop prev.seqno n.log) es) 0)

      merges_fine : Fine n (merge_entries b x y prev.seqno es (matching_prefix_len b (drop prev.seqno n.log) es) theirs n)
      merges_fine = by_test (Fine n) (matching_prefix_len b (drop prev.seqno n.log) es == length es) (accept_entries b x y (prev.seqno + length es) theirs n) more
          (λ d. tt)
          (λ d. by_test (Fine n) (nat_lt (prev.seqno + matching_prefix_len b (drop prev.seqno n.log) es) (length n.log) && nat_lt (prev.seqno + matching_prefix_len b (drop prev.seqno n.log) es) n.commit)
          (outcome.refuse n (outcome.BelowCommit n.commit (prev.seqno + matching_prefix_len b (drop prev.seqno n.log) es)))
          (accept_or_refuse b n x y (prev.seqno + length es) theirs (cut_to (prev.seqno + matching_prefix_len b (drop prev.seqno n.log) es) n) (checked_append b n.base (take (prev.seqno + matching_prefix_len b (drop prev.seqno n.log) es) n.log) (drop (matching_prefix_len b (drop prev.seqno n.log) es) es)))
          (λ e. cut_fine (prev.seqno + matching_prefix_len b (drop prev.seqno n.log) es) refl (grind (arith, nat_tests)) (grind (arith, nat_tests)) (grind (arith, nat_tests)))
          (λ e. extended_fine (prev.seqno + matching_prefix_len b (drop prev.seqno n.log) es) refl (checked_append b n.base (take (prev.seqno + matching_prefix_len b (drop prev.seqno n.log) es) n.log) (drop (matching_prefix_len b (drop prev.seqno n.log) es) es)) refl))
        where
          more : Step E A F
          more =
              if nat_lt (prev.seqno + matching_prefix_len b (drop prev.seqno n.log) es) (length n.log) && nat_lt (prev.seqno + matching_prefix_len b (drop prev.seqno n.log) es) n.commit
              then outcome.refuse n (outcome.BelowCommit n.commit (prev.seqno + matching_prefix_len b (drop prev.seqno n.log) es))
              else accept_or_refuse b n x y (prev.seqno + length es) theirs (cut_to (prev.seqno + matching_prefix_len b (drop prev.seqno n.log) es) n) (checked_append b n.base (take (prev.seqno + matching_prefix_len b (drop prev.seqno n.log) es) n.log) (drop (matching_prefix_len b (drop prev.seqno n.log) es) es))

    follows_fine : Fine n (merge_if_matching b x y prev es theirs n)
    follows_fine = by_test (Fine n) ((prev.seqno == 0) || (nat_le prev.seqno (length n.log) && (view_at b n.log prev.seqno == prev.view)))
        (merge_entries b x y prev.seqno es (matching_prefix_len b (drop prev.seqno n.log) es) theirs n)
        (record { node = n; sent = append_reply b x y false (highest_possible_match b n.log prev.view (min (prev.seqno - 1) (length n.log))) n; outcome = outcome.Done })
        (λ d. let q = suffix o la x y g n prev es theirs t z follower segment sure_c d in merges_fine q.0 q.1)
        (λ d. tt)

  append_fine : (x y : NodeId) (view : ℕ) (prev : Position) (es : List E) (theirs : ℕ) (g : Story E) (n : Node E) → Tale o g → Good o g x n → view ≤ n.view → BodySent o g y x view (Append prev es theirs) →
      Fine n (on_append b x y view prev es theirs n)
  unfolding on_append
  append_fine x y view prev es theirs g n t z up said = by_test (Fine n) (nat_lt view n.view) (record { node = n; sent = append_reply b x y false 0 n; outcome = outcome.Done }) (append_as b n.role x y prev es theirs n) (λ d. tt) (λ d. here (grind (arith, nat_tests)))
    where
      here : view ≡ n.view → Fine n (append_as b n.role x y prev es theirs n)
      here d = go n.role
        where
          follow : Fine n (merge_if_matching b x y prev es theirs (become_follower b y n))
          follow = follows_fine x y g (become_follower b y n) prev es theirs t (good_follow o x g n (Some y) z) refl
              (subst (λ (v : ℕ). Segment b (g.led v) prev es) d said.0) (subst (λ (v : ℕ). Sured o g (g.led v) theirs v) d said.1)

          go : (r : Role) → Fine n (append_as b r x y prev es theirs n)
          go Leader = tt
          go Candidate = follow
          go Follower = follow

  answer_fine : (m : Message E) (g : Story E) (n : Node E) → Tale o g → Good o g m.receiver n → m.view ≤ n.view → BodySent o g m.sender m.receiver m.view m.body → Fine n (answer_as b m.body m.receiver m.sender m.view n)
  answer_fine m g n t z up said = go m.body said
    where
      go : (p : Body E) → BodySent o g m.sender m.receiver m.view p → Fine n (answer_as b p m.receiver m.sender m.view n)
      go (RequestVote theirs) a = request_fine n m.receiver m.sender m.view theirs n
      go (VoteReply granted) a = reply_fine n m.sender m.view granted n
      go (Append prev es c) a = append_fine m.receiver m.sender m.view prev es c g n t z up a
      go (AppendReply ok seqno) a = append_reply_fine n m.sender m.view ok seqno n
      go ProposeVote a = propose_fine n m.receiver m.view n

  kept_fine : (n k : Node E) (w : Outcome A F) (step : Step E A F) → RefusedOnlyAtBase b n w → Fine n step → Fine n (undo_if_refused w k step)
  kept_fine n k (outcome.Refused why) step h f = h
  kept_fine n k outcome.Done step h f = f
  kept_fine n k outcome.Idle step h f = f
  kept_fine n k outcome.BecameCandidate step h f = f
  kept_fine n k outcome.BecameLeader step h f = f
  kept_fine n k (outcome.Accepted v p a) step h f = f
  kept_fine n k (outcome.Signed v p) step h f = f
  kept_fine n k (outcome.Committed v p) step h f = f

  -- only commit and base are read of the node
  same_fine : (n k : Node E) (w : Outcome A F) → k.commit ≡ n.commit → k.base ≡ n.base → RefusedOnlyAtBase b k w → RefusedOnlyAtBase b n w
  same_fine n k (outcome.Refused (outcome.ByLedger why)) c d h = h
  same_fine n k (outcome.Refused (outcome.BelowCommit p q)) c d h = (sym c ∙ h.0 ∙ d, omega (arith, h.1))
  same_fine n k (outcome.Refused (outcome.NotPrimary v l)) c d h = tt
  same_fine n k (outcome.Refused (outcome.TooManyPending v)) c d h = tt
  same_fine n k (outcome.Refused (outcome.NotReserved v)) c d h = tt
  same_fine n k (outcome.Refused (outcome.KeyExhausted v)) c d h = tt
  same_fine n k (outcome.Refused (outcome.NothingToSign v)) c d h = tt
  same_fine n k (outcome.Refused (outcome.RemovalNotCommitted v p)) c d h = tt
  same_fine n k (outcome.Refused (outcome.RolledBack v p)) c d h = tt
  same_fine n k (outcome.Refused outcome.NotPeer) c d h = tt
  same_fine n k (outcome.Refused (outcome.BelowBase v)) c d h = tt
  same_fine n k (outcome.Refused outcome.ViewLimit) c d h = tt
  same_fine n k (outcome.Refused (outcome.NoLaterSignature v)) c d h = tt
  same_fine n k outcome.Done c d h = tt
  same_fine n k outcome.Idle c d h = tt
  same_fine n k outcome.BecameCandidate c d h = tt
  same_fine n k outcome.BecameLeader c d h = tt
  same_fine n k (outcome.Accepted v p a) c d h = tt
  same_fine n k (outcome.Signed v p) c d h = tt
  same_fine n k (outcome.Committed v p) c d h = tt

  rise_keeps : (v : ℕ) (n : Node E) → ((enter_view b v n).view ≡ v) × ((enter_view b v n).commit ≡ n.commit) × ((enter_view b v n).base ≡ n.base)
  unfolding enter_view
  rise_keeps v n = (refl, refl, refl)

  message_fine : (m : Message E) (g : Story E) (n : Node E) → Tale o g → Good o g m.receiver n → BodySent o g m.sender m.receiver m.view m.body → Fine n (on_message b m n)
  unfolding on_message
  message_fine m g n t z said =
      let step = answer_as b m.body m.receiver m.sender m.view (update_view b m.view n) in
      kept_fine n n (answer_as b m.body m.receiver m.sender m.view (update_view b m.view n)).outcome (answer_as b m.body m.receiver m.sender m.view (update_view b m.view n)) inner inner
    where
      inner : Fine n (answer_as b m.body m.receiver m.sender m.view (update_view b m.view n))
      inner = by_test (λ k. Fine n (answer_as b m.body m.receiver m.sender m.view k)) (nat_lt n.view m.view) (enter_view b m.view n) n
          (λ d.
          let r = rise_keeps m.view n in
          same_fine n (enter_view b m.view n) (answer_as b m.body m.receiver m.sender m.view (enter_view b m.view n)).outcome r.1 r.2
          (answer_fine m g (enter_view b m.view n) t (good_rise o la g m.receiver n m.view (grind (arith, nat_tests)) z) (omega (arith, r.0)) said))
          (λ d. answer_fine m g n t z (grind (arith, nat_tests)) said)

  deliver_fine : (w : World E) (g : Story E) (which : ℕ) (m : Message E) → Holding o la w g → slice_get w.sent which ≡ Some m → RefusedOnlyAtBase b (w.nodes m.receiver) (happens b w (Deliver which)).outcome
  unfolding happens
  deliver_fine w g which m k a = rw a (message_fine m g (w.nodes m.receiver) k.tale (k.nodes m.receiver) (sent_at o g w.sent which m k.sent a))

  pub never_conflicts : (es : List (Event Q G R)) → NeverConflicts b s es
  never_conflicts es = record {
    messages = λ i which m a. let p = onward_run o la (take i es) (begin s) (first_story o la) (holding_first o la) in deliver_fine (after b s (take i es)) p.0 which m p.1 a;
  }
