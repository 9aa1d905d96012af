-- A property of one node that each rule of the table keeps is kept by each event. Of an Append it
-- is asked where the node takes it.
use Rattle.std.proofs.Common.{◌≡◌, ◌⊎◌, inl, inr, ℕ, ◌+◌, ◌-◌, ◌≤◌, List, [], ◌∷◌, length, Bool, true, false, ◌&&◌, ◌||◌, not, ◌==◌, nat_lt, nat_le, if◌then◌else◌, Option, Some, None, Result, Ok, Err, slice_get, refl, arith}
use Rattle.std.proofs.lemmas.Bool.Decides.{nat_tests}
use Rattle.gl_rules.specs.Identity.{NodeId, same}
use Rattle.gl_rules.specs.Book.{Book}
use Rattle.gl_rules.specs.Node.{Node, Role, Follower, Candidate, Leader}
use Rattle.gl_rules.specs.Message.{Position, Message, Body, RequestVote, VoteReply, Append, AppendReply, ProposeVote}
use Rattle.gl_rules.specs.Outcome.{Outcome, Step}
use Rattle.gl_rules.specs.Outcome as outcome
use Rattle.gl_rules.specs.Log.{entry_at, last_signature_position, is_up_to_date, is_signature_in}
use Rattle.gl_rules.specs.Configuration.{configurations_above, active, in_some}
use Rattle.gl_rules.specs.Steps.{append_entry, enter_view, has_votes, lead_if, lead_if_elected, as_leader, if_leader, update_view}
use Rattle.gl_rules.specs.Elections.{may_vote_for, may_campaign, become_candidate, campaign, campaign_if_allowed, last_view, timeout_as, timeout, reply_to_vote_request, on_request_vote, add_vote, count_votes, vote_reply_as, on_vote_reply, on_propose_vote, hand_over, step_down}
use Rattle.gl_rules.specs.Replication.{on_append, update_match, update_progress, append_reply_as, on_append_reply, greatest_to_commit, commit_to, advance, restart, snapshot_of, with_snapshot, install_snapshot, install, is_peer, next_of, append_message, send_append, replicate}
use Rattle.gl_rules.specs.Requests.{pending_limit, last_count, append_result, execute_request, submit, unless_conflict, finish_as_leader, finish, if_removal_committed, unless_mark_refused, if_markable, govern_as_leader, govern, reserve, append_signature, sign_as_leader, sign, append_evidence, evidence}
use Rattle.gl_rules.specs.World.{Event, Timeout, Deliver, Submit, Finish, Govern, Reserve, Sign, Evidence, Replicate, Advance, StepDown, Restart, Install, World, at, answer_as, undo_if_refused, on_message, deliver, happens}
use Rattle.gl_rules.proofs.Ids.{by_test, put_all}

-- a node whose log, view and base are those of another, and which leads at most where that one led
-- or was a candidate
pub record Alike {E : Type 0} (n m : Node E) : Type 0 where
  pub log : m.log ≡ n.log
  pub view : m.view ≡ n.view
  pub base : m.base ≡ n.base
  pub role : (m.role ≡ Follower) ⊎ ((m.role ≡ n.role) ⊎ (n.role ≡ Candidate))

module _ {E Q G R A F : Type 0} (b : Book E Q G R A F) (x : NodeId) (P : Node E → Type 0)
    (alike : (n m : Node E) → Alike n m → P n → P m)
    (grown : (n : Node E) (e : E) → n.role ≡ Leader → P n → P (append_entry n e))
    (entered : (view : ℕ) (n : Node E) → n.view ≤ view → P n → P (enter_view b view n))
    (stood : (n : Node E) → may_campaign b x n ≡ true → P n → P (become_candidate b x n))
    (given : (m n : Node E) (seqno : ℕ) → n.log ≡ [] → P n → P (with_snapshot b m seqno n)) where
  abbrev After : Step E A F → Type 0
  After step = P step.node

  -- what an Append is asked for
  abbrev pub Takes : Body E → NodeId → ℕ → Node E → Type 0
  Takes (RequestVote theirs) y view n = Unit {0}
  Takes (VoteReply granted) y view n = Unit {0}
  Takes (Append prev es c) y view n = P n → P (on_append b x y view prev es c n).node
  Takes (AppendReply ok seqno) y view n = Unit {0}
  Takes ProposeVote y view n = Unit {0}

  led : (n : Node E) (step : Step E A F) → P n → (n.role ≡ Leader → After step) → After (if_leader n step)
  led n step h f = go n.role refl
    where
      go : (r : Role) → n.role ≡ r → After (as_leader r n step)
      go Leader is = f is
      go Candidate is = h
      go Follower is = h

  won : (n : Node E) → n.role ≡ Candidate → P n → P (lead_if_elected b n)
  unfolding lead_if_elected
  won n is h = go (has_votes b n)
    where
      go : (m : Bool) → P (lead_if b m n)
      go true = alike n (lead_if b true n) (record { log = refl; view = refl; base = refl; role = inr (inr is) }) h
      go false = h

  timeout_keeps : (n : Node E) → P n → After (timeout b x n)
  unfolding timeout
  timeout_keeps n h = go n.role
    where
      allowed : After (campaign_if_allowed b x n)
      allowed = by_test After (may_campaign b x n) (if n.view == last_view then outcome.refuse n outcome.ViewLimit else campaign b x (become_candidate b x n)) (outcome.idle n)
          (λ d. by_test After (n.view == last_view) (outcome.refuse n outcome.ViewLimit) (campaign b x (become_candidate b x n)) (λ e. h) (λ e. won (become_candidate b x n) refl (stood n d h)))
          (λ d. h)

      go : (r : Role) → After (timeout_as b r x n)
      go Leader = h
      go Candidate = allowed
      go Follower = allowed

  request_keeps : (c : NodeId) (view : ℕ) (theirs : Position) (n : Node E) → P n → After (on_request_vote b x c view theirs n)
  unfolding on_request_vote
  request_keeps c view theirs n h =
      by_test After (nat_lt view n.view) (reply_to_vote_request b x c false n) (reply_to_vote_request b x c (may_vote_for n.vote c && is_up_to_date theirs (last_signature_position b n.log)) n)
      (λ d. h) (λ d. go (may_vote_for n.vote c && is_up_to_date theirs (last_signature_position b n.log)))
    where
      go : (m : Bool) → After (reply_to_vote_request b x c m n)
      go true = alike n (reply_to_vote_request b x c true n).node (record { log = refl; view = refl; base = refl; role = inr (inl refl) }) h
      go false = h

  reply_keeps : (y : NodeId) (view : ℕ) (granted : Bool) (n : Node E) → P n → After (on_vote_reply b y view granted n)
  unfolding on_vote_reply
  reply_keeps y view granted n h = go n.role refl
    where
      go : (r : Role) → n.role ≡ r → After (vote_reply_as b r y view granted n)
      go Leader is = h
      go Follower is = h
      go Candidate is = by_test After (granted && (view == n.view)) (count_votes b (add_vote b y n)) (outcome.idle n)
          (λ d. won (add_vote b y n) is (alike n (add_vote b y n) (record { log = refl; view = refl; base = refl; role = inr (inl refl) }) h))
          (λ d. h)

  append_reply_keeps : (y : NodeId) (view : ℕ) (ok : Bool) (seqno : ℕ) (n : Node E) → P n → After (on_append_reply b y view ok seqno n)
  unfolding on_append_reply
  append_reply_keeps y view ok seqno n h = go n.role
    where
      inner : (m : Bool) → After (update_progress b m y seqno n)
      inner true = by_test After (nat_le seqno (length n.log)) (outcome.quiet (update_match b y seqno n) outcome.Done) (outcome.idle n)
          (λ d. alike n (update_match b y seqno n) (record { log = refl; view = refl; base = refl; role = inr (inl refl) }) h) (λ d. h)
      inner false = alike n (update_progress b false y seqno n).node (record { log = refl; view = refl; base = refl; role = inr (inl refl) }) h

      go : (r : Role) → After (append_reply_as b r y view ok seqno n)
      go Leader = by_test After (view == n.view) (update_progress b ok y seqno n) (outcome.idle n) (λ d. inner ok) (λ d. h)
      go Candidate = h
      go Follower = h

  propose_keeps : (view : ℕ) (n : Node E) → P n → After (on_propose_vote b x view n)
  unfolding on_propose_vote
  propose_keeps view n h = by_test After (nat_lt view n.view) (outcome.idle n) (timeout b x n) (λ d. h) (λ d. timeout_keeps n h)

  answer_keeps : (p : Body E) (y : NodeId) (view : ℕ) (n : Node E) → Takes p y view n → P n → After (answer_as b p x y view n)
  answer_keeps (RequestVote theirs) y view n f h = request_keeps y view theirs n h
  answer_keeps (VoteReply granted) y view n f h = reply_keeps y view granted n h
  answer_keeps (Append prev es c) y view n f h = f h
  answer_keeps (AppendReply ok seqno) y view n f h = append_reply_keeps y view ok seqno n h
  answer_keeps ProposeVote y view n f h = propose_keeps view n h

  undo_keeps : (n : Node E) (w : Outcome A F) (step : Step E A F) → P n → After step → After (undo_if_refused w n step)
  undo_keeps n (outcome.Refused why) step h f = h
  undo_keeps n outcome.Done step h f = f
  undo_keeps n outcome.Idle step h f = f
  undo_keeps n outcome.BecameCandidate step h f = f
  undo_keeps n outcome.BecameLeader step h f = f
  undo_keeps n (outcome.Accepted v p a) step h f = f
  undo_keeps n (outcome.Signed v p) step h f = f
  undo_keeps n (outcome.Committed v p) step h f = f

  message_keeps : (m : Message E) (n : Node E) → m.receiver ≡ x → Takes m.body m.sender m.view (update_view b m.view n) → P n → After (on_message b m n)
  unfolding on_message
  message_keeps m n is f h =
      undo_keeps n (answer_as b m.body m.receiver m.sender m.view (update_view b m.view n)).outcome (answer_as b m.body m.receiver m.sender m.view (update_view b m.view n)) h
      (rw is (answer_keeps m.body m.sender m.view (update_view b m.view n) f
      (by_test P (nat_lt n.view m.view) (enter_view b m.view n) n (λ d. entered m.view n (grind (arith, nat_tests)) h) (λ d. h))))

  step_down_keeps : (y : NodeId) (n : Node E) → P n → After (step_down b x y n)
  unfolding step_down
  step_down_keeps y n h = led n (if not (same y x) && in_some y (active b n.log n.commit) then hand_over b x y n else outcome.refuse n outcome.NotPeer) h (λ r. go (not (same y x) && in_some y (active b n.log n.commit)))
    where
      go : (m : Bool) → After (if m then hand_over b x y n else outcome.refuse n outcome.NotPeer)
      go true = alike n (hand_over {A = A} {F = F} b x y n).node (record { log = refl; view = refl; base = refl; role = inl refl }) h
      go false = h

  result_keeps : (n : Node E) (m : Result (E × A) F) → n.role ≡ Leader → P n → After (append_result b n m)
  result_keeps n (Err why) r h = h
  result_keeps n (Ok made) r h = grown n made.0 r h

  submit_keeps : (q : Q) (n : Node E) → P n → After (submit b q n)
  unfolding submit
  submit_keeps q n h = led n (execute_request b q n) h (λ r. result_keeps n (b.execute n.log n.view q) r h)

  finish_keeps : (len cuts : ℕ) (reads : R) (q : Q) (n : Node E) → P n → After (finish b len cuts reads q n)
  unfolding finish
  finish_keeps len cuts reads q n h = led n (finish_as_leader b len cuts reads q n) h (λ r. go r (not (n.cuts == cuts) || (n.cuts == last_count)) (b.conflict n.base n.log len reads))
    where
      go : n.role ≡ Leader → (m : Bool) (c : Option F) → After (if m then outcome.refuse n (outcome.RolledBack cuts n.cuts) else unless_conflict b c n (execute_request b q n))
      go r true c = h
      go r false None = result_keeps n (b.execute n.log n.view q) r h
      go r false (Some why) = h

  govern_keeps : (q : G) (n : Node E) → P n → After (govern b q n)
  unfolding govern
  govern_keeps q n h = led n (govern_as_leader b q n) h (λ r. go r (nat_le pending_limit (length (configurations_above b n.log n.commit (length n.log)))) (b.marked_node q))
    where
      late : n.role ≡ Leader → (m : Option ℕ) → After (if_removal_committed b m n (append_result b n (b.govern n.log n.view q)))
      late r None = result_keeps n (b.govern n.log n.view q) r h
      late r (Some seqno) = by_test After (nat_lt n.commit seqno) (outcome.refuse n (outcome.RemovalNotCommitted seqno n.commit)) (append_result b n (b.govern n.log n.view q)) (λ d. h) (λ d. result_keeps n (b.govern n.log n.view q) r h)

      inner : n.role ≡ Leader → (y : NodeId) (m : Option F) → After (unless_mark_refused b m y n (append_result b n (b.govern n.log n.view q)))
      inner r y (Some why) = h
      inner r y None = late r (b.removal n.log y)

      go : n.role ≡ Leader → (m : Bool) (c : Option NodeId) → After (if m then outcome.refuse n (outcome.TooManyPending pending_limit) else if_markable b c n (append_result b n (b.govern n.log n.view q)))
      go r true c = h
      go r false None = result_keeps n (b.govern n.log n.view q) r h
      go r false (Some y) = inner r y (b.mark_refusal n.log y)

  reserve_keeps : (n : Node E) → P n → After (reserve b x n)
  unfolding reserve
  reserve_keeps n h = by_test After (nat_le (b.leaves x) n.reserved) (outcome.refuse n (outcome.KeyExhausted n.reserved)) (outcome.quiet (record n { reserved = n.reserved + 1 }) outcome.Done)
      (λ d. h) (λ d. alike n (record n { reserved = n.reserved + 1 }) (record { log = refl; view = refl; base = refl; role = inr (inl refl) }) h)

  sign_keeps : (n : Node E) → P n → After (sign b x n)
  unfolding sign
  sign_keeps n h = led n (sign_as_leader b x n) h (λ r. go r (n.used == n.reserved) (is_signature_in b n.view (entry_at n.log (length n.log))) (b.sign x n.used n.log n.view n.commit))
    where
      go : n.role ≡ Leader → (s t : Bool) (m : Result E F) → After (if s then outcome.refuse n (outcome.NotReserved n.reserved) else (if t then outcome.refuse n (outcome.NothingToSign (length n.log)) else append_signature b n m))
      go r true t m = h
      go r false true m = h
      go r false false (Err why) = h
      go r false false (Ok e) = alike (append_entry n e) (record (append_entry n e) { used = n.used + 1 }) (record { log = refl; view = refl; base = refl; role = inr (inl refl) }) (grown n e r h)

  evidence_keeps : (n : Node E) → P n → After (evidence b n)
  unfolding evidence
  evidence_keeps n h = led n (append_evidence b n (b.evidence n.log n.view)) h (λ r. go r (b.evidence n.log n.view))
    where
      go : n.role ≡ Leader → (m : Result E F) → After (append_evidence b n m)
      go r (Err why) = h
      go r (Ok e) = grown n e r h

  replicate_keeps : (y : NodeId) (n : Node E) → P n → After (replicate b x y n)
  unfolding replicate
  replicate_keeps y n h = led n (if is_peer b x y n then send_append b x y (next_of b n y - 1) n else outcome.refuse n outcome.NotPeer) h
      (λ r. by_test After (is_peer b x y n) (send_append b x y (next_of b n y - 1) n) (outcome.refuse n outcome.NotPeer)
      (λ d. by_test After (nat_lt (next_of b n y - 1) n.base) (outcome.refuse n (outcome.BelowBase n.base)) (record { node = n; sent = append_message b x y (next_of b n y - 1) n ∷ []; outcome = outcome.Done }) (λ e. h) (λ e. h))
      (λ d. h))

  advance_keeps : (n : Node E) → P n → After (advance b x n)
  unfolding advance
  advance_keeps n h = led n (commit_to b n (greatest_to_commit b x n (length n.log))) h (λ r. go (greatest_to_commit b x n (length n.log)))
    where
      go : (m : Option ℕ) → After (commit_to b n m)
      go None = h
      go (Some seqno) = alike n (record n { commit = seqno }) (record { log = refl; view = refl; base = refl; role = inr (inl refl) }) h

  restart_keeps : (n : Node E) → P n → After (restart b n)
  unfolding restart
  restart_keeps n h = alike n (restart {A = A} {F = F} b n).node (record { log = refl; view = refl; base = refl; role = inl refl }) h

  install_keeps : (m n : Node E) → P n → After (install b m n)
  unfolding install
  install_keeps m n h = by_test After (length n.log == 0) (install_snapshot b m (snapshot_of b m) n) (outcome.idle n) (λ d. go (empty n.log (grind (arith, nat_tests))) (snapshot_of b m)) (λ d. h)
    where
      empty : (l : List E) → length l ≡ 0 → l ≡ []
      empty [] d = refl
      empty (e ∷ l) d = absurd (omega arith)

      go : n.log ≡ [] → (k : Option ℕ) → After (install_snapshot b m k n)
      go d None = h
      go d (Some i) = given m n (i - 1) d h

  -- ---- the world

  here : (w : World E) (y : NodeId) (step : Step E A F) → P (w.nodes x) → (y ≡ x → P step.node) → P ((at w y step).world.nodes x)
  here w y step h f = put_all (λ u n. u ≡ x → P n) w.nodes y step.node (λ e. f e) (λ u d e. rw e h) x refl

  -- an event, where an Append that is delivered is taken
  pub event_keeps : (w : World E) (e : Event Q G R) →
      ((which : ℕ) (m : Message E) → slice_get w.sent which ≡ Some m → m.receiver ≡ x → Takes m.body m.sender m.view (update_view b m.view (w.nodes m.receiver))) →
      P (w.nodes x) → P ((happens b w e).world.nodes x)
  unfolding happens
  event_keeps w (Timeout y) f h = here w y (timeout b y (w.nodes y)) h (λ d. rw d (timeout_keeps (w.nodes x) h))
  event_keeps w (Deliver which) f h = go (slice_get w.sent which) refl
    where
      go : (m : Option (Message E)) → slice_get w.sent which ≡ m → P ((deliver b w m).world.nodes x)
      go None a = h
      go (Some m) a = here w m.receiver (on_message b m (w.nodes m.receiver)) h (λ d. message_keeps m (w.nodes m.receiver) d (f which m a d) (rw d h))
  event_keeps w (Submit y q) f h = here w y (submit b q (w.nodes y)) h (λ d. rw d (submit_keeps q (w.nodes x) h))
  event_keeps w (Finish y len cuts reads q) f h = here w y (finish b len cuts reads q (w.nodes y)) h (λ d. rw d (finish_keeps len cuts reads q (w.nodes x) h))
  event_keeps w (Govern y q) f h = here w y (govern b q (w.nodes y)) h (λ d. rw d (govern_keeps q (w.nodes x) h))
  event_keeps w (Reserve y) f h = here w y (reserve b y (w.nodes y)) h (λ d. rw d (reserve_keeps (w.nodes x) h))
  event_keeps w (Sign y) f h = here w y (sign b y (w.nodes y)) h (λ d. rw d (sign_keeps (w.nodes x) h))
  event_keeps w (Evidence y) f h = here w y (evidence b (w.nodes y)) h (λ d. rw d (evidence_keeps (w.nodes x) h))
  event_keeps w (Replicate y z) f h = here w y (replicate b y z (w.nodes y)) h (λ d. rw d (replicate_keeps z (w.nodes x) h))
  event_keeps w (Advance y) f h = here w y (advance b y (w.nodes y)) h (λ d. rw d (advance_keeps (w.nodes x) h))
  event_keeps w (StepDown y z) f h = here w y (step_down b y z (w.nodes y)) h (λ d. rw d (step_down_keeps z (w.nodes x) h))
  event_keeps w (Restart y) f h = here w y (restart b (w.nodes y)) h (λ d. rw d (restart_keeps (w.nodes x) h))
  event_keeps w (Install y z) f h = here w y (install b (w.nodes z) (w.nodes y)) h (λ d. rw d (install_keeps (w.nodes z) (w.nodes x) h))
