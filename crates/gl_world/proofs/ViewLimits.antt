-- No view of a run is above the last one, neither of a node nor of a message.
use Rattle.std.proofs.Common.{◌≡◌, ℕ, zero, suc, ◌+◌, ◌-◌, ◌≤◌, List, [], ◌∷◌, ◌++◌, length, take, drop, map, min, Bool, true, false, ◌&&◌, ◌||◌, not, ◌==◌, nat_lt, nat_le, if◌then◌else◌, Option, Some, None, Result, Ok, Err, slice_get, refl, subst, arith}
use Rattle.std.proofs.lemmas.Bool.Decides.{nat_tests}
use Rattle.gl_rules.specs.Identity.{NodeId, same, member}
use Rattle.gl_rules.specs.Book.{Book}
use Rattle.gl_rules.specs.Node.{Node, Role, Follower, Candidate, Leader}
use Rattle.gl_rules.specs.Message.{Position, Message, Body, RequestVote, VoteReply, Append, AppendReply, ProposeVote}
use Rattle.gl_rules.specs.Outcome.{Outcome, Step}
use Rattle.gl_rules.specs.Outcome as outcome
use Rattle.gl_rules.specs.Log.{view_of_entry, entry_at, last_signature_position, is_up_to_date, is_signature_in, view_at}
use Rattle.gl_rules.specs.Configuration.{configurations_above, active, in_some, others}
use Rattle.gl_rules.specs.Steps.{cut_to, enter_view, update_view, has_votes, lead_if, lead_if_elected, as_leader, if_leader}
use Rattle.gl_rules.specs.Elections.{may_vote_for, may_campaign, become_candidate, campaign, campaign_if_allowed, last_view, timeout_as, timeout, reply_to_vote_request, on_request_vote, add_vote, count_votes, vote_reply_as, on_vote_reply, on_propose_vote, hand_over, step_down}
use Rattle.gl_rules.specs.Replication.{accept_entries, append_reply, highest_possible_match, update_match, matching_prefix_len, checked_append, accept_or_refuse, merge_entries, merge_if_matching, become_follower, append_as, on_append, update_progress, append_reply_as, on_append_reply, greatest_to_commit, commit_to, advance, restart, snapshot_of, install_snapshot, install, is_peer, send_append, next_of, append_message, replicate}
use Rattle.gl_rules.specs.Requests.{pending_limit, last_count, append_result, execute_request, submit, unless_conflict, finish_as_leader, finish, if_removal_committed, unless_mark_refused, if_markable, govern_as_leader, govern, reserve, append_signature, sign_as_leader, sign, append_evidence, evidence}
use Rattle.std.specs.List.{AllByRecursion}
use Rattle.gl_rules.specs.World.{Start, Event, Timeout, Deliver, Submit, Finish, Govern, Reserve, Sign, Evidence, Replicate, Advance, StepDown, Restart, Install, World, at, answer_as, undo_if_refused, on_message, deliver, happens, run, begin, leader_at_start, starter, joiner}
use Rattle.gl_rules.specs.Safety.{IsOpening, IsLawful, EachFollows, ViewsUpTo, node_after}
use Rattle.gl_safety.proofs.Story.{Story}
use Rattle.gl_safety.proofs.Runs.{Holding, first_story, onward_run}
use Rattle.gl_safety.proofs.Beginning.{holding_first}
use Rattle.gl_rules.proofs.Ids.{by_test, put_all}

module _ {E Q G R A F : Type 0} (b : Book E Q G R A F) where
  abbrev Low : Node E → Type 0
  Low n = n.view ≤ last_view

  abbrev LowSent : List (Message E) → Type 0
  LowSent ms = AllByRecursion (λ (m : Message E). m.view ≤ last_view) ms

  abbrev After : Step E A F → Type 0
  After step = Low step.node × LowSent step.sent

  led : (n : Node E) (step : Step E A F) → Low n → After step → After (if_leader n step)
  led n step h f = go n.role
    where
      go : (r : Role) → After (as_leader r n step)
      go Leader = f
      go Candidate = (h, tt)
      go Follower = (h, tt)

  won : (n : Node E) → Low n → Low (lead_if_elected b n)
  unfolding lead_if_elected
  won n p = go (has_votes b n)
    where
      go : (m : Bool) → Low (lead_if b m n)
      go true = p
      go false = p

  asked : (x : NodeId) (n : Node E) (ys : List NodeId) → Low n → LowSent (map (λ y. record { sender = x; receiver = y; view = n.view; body = RequestVote ((last_signature_position b n.log)) }) ys)
  asked x n [] h = tt
  asked x n (y ∷ ys) h = (h, asked x n ys h)

  stands_low : (x : NodeId) (n : Node E) → Low n → After (campaign b x n)
  stands_low x n h = (won n h, asked x n (others b x n) h)

  risen_is : (view : ℕ) (n : Node E) → (enter_view b view n).view ≡ view
  unfolding enter_view
  risen_is view n = refl

  timeout_low : (x : NodeId) (n : Node E) → Low n → After (timeout b x n)
  unfolding timeout
  timeout_low x n h = go n.role
    where
      allowed : After (campaign_if_allowed b x n)
      allowed = by_test After (may_campaign b x n) (if n.view == last_view then outcome.refuse n outcome.ViewLimit else campaign b x (become_candidate b x n)) (outcome.idle n)
          (λ d. by_test After (n.view == last_view) (outcome.refuse n outcome.ViewLimit) (campaign b x (become_candidate b x n)) (λ e. (h, tt))
          (λ e. stands_low x (become_candidate b x n) (let r = risen_is (n.view + 1) n in let u : n.view + 1 ≤ last_view = grind (arith, nat_tests) in omega arith)))
          (λ d. (h, tt))

      go : (r : Role) → After (timeout_as b r x n)
      go Leader = (h, tt)
      go Candidate = allowed
      go Follower = allowed

  request_low : (x c : NodeId) (view : ℕ) (theirs : Position) (n : Node E) → Low n → After (on_request_vote b x c view theirs n)
  unfolding on_request_vote
  request_low x c view theirs n h = by_test After (nat_lt view n.view) (reply_to_vote_request b x c false n) (reply_to_vote_request b x c (may_vote_for n.vote c && is_up_to_date theirs ((last_signature_position b n.log))) n) (λ d. go false) (λ d. go (may_vote_for n.vote c && is_up_to_date theirs ((last_signature_position b n.log))))
    where
      go : (m : Bool) → After (reply_to_vote_request b x c m n)
      go true = (h, (h, tt))
      go false = (h, (h, tt))

  reply_low : (y : NodeId) (view : ℕ) (granted : Bool) (n : Node E) → Low n → After (on_vote_reply b y view granted n)
  unfolding on_vote_reply
  reply_low y view granted n h = go n.role
    where
      go : (r : Role) → After (vote_reply_as b r y view granted n)
      go Leader = (h, tt)
      go Follower = (h, tt)
      go Candidate = by_test After (granted && (view == n.view)) (count_votes b (add_vote b y n)) (outcome.idle n) (λ d. (won (add_vote b y n) h, tt)) (λ d. (h, tt))

  extended_low : (before : Node E) (x y : NodeId) (seqno theirs : ℕ) (n : Node E) (m : Result (List E) F) → Low before → Low n → After (accept_or_refuse b before x y seqno theirs n m)
  extended_low before x y seqno theirs n (Err why) a c = (a, tt)
  extended_low before x y seqno theirs n (Ok log) a c = (c, (c, tt))

  follows_low : (x y : NodeId) (prev : Position) (es : List E) (theirs : ℕ) (n : Node E) → Low n → After (merge_if_matching b x y prev es theirs n)
  follows_low x y prev es theirs n a = go ((prev.seqno == 0) || (nat_le prev.seqno (length n.log) && (view_at b n.log prev.seqno == prev.view)))
    where
      inner : (p q : Bool) → After (if p then accept_entries b x y (prev.seqno + length es) theirs n else (if q then outcome.refuse n (outcome.BelowCommit n.commit (prev.seqno + matching_prefix_len b (drop prev.seqno n.log) es)) else accept_or_refuse b n x y (prev.seqno + length es) theirs (cut_to (prev.seqno + matching_prefix_len b (drop prev.seqno n.log) es) n) (checked_append b n.base (take (prev.seqno + matching_prefix_len b (drop prev.seqno n.log) es) n.log) (drop (matching_prefix_len b (drop prev.seqno n.log) es) es))))
      inner true q = (a, (a, tt))
      inner false true = (a, tt)
      inner false false = extended_low n x y (prev.seqno + length es) theirs (cut_to (prev.seqno + matching_prefix_len b (drop prev.seqno n.log) es) n) (checked_append b n.base (take (prev.seqno + matching_prefix_len b (drop prev.seqno n.log) es) n.log) (drop (matching_prefix_len b (drop prev.seqno n.log) es) es)) a a

      go : (m : Bool) → After (if m then merge_entries b x y prev.seqno es (matching_prefix_len b (drop prev.seqno n.log) es) theirs n else record { node = n; sent = append_reply b x y false (highest_possible_match b n.log prev.view (min (prev.seqno - 1) (length n.log))) n; outcome = outcome.Done })
      go true = inner (matching_prefix_len b (drop prev.seqno n.log) es == length es) (nat_lt (prev.seqno + matching_prefix_len b (drop prev.seqno n.log) es) (length n.log) && nat_lt (prev.seqno + matching_prefix_len b (drop prev.seqno n.log) es) n.commit)
      go false = (a, (a, tt))

  append_low : (x y : NodeId) (view : ℕ) (prev : Position) (es : List E) (theirs : ℕ) (n : Node E) → Low n → After (on_append b x y view prev es theirs n)
  unfolding on_append
  append_low x y view prev es theirs n h = by_test After (nat_lt view n.view) (record { node = n; sent = append_reply b x y false 0 n; outcome = outcome.Done }) (append_as b n.role x y prev es theirs n) (λ d. (h, (h, tt))) (λ d. go n.role)
    where
      go : (r : Role) → After (append_as b r x y prev es theirs n)
      go Leader = (h, tt)
      go Candidate = follows_low x y prev es theirs (become_follower b y n) h
      go Follower = follows_low x y prev es theirs (become_follower b y n) h

  append_reply_low : (y : NodeId) (view : ℕ) (ok : Bool) (seqno : ℕ) (n : Node E) → Low n → After (on_append_reply b y view ok seqno n)
  unfolding on_append_reply
  append_reply_low y view ok seqno n h = go n.role
    where
      inner : (m : Bool) → After (update_progress b m y seqno n)
      inner true = by_test After (nat_le seqno (length n.log)) (outcome.quiet (update_match b y seqno n) outcome.Done) (outcome.idle n) (λ d. (h, tt)) (λ d. (h, tt))
      inner false = (h, tt)

      go : (r : Role) → After (append_reply_as b r y view ok seqno n)
      go Leader = by_test After (view == n.view) (update_progress b ok y seqno n) (outcome.idle n) (λ d. inner ok) (λ d. (h, tt))
      go Candidate = (h, tt)
      go Follower = (h, tt)

  propose_low : (x : NodeId) (view : ℕ) (n : Node E) → Low n → After (on_propose_vote b x view n)
  unfolding on_propose_vote
  propose_low x view n h = by_test After (nat_lt view n.view) (outcome.idle n) (timeout b x n) (λ d. (h, tt)) (λ d. timeout_low x n h)

  answer_low : (p : Body E) (x y : NodeId) (view : ℕ) (n : Node E) → Low n → After (answer_as b p x y view n)
  answer_low (RequestVote theirs) x y view n h = request_low x y view theirs n h
  answer_low (VoteReply granted) x y view n h = reply_low y view granted n h
  answer_low (Append prev es c) x y view n h = append_low x y view prev es c n h
  answer_low (AppendReply ok seqno) x y view n h = append_reply_low y view ok seqno n h
  answer_low ProposeVote x y view n h = propose_low x view n h

  kept_low : (n : Node E) (w : Outcome A F) (step : Step E A F) → Low n → After step → After (undo_if_refused w n step)
  kept_low n (outcome.Refused why) step h f = (h, tt)
  kept_low n outcome.Done step h f = f
  kept_low n outcome.Idle step h f = f
  kept_low n outcome.BecameCandidate step h f = f
  kept_low n outcome.BecameLeader step h f = f
  kept_low n (outcome.Accepted v p a) step h f = f
  kept_low n (outcome.Signed v p) step h f = f
  kept_low n (outcome.Committed v p) step h f = f

  message_low : (m : Message E) (n : Node E) → m.view ≤ last_view → Low n → After (on_message b m n)
  unfolding on_message
  message_low m n low h = kept_low n (answer_as b m.body m.receiver m.sender m.view (update_view b m.view n)).outcome (answer_as b m.body m.receiver m.sender m.view (update_view b m.view n)) h
      (by_test (λ k. After (answer_as b m.body m.receiver m.sender m.view k)) (nat_lt n.view m.view) (enter_view b m.view n) n
      (λ d. answer_low m.body m.receiver m.sender m.view (enter_view b m.view n) (let r = risen_is m.view n in omega arith))
      (λ d. answer_low m.body m.receiver m.sender m.view n h))

  step_down_low : (x y : NodeId) (n : Node E) → Low n → After (step_down b x y n)
  unfolding step_down
  step_down_low x y n h = led n (if not (same y x) && in_some y (active b n.log n.commit) then hand_over b x y n else outcome.refuse n outcome.NotPeer) h (go (not (same y x) && in_some y (active b n.log n.commit)))
    where
      go : (m : Bool) → After (if m then hand_over b x y n else outcome.refuse n outcome.NotPeer)
      go true = (h, (h, tt))
      go false = (h, tt)

  enters_low : (n : Node E) (m : Result (E × A) F) → Low n → After (append_result b n m)
  enters_low n (Err why) h = (h, tt)
  enters_low n (Ok made) h = (h, tt)

  submit_low : (q : Q) (n : Node E) → Low n → After (submit b q n)
  unfolding submit
  submit_low q n h = led n (execute_request b q n) h (enters_low n (b.execute n.log n.view q) h)

  finish_low : (len cuts : ℕ) (reads : R) (q : Q) (n : Node E) → Low n → After (finish b len cuts reads q n)
  unfolding finish
  finish_low len cuts reads q n h = led n (finish_as_leader b len cuts reads q n) h (go (not (n.cuts == cuts) || (n.cuts == last_count)) (b.conflict n.base n.log len reads))
    where
      go : (m : Bool) (c : Option F) → After (if m then outcome.refuse n (outcome.RolledBack cuts n.cuts) else unless_conflict b c n (execute_request b q n))
      go true c = (h, tt)
      go false None = enters_low n (b.execute n.log n.view q) h
      go false (Some why) = (h, tt)

  govern_low : (q : G) (n : Node E) → Low n → After (govern b q n)
  unfolding govern
  govern_low q n h = led n (govern_as_leader b q n) h (go (nat_le pending_limit (length (configurations_above b n.log n.commit (length n.log)))) (b.marked_node q))
    where
      late : (m : Option ℕ) → After (if_removal_committed b m n (append_result b n (b.govern n.log n.view q)))
      late None = enters_low n (b.govern n.log n.view q) h
      late (Some seqno) = by_test After (nat_lt n.commit seqno) (outcome.refuse n (outcome.RemovalNotCommitted seqno n.commit)) (append_result b n (b.govern n.log n.view q)) (λ d. (h, tt)) (λ d. enters_low n (b.govern n.log n.view q) h)

      inner : (y : NodeId) (m : Option F) → After (unless_mark_refused b m y n (append_result b n (b.govern n.log n.view q)))
      inner y (Some why) = (h, tt)
      inner y None = late (b.removal n.log y)

      go : (m : Bool) (c : Option NodeId) → After (if m then outcome.refuse n (outcome.TooManyPending pending_limit) else if_markable b c n (append_result b n (b.govern n.log n.view q)))
      go true c = (h, tt)
      go false None = enters_low n (b.govern n.log n.view q) h
      go false (Some y) = inner y (b.mark_refusal n.log y)

  reserve_low : (x : NodeId) (n : Node E) → Low n → After (reserve b x n)
  unfolding reserve
  reserve_low x n h = by_test After (nat_le (b.leaves x) n.reserved) (outcome.refuse n (outcome.KeyExhausted n.reserved)) (outcome.quiet (record n { reserved = n.reserved + 1 }) outcome.Done) (λ d. (h, tt)) (λ d. (h, tt))

  sign_low : (x : NodeId) (n : Node E) → Low n → After (sign b x n)
  unfolding sign
  sign_low x n h = led n (sign_as_leader b x n) h (go (n.used == n.reserved) (is_signature_in b n.view (entry_at n.log (length n.log))) (b.sign x n.used n.log n.view n.commit))
    where
      go : (s t : Bool) (m : Result E F) → After (if s then outcome.refuse n (outcome.NotReserved n.reserved) else (if t then outcome.refuse n (outcome.NothingToSign (length n.log)) else append_signature b n m))
      go true t m = (h, tt)
      go false true m = (h, tt)
      go false false (Err why) = (h, tt)
      go false false (Ok e) = (h, tt)

  evidence_low : (n : Node E) → Low n → After (evidence b n)
  unfolding evidence
  evidence_low n h = led n (append_evidence b n (b.evidence n.log n.view)) h (go (b.evidence n.log n.view))
    where
      go : (m : Result E F) → After (append_evidence b n m)
      go (Err why) = (h, tt)
      go (Ok e) = (h, tt)

  replicate_low : (x y : NodeId) (n : Node E) → Low n → After (replicate b x y n)
  unfolding replicate
  replicate_low x y n h = led n (if is_peer b x y n then send_append b x y (next_of b n y - 1) n else outcome.refuse n outcome.NotPeer) h
      (by_test After (is_peer b x y n) (send_append b x y (next_of b n y - 1) n) (outcome.refuse n outcome.NotPeer)
      (λ d. by_test After (nat_lt (next_of b n y - 1) n.base) (outcome.refuse n (outcome.BelowBase n.base)) (record { node = n; sent = append_message b x y (next_of b n y - 1) n ∷ []; outcome = outcome.Done }) (λ e. (h, tt)) (λ e. (h, (h, tt))))
      (λ d. (h, tt)))

  advance_low : (x : NodeId) (n : Node E) → Low n → After (advance b x n)
  unfolding advance
  advance_low x n h = led n (commit_to b n (greatest_to_commit b x n (length n.log))) h (go (greatest_to_commit b x n (length n.log)))
    where
      go : (m : Option ℕ) → After (commit_to b n m)
      go None = (h, tt)
      go (Some seqno) = (h, tt)

  restart_low : (n : Node E) → Low n → After (restart b n)
  unfolding restart
  restart_low n h = (h, tt)

  -- the source's entries have views that are not above its own
  install_low : (m n : Node E) → Low m → ViewsUpTo b m.view m.log → Low n → After (install b m n)
  unfolding install
  install_low m n low views h = by_test After (length n.log == 0) (install_snapshot b m (snapshot_of b m) n) (outcome.idle n) (λ d. go (snapshot_of b m)) (λ d. (h, tt))
    where
      at_most : (seqno : ℕ) → view_at b m.log seqno ≤ last_view
      at_most zero = omega arith
      at_most (suc i) = found (slice_get m.log i) refl
        where
          found : (o : Option E) → slice_get m.log i ≡ o → view_of_entry b o ≤ last_view
          found None is = omega arith
          found (Some e) is = let u = views i e is in omega arith

      go : (k : Option ℕ) → After (install_snapshot b m k n)
      go None = (h, tt)
      go (Some i) = (by_test (λ (l : Node E). l.view ≤ last_view) (nat_lt n.view (view_at b m.log (i - 1))) (enter_view b (view_at b m.log (i - 1)) n) n (λ e. let r = risen_is (view_at b m.log (i - 1)) n in let u = at_most (i - 1) in omega arith) (λ e. h), tt)

  -- ---- the world

  pub record LowWorld (w : World E) : Type 0 where
    pub nodes : (y : NodeId) → (w.nodes y).view ≤ last_view
    pub sent : AllByRecursion (λ (m : Message E). m.view ≤ last_view) w.sent

  both_sent : (ms ns : List (Message E)) → LowSent ms → LowSent ns → LowSent (ms ++ ns)
  both_sent [] ns a c = c
  both_sent (m ∷ ms) ns a c = (a.0, both_sent ms ns a.1 c)

  one_sent : (ms : List (Message E)) (k : ℕ) (m : Message E) → LowSent ms → slice_get ms k ≡ Some m → m.view ≤ last_view
  one_sent [] k m a h = absurd (cc)
  one_sent (l ∷ ms) zero m a h = let same : l ≡ m = cc in subst (λ (t : Message E). t.view ≤ last_view) same a.0
  one_sent (l ∷ ms) (suc k) m a h = one_sent ms k m a.1 h

  here : (w : World E) (y : NodeId) (step : Step E A F) → LowWorld w → After step → LowWorld (at w y step).world
  here w y step l f = record {
    nodes = put_all (λ u n. n.view ≤ last_view) w.nodes y step.node f.0 (λ u d. l.nodes u);
    sent = both_sent w.sent step.sent l.sent f.1;
  }

  pub event_low : (w : World E) (e : Event Q G R) → ((y : NodeId) → ViewsUpTo b (w.nodes y).view (w.nodes y).log) → LowWorld w → LowWorld (happens b w e).world
  unfolding happens
  event_low w (Timeout y) views l = here w y (timeout b y (w.nodes y)) l (timeout_low y (w.nodes y) (l.nodes y))
  event_low w (Deliver which) views l = go (slice_get w.sent which) refl
    where
      go : (m : Option (Message E)) → slice_get w.sent which ≡ m → LowWorld (deliver b w m).world
      go None is = l
      go (Some m) is = here w m.receiver (on_message b m (w.nodes m.receiver)) l (message_low m (w.nodes m.receiver) (one_sent w.sent which m l.sent is) (l.nodes m.receiver))
  event_low w (Submit y q) views l = here w y (submit b q (w.nodes y)) l (submit_low q (w.nodes y) (l.nodes y))
  event_low w (Finish y len cuts reads q) views l = here w y (finish b len cuts reads q (w.nodes y)) l (finish_low len cuts reads q (w.nodes y) (l.nodes y))
  event_low w (Govern y q) views l = here w y (govern b q (w.nodes y)) l (govern_low q (w.nodes y) (l.nodes y))
  event_low w (Reserve y) views l = here w y (reserve b y (w.nodes y)) l (reserve_low y (w.nodes y) (l.nodes y))
  event_low w (Sign y) views l = here w y (sign b y (w.nodes y)) l (sign_low y (w.nodes y) (l.nodes y))
  event_low w (Evidence y) views l = here w y (evidence b (w.nodes y)) l (evidence_low (w.nodes y) (l.nodes y))
  event_low w (Replicate y z) views l = here w y (replicate b y z (w.nodes y)) l (replicate_low y z (w.nodes y) (l.nodes y))
  event_low w (Advance y) views l = here w y (advance b y (w.nodes y)) l (advance_low y (w.nodes y) (l.nodes y))
  event_low w (StepDown y z) views l = here w y (step_down b y z (w.nodes y)) l (step_down_low y z (w.nodes y) (l.nodes y))
  event_low w (Restart y) views l = here w y (restart b (w.nodes y)) l (restart_low (w.nodes y) (l.nodes y))
  event_low w (Install y z) views l = here w y (install b (w.nodes z) (w.nodes y)) l (install_low (w.nodes z) (w.nodes y) (l.nodes z) (views z) (l.nodes y))

module _ {E Q G R A F : Type 0} {b : Book E Q G R A F} {s : Start E} (o : IsOpening b (EachFollows b) s) (la : IsLawful b (EachFollows b)) where
  run_low : (es : List (Event Q G R)) (w : World E) (g : Story E) → Holding o la w g → LowWorld b w → LowWorld b (run b es w)
  unfolding run
  run_low [] w g k l = l
  run_low (e ∷ es) w g k l =
      let p = onward_run o la (e ∷ []) w g k in
      run_low es (happens b w e).world p.0 p.1 (event_low b w e (λ y i f at. ((k.nodes y).logged.bound.view i f at).1) l)

  start_low : LowWorld b (begin s)
  start_low = record {
    nodes = λ y. by_test (λ (n : Node E). n.view ≤ last_view) (same y s.first) (leader_at_start s) (if member y s.starting then starter s else joiner) (λ d. omega arith)
        (λ d. by_test (λ (n : Node E). n.view ≤ last_view) (member y s.starting) (starter s) joiner (λ e. omega arith) (λ e. omega arith));
    sent = tt;
  }

  -- no view of a run is above the last one
  pub views_low : (es : List (Event Q G R)) (x : NodeId) → (node_after b s es x).view ≤ last_view
  views_low es x = (run_low es (begin s) (first_story o la) (holding_first o la) start_low).nodes x
