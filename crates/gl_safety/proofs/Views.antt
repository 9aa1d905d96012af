-- No event lowers the view of the node that it names.
use Rattle.std.proofs.Common.{◌≡◌, ℕ, ◌+◌, ◌-◌, ◌≤◌, ◌<◌, List, [], ◌∷◌, length, take, drop, min, Bool, true, false, ◌&&◌, ◌||◌, not, ◌==◌, nat_lt, nat_le, if◌then◌else◌, Option, Some, None, Result, Ok, Err, refl, arith}
use Rattle.std.proofs.lemmas.Bool.Decides.{nat_tests}
use Rattle.gl_rules.specs.Identity.{NodeId, same}
use Rattle.gl_rules.specs.Book.{Book}
use Rattle.gl_rules.specs.Node.{Node, Role, Follower, Candidate, Leader}
use Rattle.gl_rules.specs.Message.{Position, Message, Body, RequestVote, VoteReply, Append, AppendReply, ProposeVote}
use Rattle.gl_rules.specs.Outcome.{Outcome, Step}
use Rattle.gl_rules.specs.Outcome as outcome
use Rattle.gl_rules.specs.Log.{entry_at, last_signature_position, is_up_to_date, view_at, is_signature_in}
use Rattle.gl_rules.specs.Configuration.{configurations_above, active, in_some}
use Rattle.gl_rules.specs.Steps.{cut_to, enter_view, has_votes, lead_if, lead_if_elected, as_leader, if_leader, update_view}
use Rattle.gl_rules.specs.Elections.{may_vote_for, may_campaign, become_candidate, campaign, campaign_if_allowed, last_view, timeout_as, timeout, reply_to_vote_request, on_request_vote, add_vote, count_votes, vote_reply_as, on_vote_reply, on_propose_vote, hand_over, step_down}
use Rattle.gl_rules.specs.Replication.{accept_entries, append_reply, highest_possible_match, update_match, matching_prefix_len, checked_append, accept_or_refuse, merge_entries, merge_if_matching, become_follower, append_as, on_append, update_progress, append_reply_as, on_append_reply, greatest_to_commit, commit_to, advance, restart, snapshot_of, install_snapshot, install, is_peer, send_append, next_of, append_message, replicate}
use Rattle.gl_rules.specs.Requests.{pending_limit, last_count, append_result, execute_request, submit, unless_conflict, finish_as_leader, finish, if_removal_committed, unless_mark_refused, if_markable, govern_as_leader, govern, reserve, append_signature, sign_as_leader, sign, append_evidence, evidence}
use Rattle.gl_rules.specs.World.{answer_as, undo_if_refused, on_message}
use Rattle.gl_rules.proofs.Ids.{by_test}

module _ {E Q G R A F : Type 0} (b : Book E Q G R A F) where
  abbrev pub Up : ℕ → Step E A F → Type 0
  Up v step = v ≤ step.node.view

  rise_is : (v : ℕ) (n : Node E) → (enter_view b v n).view ≡ v
  unfolding enter_view
  rise_is v n = refl

  win_is : (n : Node E) → (lead_if_elected b n).view ≡ n.view
  unfolding lead_if_elected
  win_is n = go (has_votes b n)
    where
      go : (m : Bool) → (lead_if b m n).view ≡ n.view
      go true = refl
      go false = refl

  led_up : (n : Node E) (step : Step E A F) → Up n.view step → Up n.view (if_leader n step)
  led_up n step h = go n.role
    where
      go : (r : Role) → Up n.view (as_leader r n step)
      go Leader = h
      go Candidate = omega arith
      go Follower = omega arith

  pub timeout_up : (x : NodeId) (n : Node E) → Up n.view (timeout b x n)
  unfolding timeout enter_view
  timeout_up x n = go n.role
    where
      allowed : Up n.view (campaign_if_allowed b x n)
      allowed = inner (may_campaign b x n) (n.view == last_view)
        where
          inner : (m l : Bool) → Up n.view (if m then (if l then outcome.refuse n outcome.ViewLimit else campaign b x (become_candidate b x n)) else outcome.idle n)
          inner true true = omega arith
          inner true false = omega (arith, win_is (become_candidate b x n))
          inner false l = omega arith

      go : (r : Role) → Up n.view (timeout_as b r x n)
      go Leader = omega arith
      go Candidate = allowed
      go Follower = allowed

  request_up : (x c : NodeId) (view : ℕ) (theirs : Position) (n : Node E) → Up n.view (on_request_vote b x c view theirs n)
  unfolding on_request_vote
  request_up x c view theirs n = by_test (Up n.view) (nat_lt view n.view) (reply_to_vote_request b x c false n) (reply_to_vote_request b x c (may_vote_for n.vote c && is_up_to_date theirs (last_signature_position b n.log)) n) (λ d. omega arith) (λ d. go (may_vote_for n.vote c && is_up_to_date theirs (last_signature_position b n.log)))
    where
      go : (m : Bool) → Up n.view (reply_to_vote_request b x c m n)
      go true = omega arith
      go false = omega arith

  reply_up : (y : NodeId) (view : ℕ) (granted : Bool) (n : Node E) → Up n.view (on_vote_reply b y view granted n)
  unfolding on_vote_reply
  reply_up y view granted n = go n.role
    where
      go : (r : Role) → Up n.view (vote_reply_as b r y view granted n)
      go Leader = omega arith
      go Follower = omega arith
      go Candidate = by_test (Up n.view) (granted && (view == n.view)) (count_votes b (add_vote b y n)) (outcome.idle n) (λ d. omega (arith, win_is (add_vote b y n))) (λ d. omega arith)

  extended_up : (before : Node E) (x y : NodeId) (seqno theirs : ℕ) (n : Node E) (m : Result (List E) F) → n.view ≡ before.view → Up before.view (accept_or_refuse b before x y seqno theirs n m)
  extended_up before x y seqno theirs n (Err why) h = omega arith
  extended_up before x y seqno theirs n (Ok log) h = omega arith

  follows_up : (x y : NodeId) (prev : Position) (es : List E) (theirs : ℕ) (n : Node E) → Up n.view (merge_if_matching b x y prev es theirs n)
  follows_up x y prev es theirs n = go ((prev.seqno == 0) || (nat_le prev.seqno (length n.log) && (view_at b n.log prev.seqno == prev.view)))
    where
      held : ℕ
      held = matching_prefix_len b (drop prev.seqno n.log) es

      inner : (p q : Bool) → Up n.view (if p then accept_entries b x y (prev.seqno + length es) theirs n else (if q then outcome.refuse n (outcome.BelowCommit n.commit (prev.seqno + matching_prefix_len b (drop prev.seqno n.log) es)) else accept_or_refuse b n x y (prev.seqno + length es) theirs (cut_to (prev.seqno + matching_prefix_len b (drop prev.seqno n.log) es) n) (checked_append b n.base (take (prev.seqno + matching_prefix_len b (drop prev.seqno n.log) es) n.log) (drop (matching_prefix_len b (drop prev.seqno n.log) es) es))))
      inner true q = omega arith
      inner false true = omega arith
      inner false false = extended_up n x y (prev.seqno + length es) theirs (cut_to (prev.seqno + matching_prefix_len b (drop prev.seqno n.log) es) n) (checked_append b n.base (take (prev.seqno + matching_prefix_len b (drop prev.seqno n.log) es) n.log) (drop (matching_prefix_len b (drop prev.seqno n.log) es) es)) refl

      go : (m : Bool) → Up n.view (if m then merge_entries b x y prev.seqno es (matching_prefix_len b (drop prev.seqno n.log) es) theirs n else record { node = n; sent = append_reply b x y false (highest_possible_match b n.log prev.view (min (prev.seqno - 1) (length n.log))) n; outcome = outcome.Done })
      go true = inner (matching_prefix_len b (drop prev.seqno n.log) es == length es) (nat_lt (prev.seqno + matching_prefix_len b (drop prev.seqno n.log) es) (length n.log) && nat_lt (prev.seqno + matching_prefix_len b (drop prev.seqno n.log) es) n.commit)
      go false = omega arith

  append_up : (x y : NodeId) (view : ℕ) (prev : Position) (es : List E) (theirs : ℕ) (n : Node E) → Up n.view (on_append b x y view prev es theirs n)
  unfolding on_append
  append_up x y view prev es theirs n = by_test (Up n.view) (nat_lt view n.view) (record { node = n; sent = append_reply b x y false 0 n; outcome = outcome.Done }) (append_as b n.role x y prev es theirs n) (λ d. omega arith) (λ d. go n.role)
    where
      go : (r : Role) → Up n.view (append_as b r x y prev es theirs n)
      go Leader = omega arith
      go Candidate = follows_up x y prev es theirs (become_follower b y n)
      go Follower = follows_up x y prev es theirs (become_follower b y n)

  append_reply_up : (y : NodeId) (view : ℕ) (ok : Bool) (seqno : ℕ) (n : Node E) → Up n.view (on_append_reply b y view ok seqno n)
  unfolding on_append_reply
  append_reply_up y view ok seqno n = go n.role
    where
      inner : (m : Bool) → Up n.view (update_progress b m y seqno n)
      inner true = by_test (Up n.view) (nat_le seqno (length n.log)) (outcome.quiet (update_match b y seqno n) outcome.Done) (outcome.idle n) (λ d. omega arith) (λ d. omega arith)
      inner false = omega arith

      go : (r : Role) → Up n.view (append_reply_as b r y view ok seqno n)
      go Leader = by_test (Up n.view) (view == n.view) (update_progress b ok y seqno n) (outcome.idle n) (λ d. inner ok) (λ d. omega arith)
      go Candidate = omega arith
      go Follower = omega arith

  propose_up : (x : NodeId) (view : ℕ) (n : Node E) → Up n.view (on_propose_vote b x view n)
  unfolding on_propose_vote
  propose_up x view n = by_test (Up n.view) (nat_lt view n.view) (outcome.idle n) (timeout b x n) (λ d. omega arith) (λ d. timeout_up x n)

  answer_up : (p : Body E) (x y : NodeId) (view : ℕ) (n : Node E) → Up n.view (answer_as b p x y view n)
  answer_up (RequestVote theirs) x y view n = request_up x y view theirs n
  answer_up (VoteReply granted) x y view n = reply_up y view granted n
  answer_up (Append prev es c) x y view n = append_up x y view prev es c n
  answer_up (AppendReply ok seqno) x y view n = append_reply_up y view ok seqno n
  answer_up ProposeVote x y view n = propose_up x view n

  kept_up : (n : Node E) (w : Outcome A F) (step : Step E A F) → Up n.view step → Up n.view (undo_if_refused w n step)
  kept_up n (outcome.Refused why) step h = omega arith
  kept_up n outcome.Done step h = h
  kept_up n outcome.Idle step h = h
  kept_up n outcome.BecameCandidate step h = h
  kept_up n outcome.BecameLeader step h = h
  kept_up n (outcome.Accepted v p a) step h = h
  kept_up n (outcome.Signed v p) step h = h
  kept_up n (outcome.Committed v p) step h = h

  pub message_up : (m : Message E) (n : Node E) → Up n.view (on_message b m n)
  unfolding on_message
  message_up m n = kept_up n (answer_as b m.body m.receiver m.sender m.view (update_view b m.view n)).outcome (answer_as b m.body m.receiver m.sender m.view (update_view b m.view n))
      (by_test (λ k. Up n.view (answer_as b m.body m.receiver m.sender m.view k)) (nat_lt n.view m.view) (enter_view b m.view n) n
      (λ d. let u : n.view < m.view = grind (arith, nat_tests) in omega (arith, rise_is m.view n, answer_up m.body m.receiver m.sender m.view (enter_view b m.view n)))
      (λ d. answer_up m.body m.receiver m.sender m.view n))

  pub step_down_up : (x y : NodeId) (n : Node E) → Up n.view (step_down b x y n)
  unfolding step_down
  step_down_up x y n = led_up n (if not (same y x) && in_some y (active b n.log n.commit) then hand_over b x y n else outcome.refuse n outcome.NotPeer) (go (not (same y x) && in_some y (active b n.log n.commit)))
    where
      go : (m : Bool) → Up n.view (if m then hand_over b x y n else outcome.refuse n outcome.NotPeer)
      go true = omega arith
      go false = omega arith

  enters_up : (n : Node E) (m : Result (E × A) F) → Up n.view (append_result b n m)
  enters_up n (Err why) = omega arith
  enters_up n (Ok made) = omega arith

  pub submit_up : (q : Q) (n : Node E) → Up n.view (submit b q n)
  unfolding submit
  submit_up q n = led_up n (execute_request b q n) (enters_up n (b.execute n.log n.view q))

  pub finish_up : (len cuts : ℕ) (reads : R) (q : Q) (n : Node E) → Up n.view (finish b len cuts reads q n)
  unfolding finish
  finish_up len cuts reads q n = led_up n (finish_as_leader b len cuts reads q n) (go (not (n.cuts == cuts) || (n.cuts == last_count)) (b.conflict n.base n.log len reads))
    where
      go : (m : Bool) (c : Option F) → Up n.view (if m then outcome.refuse n (outcome.RolledBack cuts n.cuts) else unless_conflict b c n (execute_request b q n))
      go true c = omega arith
      go false None = enters_up n (b.execute n.log n.view q)
      go false (Some why) = omega arith

  pub govern_up : (q : G) (n : Node E) → Up n.view (govern b q n)
  unfolding govern
  govern_up q n = led_up n (govern_as_leader b q n) (go (nat_le pending_limit (length (configurations_above b n.log n.commit (length n.log)))) (b.marked_node q))
    where
      step : Step E A F
      step = append_result b n (b.govern n.log n.view q)

      late : (m : Option ℕ) → Up n.view (if_removal_committed b m n (append_result b n (b.govern n.log n.view q)))
      late None = enters_up n (b.govern n.log n.view q)
      late (Some seqno) = by_test (Up n.view) (nat_lt n.commit seqno) (outcome.refuse n (outcome.RemovalNotCommitted seqno n.commit)) (append_result b n (b.govern n.log n.view q)) (λ d. omega arith) (λ d. enters_up n (b.govern n.log n.view q))

      inner : (y : NodeId) (m : Option F) → Up n.view (unless_mark_refused b m y n (append_result b n (b.govern n.log n.view q)))
      inner y (Some why) = omega arith
      inner y None = late (b.removal n.log y)

      go : (m : Bool) (c : Option NodeId) → Up n.view (if m then outcome.refuse n (outcome.TooManyPending pending_limit) else if_markable b c n (append_result b n (b.govern n.log n.view q)))
      go true c = omega arith
      go false None = enters_up n (b.govern n.log n.view q)
      go false (Some y) = inner y (b.mark_refusal n.log y)

  pub reserve_up : (x : NodeId) (n : Node E) → Up n.view (reserve b x n)
  unfolding reserve
  reserve_up x n = by_test (Up n.view) (nat_le (b.leaves x) n.reserved) (outcome.refuse n (outcome.KeyExhausted n.reserved)) (outcome.quiet (record n { reserved = n.reserved + 1 }) outcome.Done) (λ d. omega arith) (λ d. omega arith)

  pub sign_up : (x : NodeId) (n : Node E) → Up n.view (sign b x n)
  unfolding sign
  sign_up x n = led_up n (sign_as_leader b x n) (go (n.used == n.reserved) (is_signature_in b n.view (entry_at n.log (length n.log))) (b.sign x n.used n.log n.view n.commit))
    where
      go : (p q : Bool) (m : Result E F) → Up n.view (if p then outcome.refuse n (outcome.NotReserved n.reserved) else (if q then outcome.refuse n (outcome.NothingToSign (length n.log)) else append_signature b n m))
      go true q m = omega arith
      go false true m = omega arith
      go false false (Err why) = omega arith
      go false false (Ok e) = omega arith

  pub evidence_up : (n : Node E) → Up n.view (evidence b n)
  unfolding evidence
  evidence_up n = led_up n (append_evidence b n (b.evidence n.log n.view)) (go (b.evidence n.log n.view))
    where
      go : (m : Result E F) → Up n.view (append_evidence b n m)
      go (Err why) = omega arith
      go (Ok e) = omega arith

  pub replicate_up : (x y : NodeId) (n : Node E) → Up n.view (replicate b x y n)
  unfolding replicate
  replicate_up x y n = led_up n (if is_peer b x y n then send_append b x y (next_of b n y - 1) n else outcome.refuse n outcome.NotPeer)
      (by_test (Up n.view) (is_peer b x y n) (send_append b x y (next_of b n y - 1) n) (outcome.refuse n outcome.NotPeer)
      (λ d. by_test (Up n.view) (nat_lt (next_of b n y - 1) n.base) (outcome.refuse n (outcome.BelowBase n.base)) (record { node = n; sent = append_message b x y (next_of b n y - 1) n ∷ []; outcome = outcome.Done }) (λ e. omega arith) (λ e. omega arith))
      (λ d. omega arith))

  pub advance_up : (x : NodeId) (n : Node E) → Up n.view (advance b x n)
  unfolding advance
  advance_up x n = led_up n (commit_to b n (greatest_to_commit b x n (length n.log))) (go (greatest_to_commit b x n (length n.log)))
    where
      go : (m : Option ℕ) → Up n.view (commit_to b n m)
      go None = omega arith
      go (Some seqno) = omega arith

  pub restart_up : (n : Node E) → Up n.view (restart b n)
  unfolding restart
  restart_up n = omega arith

  pub install_up : (m n : Node E) → Up n.view (install b m n)
  unfolding install
  install_up m n = by_test (Up n.view) (length n.log == 0) (install_snapshot b m (snapshot_of b m) n) (outcome.idle n) (λ d. go (snapshot_of b m)) (λ d. omega arith)
    where
      go : (k : Option ℕ) → Up n.view (install_snapshot b m k n)
      go None = omega arith
      go (Some i) = by_test (λ (l : Node E). n.view ≤ l.view) (nat_lt n.view (view_at b m.log (i - 1))) (enter_view b (view_at b m.log (i - 1)) n) n (λ d. let u : n.view < view_at b m.log (i - 1) = grind (arith, nat_tests) in omega (arith, rise_is (view_at b m.log (i - 1)) n)) (λ d. omega arith)
