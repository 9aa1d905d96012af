-- How many messages each rule sends: one at most, or one to each node that the log up to its last
-- signature records.
use Rattle.std.proofs.Common.{◌≡◌, ◌≤◌, ℕ, List, [], ◌∷◌, length, not, Bool, true, false, Option, Some, None, Result, Ok, Err, if◌then◌else◌, max, min, take, drop, ◌+◌, ◌-◌, ◌&&◌, ◌||◌, nat_lt, nat_le, ◌==◌, slice_get, refl, ap, arith}
use Rattle.std.proofs.lemmas.List.{length-map}
use Rattle.std.proofs.lemmas.List.Filters.{length-filter_both}
use Rattle.gl_rules.specs.Identity.{NodeId, same}
use Rattle.gl_rules.specs.Book.{Book}
use Rattle.gl_rules.specs.Node.{Node, Role, Follower, Candidate, Leader}
use Rattle.gl_rules.specs.Message.{Message, Body, Position, RequestVote, VoteReply, Append, AppendReply, ProposeVote}
use Rattle.gl_rules.specs.Outcome.{Step, Outcome}
use Rattle.gl_rules.specs.Outcome as outcome
use Rattle.gl_rules.specs.Log.{entry_at, is_signature_in, view_at, last_signature_position, is_up_to_date}
use Rattle.gl_rules.specs.Configuration.{others, in_some, active, configurations_above}
use Rattle.gl_rules.specs.Steps.{as_leader, cut_to, enter_view, update_view}
use Rattle.gl_rules.specs.Elections as elections
use Rattle.gl_rules.specs.Elections.{become_candidate, may_campaign, last_view, campaign, vote_requests, may_vote_for}
use Rattle.gl_rules.specs.Replication as replication
use Rattle.gl_rules.specs.Requests as requests
use Rattle.gl_rules.specs.World.{undo_if_refused, on_message, answer_as}
use Rattle.gl_entry.specs.declared.entry.Entry.{Entry}
use Rattle.gl_ledger.specs.LedgerBook.{ServiceBook}
use Rattle.gl_election.specs.Bridge.{message_to}
use Rattle.gl_world.specs.declared.event.Event.{Event}
use Rattle.gl_world.specs.declared.event.Event.TheVariants as events
use Rattle.gl_world.specs.Rules.{delivery, most_sent, node_in, rule_of}
use Rattle.gl_election.proofs.Bridging.{signed_again}

module _ {E Q G R A F : Type 0} (b : Book E Q G R A F) where
  -- a step that sends at most so many
  abbrev Few : ℕ → Step E A F → Type 0
  Few k step = length step.sent ≤ k

  at_leader : (k : ℕ) (r : Role) (n : Node E) (step : Step E A F) → Few k step → Few k (as_leader r n step)
  at_leader k Leader n step few = few
  at_leader k Candidate n step few = omega arith
  at_leader k Follower n step few = omega arith

  by : (k : ℕ) (t : Bool) (yes no : Step E A F) → Few k yes → Few k no → Few k (if t then yes else no)
  by k true p q few other = few
  by k false p q few other = other

  -- a message to each of the other nodes
  requests_few : (x : NodeId) (n : Node E) → length (vote_requests b x n) ≤ length (b.recorded_nodes n.log)
  requests_few x n =
      let test : NodeId → Bool = λ y. not (same y x) && in_some y (active b n.log n.commit) in
      omega (
        arith,
        length-map {B = Message E} (others b x n) (λ (y : NodeId). record { sender = x; receiver = y; view = n.view; body = RequestVote (last_signature_position b n.log) }),
        length-filter_both test (λ y. not (test y)) (λ y. refl) (b.recorded_nodes n.log),
      )

  campaign_few : (x : NodeId) (n : Node E) → Few (most_sent b n) (campaign b x (become_candidate b x n))
  unfolding enter_view
  campaign_few x n =
      let few = requests_few x (become_candidate b x n) in
      omega (arith, few)

  allowed_few : (x : NodeId) (n : Node E) → Few (most_sent b n) (elections.campaign_if_allowed b x n)
  allowed_few x n =
      by (most_sent b n) (may_campaign b x n) (if n.view == last_view then outcome.refuse n outcome.ViewLimit else campaign b x (become_candidate b x n)) (outcome.idle n)
      (by (most_sent b n) (n.view == last_view) (outcome.refuse n outcome.ViewLimit) (campaign b x (become_candidate b x n)) (omega arith) (campaign_few x n))
      (omega arith)

  pub timeout_few : (x : NodeId) (n : Node E) → Few (most_sent b n) (elections.timeout b x n)
  unfolding elections.timeout
  timeout_few x n = go n.role
    where
      go : (r : Role) → Few (most_sent b n) (elections.timeout_as b r x n)
      go Leader = omega arith
      go Candidate = allowed_few x n
      go Follower = allowed_few x n

  pub step_down_few : (x y : NodeId) (n : Node E) → Few (most_sent b n) (elections.step_down b x y n)
  unfolding elections.step_down
  step_down_few x y n =
      let may : Bool = not (same y x) && in_some y (active b n.log n.commit) in
      at_leader (most_sent b n) n.role n (if may then elections.hand_over b x y n else outcome.refuse n outcome.NotPeer)
      (by (most_sent b n) may (elections.hand_over b x y n) (outcome.refuse n outcome.NotPeer) (omega arith) (omega arith))

  pub replicate_few : (x y : NodeId) (n : Node E) → Few (most_sent b n) (replication.replicate b x y n)
  unfolding replication.replicate
  replicate_few x y n =
      let suffix = replication.next_of b n y - 1 in
      let send = replication.send_append b x y suffix n in
      at_leader (most_sent b n) n.role n (if replication.is_peer b x y n then send else outcome.refuse n outcome.NotPeer)
      (by (most_sent b n) (replication.is_peer b x y n) send (outcome.refuse n outcome.NotPeer)
      (by (most_sent b n) (nat_lt suffix n.base) (outcome.refuse n (outcome.BelowBase n.base)) (record { node = n; sent = replication.append_message b x y suffix n ∷ []; outcome = outcome.Done }) (omega arith) (omega arith))
      (omega arith))

  -- a request

  result_few : (k : ℕ) (n : Node E) (r : Result (E × A) F) → Few k (requests.append_result b n r)
  result_few k n (Ok made) = omega arith
  result_few k n (Err why) = omega arith

  pub submit_few : (q : Q) (n : Node E) → Few (most_sent b n) (requests.submit b q n)
  unfolding requests.submit
  submit_few q n = at_leader (most_sent b n) n.role n (requests.execute_request b q n) (result_few (most_sent b n) n (b.execute n.log n.view q))

  pub govern_few : (g : G) (n : Node E) → Few (most_sent b n) (requests.govern b g n)
  unfolding requests.govern
  govern_few g n =
      at_leader k n.role n (requests.govern_as_leader b g n)
      (by k (nat_le requests.pending_limit (length (configurations_above b n.log n.commit (length n.log)))) (outcome.refuse n (outcome.TooManyPending requests.pending_limit)) (requests.if_markable b (b.marked_node g) n made)
      (omega arith) (markable (b.marked_node g)))
    where
      k : ℕ
      k = most_sent b n

      made : Step E A F
      made = requests.append_result b n (b.govern n.log n.view g)

      few : Few k made
      few = result_few k n (b.govern n.log n.view g)

      committed : (o : Option ℕ) → Few k (requests.if_removal_committed b o n made)
      committed None = few
      committed (Some seqno) = by k (nat_lt n.commit seqno) (outcome.refuse n (outcome.RemovalNotCommitted seqno n.commit)) made (omega arith) few

      unless : (y : NodeId) (o : Option F) → Few k (requests.unless_mark_refused b o y n made)
      unless y None = committed (b.removal n.log y)
      unless y (Some why) = omega arith

      markable : (o : Option NodeId) → Few k (requests.if_markable b o n made)
      markable None = few
      markable (Some y) = unless y (b.mark_refusal n.log y)

  pub reserve_few : (x : NodeId) (n : Node E) → Few (most_sent b n) (requests.reserve b x n)
  unfolding requests.reserve
  reserve_few x n =
      by (most_sent b n) (nat_le (b.leaves x) n.reserved) (outcome.refuse n (outcome.KeyExhausted n.reserved)) (outcome.quiet (record n { reserved = n.reserved + 1 }) outcome.Done)
      (omega arith) (omega arith)

  pub sign_few : (x : NodeId) (n : Node E) → Few (most_sent b n) (requests.sign b x n)
  unfolding requests.sign
  sign_few x n =
      at_leader k n.role n (requests.sign_as_leader b x n)
      (by k (n.used == n.reserved) (outcome.refuse n (outcome.NotReserved n.reserved)) (if is_signature_in b n.view (entry_at n.log (length n.log)) then outcome.refuse n (outcome.NothingToSign (length n.log)) else made)
      (omega arith)
      (by k (is_signature_in b n.view (entry_at n.log (length n.log))) (outcome.refuse n (outcome.NothingToSign (length n.log))) made (omega arith) (signed (b.sign x n.used n.log n.view n.commit))))
    where
      k : ℕ
      k = most_sent b n

      made : Step E A F
      made = requests.append_signature b n (b.sign x n.used n.log n.view n.commit)

      signed : (r : Result E F) → Few k (requests.append_signature b n r)
      signed (Ok e) = omega arith
      signed (Err why) = omega arith

  pub evidence_few : (n : Node E) → Few (most_sent b n) (requests.evidence b n)
  unfolding requests.evidence
  evidence_few n = at_leader (most_sent b n) n.role n (requests.append_evidence b n (b.evidence n.log n.view)) (go (b.evidence n.log n.view))
    where
      go : (r : Result E F) → Few (most_sent b n) (requests.append_evidence b n r)
      go (Ok e) = omega arith
      go (Err why) = omega arith

  pub advance_few : (x : NodeId) (n : Node E) → Few (most_sent b n) (replication.advance b x n)
  unfolding replication.advance
  advance_few x n =
      at_leader (most_sent b n) n.role n (replication.commit_to b n (replication.greatest_to_commit b x n (length n.log))) (go (replication.greatest_to_commit b x n (length n.log)))
    where
      go : (o : Option ℕ) → Few (most_sent b n) (replication.commit_to b n o)
      go None = omega arith
      go (Some seqno) = omega arith

  pub restart_few : (n : Node E) → Few (most_sent b n) (replication.restart b n)
  unfolding replication.restart
  restart_few n = omega arith

  -- a message

  undone_few : (k : ℕ) (o : Outcome A F) (n : Node E) (step : Step E A F) → Few k step → Few k (undo_if_refused o n step)
  undone_few k (outcome.Refused why) n step few = omega arith
  undone_few k outcome.Done n step few = few
  undone_few k outcome.Idle n step few = few
  undone_few k outcome.BecameCandidate n step few = few
  undone_few k outcome.BecameLeader n step few = few
  undone_few k (outcome.Accepted v s a) n step few = few
  undone_few k (outcome.Signed v s) n step few = few
  undone_few k (outcome.Committed v s) n step few = few

  -- a later view cuts the log to its last signature, and there it ends then
  most_sent_in_view : (view : ℕ) (n : Node E) → most_sent b (update_view b view n) ≡ most_sent b n
  unfolding enter_view
  most_sent_in_view view n = go (nat_lt n.view view)
    where
      go : (t : Bool) → most_sent b (if t then enter_view b view n else n) ≡ most_sent b n
      go true = ap (λ (log : List E). max 1 (length (b.recorded_nodes log))) (signed_again b n.log)
      go false = refl

  request_vote_few : (k : ℕ) (x c : NodeId) (view : ℕ) (theirs : Position) (n : Node E) → 1 ≤ k → Few k (elections.on_request_vote b x c view theirs n)
  unfolding elections.on_request_vote
  request_vote_few k x c view theirs n one =
      by k (nat_lt view n.view) (elections.reply_to_vote_request b x c false n)
      (elections.reply_to_vote_request b x c (may_vote_for n.vote c && is_up_to_date theirs (last_signature_position b n.log)) n)
      (omega arith) (omega arith)

  vote_reply_few : (k : ℕ) (y : NodeId) (view : ℕ) (granted : Bool) (n : Node E) → Few k (elections.on_vote_reply b y view granted n)
  unfolding elections.on_vote_reply
  vote_reply_few k y view granted n = go n.role
    where
      go : (r : Role) → Few k (elections.vote_reply_as b r y view granted n)
      go Candidate = by k (granted && (view == n.view)) (elections.count_votes b (elections.add_vote b y n)) (outcome.idle n) (omega arith) (omega arith)
      go Follower = omega arith
      go Leader = omega arith

  merge_few : (k : ℕ) (x y : NodeId) (prev : Position) (es : List E) (theirs : ℕ) (n : Node E) → 1 ≤ k → Few k (replication.merge_if_matching b x y prev es theirs n)
  merge_few k x y prev es theirs n one =
      by k ((prev.seqno == 0) || (nat_le prev.seqno (length n.log) && (view_at b n.log prev.seqno == prev.view)))
      (replication.merge_entries b x y prev.seqno es held theirs n)
      (record { node = n; sent = replication.append_reply b x y false (replication.highest_possible_match b n.log prev.view (min (prev.seqno - 1) (length n.log))) n; outcome = outcome.Done })
      (by k (held == length es) (replication.accept_entries b x y (prev.seqno + length es) theirs n) suffix (omega arith)
      (by k (nat_lt (prev.seqno + held) (length n.log) && nat_lt (prev.seqno + held) n.commit) (outcome.refuse n (outcome.BelowCommit n.commit (prev.seqno + held))) taken (omega arith) (accepted (replication.checked_append b n.base (take (prev.seqno + held) n.log) (drop held es)))))
      (omega arith)
    where
      held : ℕ
      held = replication.matching_prefix_len b (drop prev.seqno n.log) es

      accepted : (r : Result (List E) F) → Few k (replication.accept_or_refuse b n x y (prev.seqno + length es) theirs (cut_to (prev.seqno + held) n) r)
      accepted (Ok log) = omega arith
      accepted (Err why) = omega arith

      taken : Step E A F
      taken = replication.accept_or_refuse b n x y (prev.seqno + length es) theirs (cut_to (prev.seqno + held) n) (replication.checked_append b n.base (take (prev.seqno + held) n.log) (drop held es))

      suffix : Step E A F
      suffix =
          if nat_lt (prev.seqno + held) (length n.log) && nat_lt (prev.seqno + held) n.commit
          then outcome.refuse n (outcome.BelowCommit n.commit (prev.seqno + held))
          else taken

  append_few : (k : ℕ) (x y : NodeId) (view : ℕ) (prev : Position) (es : List E) (theirs : ℕ) (n : Node E) → 1 ≤ k → Few k (replication.on_append b x y view prev es theirs n)
  unfolding replication.on_append
  append_few k x y view prev es theirs n one =
      by k (nat_lt view n.view) (record { node = n; sent = replication.append_reply b x y false 0 n; outcome = outcome.Done }) (replication.append_as b n.role x y prev es theirs n)
      (omega arith) (go n.role)
    where
      go : (r : Role) → Few k (replication.append_as b r x y prev es theirs n)
      go Leader = omega arith
      go Candidate = merge_few k x y prev es theirs (replication.become_follower b y n) one
      go Follower = merge_few k x y prev es theirs (replication.become_follower b y n) one

  reply_few : (k : ℕ) (y : NodeId) (view : ℕ) (ok : Bool) (seqno : ℕ) (n : Node E) → Few k (replication.on_append_reply b y view ok seqno n)
  unfolding replication.on_append_reply
  reply_few k y view ok seqno n = go n.role
    where
      progress : (t : Bool) → Few k (replication.update_progress b t y seqno n)
      progress true = by k (nat_le seqno (length n.log)) (outcome.quiet (replication.update_match b y seqno n) outcome.Done) (outcome.idle n) (omega arith) (omega arith)
      progress false = omega arith

      go : (r : Role) → Few k (replication.append_reply_as b r y view ok seqno n)
      go Leader = by k (view == n.view) (replication.update_progress b ok y seqno n) (outcome.idle n) (progress ok) (omega arith)
      go Candidate = omega arith
      go Follower = omega arith

  propose_few : (k : ℕ) (x : NodeId) (view : ℕ) (n : Node E) → most_sent b n ≡ k → Few k (elections.on_propose_vote b x view n)
  unfolding elections.on_propose_vote
  propose_few k x view n is = by k (nat_lt view n.view) (outcome.idle n) (elections.timeout b x n) (omega arith) (omega (arith, timeout_few x n, is))

  pub message_few : (m : Message E) (n : Node E) → Few (most_sent b n) (on_message b m n)
  unfolding on_message
  message_few m n = undone_few (most_sent b n) step.outcome n step (go m.body)
    where
      risen : Node E
      risen = update_view b m.view n

      step : Step E A F
      step = answer_as b m.body m.receiver m.sender m.view risen

      go : (body : Body E) → Few (most_sent b n) (answer_as b body m.receiver m.sender m.view risen)
      go (RequestVote last) = request_vote_few (most_sent b n) m.receiver m.sender m.view last risen (omega arith)
      go (VoteReply granted) = vote_reply_few (most_sent b n) m.sender m.view granted risen
      go (Append prev es commit) = append_few (most_sent b n) m.receiver m.sender m.view prev es commit risen (omega arith)
      go (AppendReply ok seqno) = reply_few (most_sent b n) m.sender m.view ok seqno risen
      go ProposeVote = propose_few (most_sent b n) m.receiver m.view risen (most_sent_in_view m.view n)

-- an event's rule, at any node
pub rule_few : (ids : List NodeId) (sent : List (Message Entry)) (event : Event) (b : ServiceBook) (x : NodeId) (n : Node Entry) → length (rule_of ids sent event b x n).sent ≤ most_sent b n
rule_few ids sent (events.Timeout node) b x n = timeout_few b x n
rule_few ids sent (events.Deliver message) b x n = go (slice_get sent message)
  where
    go : (m : Option (Message Entry)) → length (delivery m b x n).sent ≤ most_sent b n
    go None = omega arith
    go (Some m) = by b (most_sent b n) (same m.receiver x) (on_message b (message_to x m.sender m.view m.body) n) (outcome.idle n) (message_few b (message_to x m.sender m.view m.body) n) (omega arith)
rule_few ids sent (events.Submit node request) b x n = submit_few b request n
rule_few ids sent (events.Govern node request) b x n = govern_few b request n
rule_few ids sent (events.Reserve node) b x n = reserve_few b x n
rule_few ids sent (events.Sign node) b x n = sign_few b x n
rule_few ids sent (events.Evidence node) b x n = evidence_few b n
rule_few ids sent (events.Replicate node to) b x n = replicate_few b x (node_in ids to) n
rule_few ids sent (events.Advance node) b x n = advance_few b x n
rule_few ids sent (events.StepDown node to) b x n = step_down_few b x (node_in ids to) n
rule_few ids sent (events.Restart node) b x n = restart_few b n
rule_few ids sent (events.Install node from) b x n = omega arith
