-- What each rule sends brings few entries.
use Rattle.std.proofs.Common.{◌≡◌, ◌≤◌, ℕ, zero, suc, List, [], ◌∷◌, length, map, Bool, true, false, Option, Some, None, Result, Ok, Err, if◌then◌else◌, min, take, drop, ◌+◌, ◌-◌, not, ◌&&◌, ◌||◌, nat_lt, nat_le, ◌==◌, slice_get, refl, ap, ◌∙◌, arith}
use Rattle.std.proofs.lemmas.Bool.Decides.{nat_tests}
use Rattle.gl_rules.specs.Identity.{NodeId, same}
use Rattle.gl_rules.specs.Book.{Book}
use Rattle.gl_rules.specs.Node.{Node, Role, Follower, Candidate, Leader}
use Rattle.gl_rules.specs.Message.{Message, Body, Position, RequestVote, VoteReply, Append, AppendReply, ProposeVote}
use Rattle.gl_rules.specs.Outcome.{Step, Outcome}
use Rattle.gl_rules.specs.Outcome as outcome
use Rattle.gl_rules.specs.Log.{entry_at, is_signature_in, view_at, last_signature_position, is_up_to_date}
use Rattle.gl_rules.specs.Configuration.{others, in_some, active, configurations_above}
use Rattle.gl_rules.specs.Steps.{as_leader, cut_to, enter_view, update_view}
use Rattle.gl_rules.specs.Elections as elections
use Rattle.gl_rules.specs.Elections.{become_candidate, may_campaign, last_view, campaign, may_vote_for}
use Rattle.gl_rules.specs.Replication as replication
use Rattle.gl_rules.specs.Replication.{entries_limit, frames_limit, fitting_prefix}
use Rattle.gl_rules.specs.Requests as requests
use Rattle.gl_rules.specs.World.{undo_if_refused, on_message, answer_as}
use Rattle.gl_entry.specs.declared.entry.Entry.{Entry}
use Rattle.gl_ledger.specs.LedgerBook.{ServiceBook}
use Rattle.gl_election.specs.Bridge.{message_to}
use Rattle.gl_world.specs.declared.event.Event.{Event}
use Rattle.gl_world.specs.declared.event.Event.TheVariants as events
use Rattle.gl_world.specs.Rules.{bring_few, brings_few, delivery, node_in, rule_of}

module _ {E Q G R A F : Type 0} (b : Book E Q G R A F) where
  -- a step whose messages bring few entries
  abbrev Light : Step E A F → Type 0
  Light step = bring_few step.sent ≡ true

  at_leader : (r : Role) (n : Node E) (step : Step E A F) → Light step → Light (as_leader r n step)
  at_leader Leader n step light = light
  at_leader Candidate n step light = refl
  at_leader Follower n step light = refl

  by : (t : Bool) (yes no : Step E A F) → Light yes → Light no → Light (if t then yes else no)
  by true p q light other = light
  by false p q light other = other

  -- a message to each of the other nodes
  asked : (f : NodeId → Message E) → ((y : NodeId) → brings_few (f y).body ≡ true) → (ys : List NodeId) → bring_few (map f ys) ≡ true
  asked f light [] = refl
  asked f light (y ∷ ys) = ap (λ (t : Bool). t && bring_few (map f ys)) (light y) ∙ asked f light ys

  campaign_light : (x : NodeId) (n : Node E) → Light (campaign b x (become_candidate b x n))
  unfolding enter_view
  campaign_light x n =
      let m = become_candidate b x n in
      asked (λ (y : NodeId). record { sender = x; receiver = y; view = m.view; body = RequestVote (last_signature_position b m.log) }) (λ y. refl) (others b x m)

  allowed_light : (x : NodeId) (n : Node E) → Light (elections.campaign_if_allowed b x n)
  allowed_light x n =
      by (may_campaign b x n) (if n.view == last_view then outcome.refuse n outcome.ViewLimit else campaign b x (become_candidate b x n)) (outcome.idle n)
      (by (n.view == last_view) (outcome.refuse n outcome.ViewLimit) (campaign b x (become_candidate b x n)) refl (campaign_light x n))
      refl

  timeout_light : (x : NodeId) (n : Node E) → Light (elections.timeout b x n)
  unfolding elections.timeout
  timeout_light x n = go n.role
    where
      go : (r : Role) → Light (elections.timeout_as b r x n)
      go Leader = refl
      go Candidate = allowed_light x n
      go Follower = allowed_light x n

  step_down_light : (x y : NodeId) (n : Node E) → Light (elections.step_down b x y n)
  unfolding elections.step_down
  step_down_light x y n =
      let may : Bool = not (same y x) && in_some y (active b n.log n.commit) in
      at_leader n.role n (if may then elections.hand_over b x y n else outcome.refuse n outcome.NotPeer)
      (by may (elections.hand_over b x y n) (outcome.refuse n outcome.NotPeer) refl refl)

  -- what one message carries
  fitting_few : (count room : ℕ) (es : List E) → length (fitting_prefix b count room es) ≤ count
  unfolding fitting_prefix
  fitting_few zero room es = omega arith
  fitting_few (suc count) room [] = omega arith
  fitting_few (suc count) room (e ∷ es) = go (nat_le (b.frame_size e) room) (fitting_few count (room - b.frame_size e) es)
    where
      go : (t : Bool) → length (fitting_prefix b count (room - b.frame_size e) es) ≤ count → length (if t then e ∷ fitting_prefix b count (room - b.frame_size e) es else []) ≤ suc count
      go true few = omega (arith, few)
      go false few = omega arith

  batch_few : (es : List E) → nat_le (length (replication.batch b es)) entries_limit ≡ true
  batch_few [] = refl
  batch_few (e ∷ es) = let few = fitting_few (entries_limit - 1) (frames_limit - b.frame_size e) es in grind (arith, nat_tests, few)

  sent_light : (x y : NodeId) (suffix : ℕ) (n : Node E) → bring_few (replication.append_message b x y suffix n ∷ []) ≡ true
  sent_light x y suffix n = ap (λ (t : Bool). t && true) (batch_few (drop suffix n.log))

  replicate_light : (x y : NodeId) (n : Node E) → Light (replication.replicate b x y n)
  unfolding replication.replicate
  replicate_light x y n =
      let suffix = replication.next_of b n y - 1 in
      let send = replication.send_append b x y suffix n in
      at_leader n.role n (if replication.is_peer b x y n then send else outcome.refuse n outcome.NotPeer)
      (by (replication.is_peer b x y n) send (outcome.refuse n outcome.NotPeer)
      (by (nat_lt suffix n.base) (outcome.refuse n (outcome.BelowBase n.base)) (record { node = n; sent = replication.append_message b x y suffix n ∷ []; outcome = outcome.Done }) refl (sent_light x y suffix n))
      refl)

  -- a request

  result_light : (n : Node E) (r : Result (E × A) F) → Light (requests.append_result b n r)
  result_light n (Ok made) = refl
  result_light n (Err why) = refl

  submit_light : (q : Q) (n : Node E) → Light (requests.submit b q n)
  unfolding requests.submit
  submit_light q n = at_leader n.role n (requests.execute_request b q n) (result_light n (b.execute n.log n.view q))

  govern_light : (g : G) (n : Node E) → Light (requests.govern b g n)
  unfolding requests.govern
  govern_light g n =
      at_leader n.role n (requests.govern_as_leader b g n)
      (by (nat_le requests.pending_limit (length (configurations_above b n.log n.commit (length n.log)))) (outcome.refuse n (outcome.TooManyPending requests.pending_limit)) (requests.if_markable b (b.marked_node g) n made)
      refl (markable (b.marked_node g)))
    where
      made : Step E A F
      made = requests.append_result b n (b.govern n.log n.view g)

      light : Light made
      light = result_light n (b.govern n.log n.view g)

      committed : (o : Option ℕ) → Light (requests.if_removal_committed b o n made)
      committed None = light
      committed (Some seqno) = by (nat_lt n.commit seqno) (outcome.refuse n (outcome.RemovalNotCommitted seqno n.commit)) made refl light

      unless : (y : NodeId) (o : Option F) → Light (requests.unless_mark_refused b o y n made)
      unless y None = committed (b.removal n.log y)
      unless y (Some why) = refl

      markable : (o : Option NodeId) → Light (requests.if_markable b o n made)
      markable None = light
      markable (Some y) = unless y (b.mark_refusal n.log y)

  reserve_light : (x : NodeId) (n : Node E) → Light (requests.reserve b x n)
  unfolding requests.reserve
  reserve_light x n =
      by (nat_le (b.leaves x) n.reserved) (outcome.refuse n (outcome.KeyExhausted n.reserved)) (outcome.quiet (record n { reserved = n.reserved + 1 }) outcome.Done) refl refl

  sign_light : (x : NodeId) (n : Node E) → Light (requests.sign b x n)
  unfolding requests.sign
  sign_light x n =
      at_leader n.role n (requests.sign_as_leader b x n)
      (by (n.used == n.reserved) (outcome.refuse n (outcome.NotReserved n.reserved)) (if is_signature_in b n.view (entry_at n.log (length n.log)) then outcome.refuse n (outcome.NothingToSign (length n.log)) else made)
      refl
      (by (is_signature_in b n.view (entry_at n.log (length n.log))) (outcome.refuse n (outcome.NothingToSign (length n.log))) made refl (signed (b.sign x n.used n.log n.view n.commit))))
    where
      made : Step E A F
      made = requests.append_signature b n (b.sign x n.used n.log n.view n.commit)

      signed : (r : Result E F) → Light (requests.append_signature b n r)
      signed (Ok e) = refl
      signed (Err why) = refl

  evidence_light : (n : Node E) → Light (requests.evidence b n)
  unfolding requests.evidence
  evidence_light n = at_leader n.role n (requests.append_evidence b n (b.evidence n.log n.view)) (go (b.evidence n.log n.view))
    where
      go : (r : Result E F) → Light (requests.append_evidence b n r)
      go (Ok e) = refl
      go (Err why) = refl

  advance_light : (x : NodeId) (n : Node E) → Light (replication.advance b x n)
  unfolding replication.advance
  advance_light x n =
      at_leader n.role n (replication.commit_to b n (replication.greatest_to_commit b x n (length n.log))) (go (replication.greatest_to_commit b x n (length n.log)))
    where
      go : (o : Option ℕ) → Light (replication.commit_to b n o)
      go None = refl
      go (Some seqno) = refl

  restart_light : (n : Node E) → Light (replication.restart b n)
  unfolding replication.restart
  restart_light n = refl

  -- a message

  undone_light : (o : Outcome A F) (n : Node E) (step : Step E A F) → Light step → Light (undo_if_refused o n step)
  undone_light (outcome.Refused why) n step light = refl
  undone_light outcome.Done n step light = light
  undone_light outcome.Idle n step light = light
  undone_light outcome.BecameCandidate n step light = light
  undone_light outcome.BecameLeader n step light = light
  undone_light (outcome.Accepted v s a) n step light = light
  undone_light (outcome.Signed v s) n step light = light
  undone_light (outcome.Committed v s) n step light = light

  request_vote_light : (x c : NodeId) (view : ℕ) (theirs : Position) (n : Node E) → Light (elections.on_request_vote b x c view theirs n)
  unfolding elections.on_request_vote
  request_vote_light x c view theirs n =
      by (nat_lt view n.view) (elections.reply_to_vote_request b x c false n)
      (elections.reply_to_vote_request b x c (may_vote_for n.vote c && is_up_to_date theirs (last_signature_position b n.log)) n)
      refl refl

  vote_reply_light : (y : NodeId) (view : ℕ) (granted : Bool) (n : Node E) → Light (elections.on_vote_reply b y view granted n)
  unfolding elections.on_vote_reply
  vote_reply_light y view granted n = go n.role
    where
      go : (r : Role) → Light (elections.vote_reply_as b r y view granted n)
      go Candidate = by (granted && (view == n.view)) (elections.count_votes b (elections.add_vote b y n)) (outcome.idle n) refl refl
      go Follower = refl
      go Leader = refl

  merge_light : (x y : NodeId) (prev : Position) (es : List E) (theirs : ℕ) (n : Node E) → Light (replication.merge_if_matching b x y prev es theirs n)
  merge_light x y prev es theirs n =
      by ((prev.seqno == 0) || (nat_le prev.seqno (length n.log) && (view_at b n.log prev.seqno == prev.view)))
      (replication.merge_entries b x y prev.seqno es held theirs n)
      (record { node = n; sent = replication.append_reply b x y false (replication.highest_possible_match b n.log prev.view (min (prev.seqno - 1) (length n.log))) n; outcome = outcome.Done })
      (by (held == length es) (replication.accept_entries b x y (prev.seqno + length es) theirs n) suffix refl
      (by (nat_lt (prev.seqno + held) (length n.log) && nat_lt (prev.seqno + held) n.commit) (outcome.refuse n (outcome.BelowCommit n.commit (prev.seqno + held))) taken refl (accepted (replication.checked_append b n.base (take (prev.seqno + held) n.log) (drop held es)))))
      refl
    where
      held : ℕ
      held = replication.matching_prefix_len b (drop prev.seqno n.log) es

      accepted : (r : Result (List E) F) → Light (replication.accept_or_refuse b n x y (prev.seqno + length es) theirs (cut_to (prev.seqno + held) n) r)
      accepted (Ok log) = refl
      accepted (Err why) = refl

      taken : Step E A F
      taken = replication.accept_or_refuse b n x y (prev.seqno + length es) theirs (cut_to (prev.seqno + held) n) (replication.checked_append b n.base (take (prev.seqno + held) n.log) (drop held es))

      suffix : Step E A F
      suffix =
          if nat_lt (prev.seqno + held) (length n.log) && nat_lt (prev.seqno + held) n.commit
          then outcome.refuse n (outcome.BelowCommit n.commit (prev.seqno + held))
          else taken

  append_light : (x y : NodeId) (view : ℕ) (prev : Position) (es : List E) (theirs : ℕ) (n : Node E) → Light (replication.on_append b x y view prev es theirs n)
  unfolding replication.on_append
  append_light x y view prev es theirs n =
      by (nat_lt view n.view) (record { node = n; sent = replication.append_reply b x y false 0 n; outcome = outcome.Done }) (replication.append_as b n.role x y prev es theirs n)
      refl (go n.role)
    where
      go : (r : Role) → Light (replication.append_as b r x y prev es theirs n)
      go Leader = refl
      go Candidate = merge_light x y prev es theirs (replication.become_follower b y n)
      go Follower = merge_light x y prev es theirs (replication.become_follower b y n)

  reply_light : (y : NodeId) (view : ℕ) (ok : Bool) (seqno : ℕ) (n : Node E) → Light (replication.on_append_reply b y view ok seqno n)
  unfolding replication.on_append_reply
  reply_light y view ok seqno n = go n.role
    where
      progress : (t : Bool) → Light (replication.update_progress b t y seqno n)
      progress true = by (nat_le seqno (length n.log)) (outcome.quiet (replication.update_match b y seqno n) outcome.Done) (outcome.idle n) refl refl
      progress false = refl

      go : (r : Role) → Light (replication.append_reply_as b r y view ok seqno n)
      go Leader = by (view == n.view) (replication.update_progress b ok y seqno n) (outcome.idle n) (progress ok) refl
      go Candidate = refl
      go Follower = refl

  propose_light : (x : NodeId) (view : ℕ) (n : Node E) → Light (elections.on_propose_vote b x view n)
  unfolding elections.on_propose_vote
  propose_light x view n = by (nat_lt view n.view) (outcome.idle n) (elections.timeout b x n) refl (timeout_light x n)

  message_light : (m : Message E) (n : Node E) → Light (on_message b m n)
  unfolding on_message
  message_light m n = undone_light step.outcome n step (go m.body)
    where
      risen : Node E
      risen = update_view b m.view n

      step : Step E A F
      step = answer_as b m.body m.receiver m.sender m.view risen

      go : (body : Body E) → Light (answer_as b body m.receiver m.sender m.view risen)
      go (RequestVote last) = request_vote_light m.receiver m.sender m.view last risen
      go (VoteReply granted) = vote_reply_light m.sender m.view granted risen
      go (Append prev es commit) = append_light m.receiver m.sender m.view prev es commit risen
      go (AppendReply ok seqno) = reply_light m.sender m.view ok seqno risen
      go ProposeVote = propose_light m.receiver m.view risen

-- an event's rule, at any node
pub rule_light : (ids : List NodeId) (sent : List (Message Entry)) (event : Event) (b : ServiceBook) (x : NodeId) (n : Node Entry) → bring_few (rule_of ids sent event b x n).sent ≡ true
rule_light ids sent (events.Timeout node) b x n = timeout_light b x n
rule_light ids sent (events.Deliver message) b x n = go (slice_get sent message)
  where
    go : (m : Option (Message Entry)) → bring_few (delivery m b x n).sent ≡ true
    go None = refl
    go (Some m) = by b (same m.receiver x) (on_message b (message_to x m.sender m.view m.body) n) (outcome.idle n) (message_light b (message_to x m.sender m.view m.body) n) refl
rule_light ids sent (events.Submit node request) b x n = submit_light b request n
rule_light ids sent (events.Govern node request) b x n = govern_light b request n
rule_light ids sent (events.Reserve node) b x n = reserve_light b x n
rule_light ids sent (events.Sign node) b x n = sign_light b x n
rule_light ids sent (events.Evidence node) b x n = evidence_light b n
rule_light ids sent (events.Replicate node to) b x n = replicate_light b x (node_in ids to) n
rule_light ids sent (events.Advance node) b x n = advance_light b x n
rule_light ids sent (events.StepDown node to) b x n = step_down_light b x (node_in ids to) n
rule_light ids sent (events.Restart node) b x n = restart_light b n
rule_light ids sent (events.Install node from) b x n = refl
