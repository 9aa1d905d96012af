-- What each rule but an Install leaves of a node's base.
use Rattle.std.proofs.Common.{◌≡◌, ℕ, List, [], ◌∷◌, length, Bool, true, false, Option, Some, None, Result, Ok, Err, if◌then◌else◌, take, drop, ◌+◌, ◌-◌, not, ◌&&◌, ◌||◌, nat_lt, nat_le, ◌==◌, slice_get, refl, ◌∙◌, min}
use Rattle.gl_rules.specs.Identity.{NodeId, same}
use Rattle.gl_rules.specs.Book.{Book}
use Rattle.gl_rules.specs.Node.{Node, Role, Follower, Candidate, Leader}
use Rattle.gl_rules.specs.Message.{Message, Body, Position, RequestVote, VoteReply, Append, AppendReply, ProposeVote}
use Rattle.gl_rules.specs.Outcome.{Step, Outcome}
use Rattle.gl_rules.specs.Outcome as outcome
use Rattle.gl_rules.specs.Log.{entry_at, is_signature_in, view_at, last_signature_position, is_up_to_date}
use Rattle.gl_rules.specs.Configuration.{in_some, active, configurations_above}
use Rattle.gl_rules.specs.Steps.{as_leader, cut_to, enter_view, has_votes, lead_if, lead_if_elected, update_view}
use Rattle.gl_rules.specs.Elections as elections
use Rattle.gl_rules.specs.Elections.{become_candidate, may_campaign, last_view, campaign, may_vote_for}
use Rattle.gl_rules.specs.Replication as replication
use Rattle.gl_rules.specs.Requests as requests
use Rattle.gl_rules.specs.World.{undo_if_refused, on_message, answer_as}
use Rattle.gl_entry.specs.declared.entry.Entry.{Entry}
use Rattle.gl_ledger.specs.LedgerBook.{ServiceBook}
use Rattle.gl_election.specs.Bridge.{message_to}
use Rattle.gl_world.specs.declared.event.Event.{Event}
use Rattle.gl_world.specs.declared.event.Event.TheVariants as events
use Rattle.gl_world.specs.Rules.{delivery, node_in, rule_of}

module _ {E Q G R A F : Type 0} (b : Book E Q G R A F) where
  -- a step that leaves a base as it is
  abbrev Based : ℕ → Step E A F → Type 0
  Based base step = step.node.base ≡ base

  at_leader : (r : Role) (n : Node E) (step : Step E A F) → Based n.base step → Based n.base (as_leader r n step)
  at_leader Leader n step based = based
  at_leader Candidate n step based = refl
  at_leader Follower n step based = refl

  by : (base : ℕ) (t : Bool) (yes no : Step E A F) → Based base yes → Based base no → Based base (if t then yes else no)
  by base true p q based other = based
  by base false p q based other = other

  entered : (view : ℕ) (n : Node E) → (enter_view b view n).base ≡ n.base
  unfolding enter_view
  entered view n = refl

  elected : (n : Node E) → (lead_if_elected b n).base ≡ n.base
  unfolding lead_if_elected
  elected n = go (has_votes b n)
    where
      go : (t : Bool) → (lead_if b t n).base ≡ n.base
      go true = refl
      go false = refl

  campaign_based : (x : NodeId) (n : Node E) → Based n.base (campaign b x (become_candidate b x n))
  campaign_based x n = elected (become_candidate b x n) ∙ entered (n.view + 1) n

  allowed_based : (x : NodeId) (n : Node E) → Based n.base (elections.campaign_if_allowed b x n)
  allowed_based x n =
      by n.base (may_campaign b x n) (if n.view == last_view then outcome.refuse n outcome.ViewLimit else campaign b x (become_candidate b x n)) (outcome.idle n)
      (by n.base (n.view == last_view) (outcome.refuse n outcome.ViewLimit) (campaign b x (become_candidate b x n)) refl (campaign_based x n))
      refl

  timeout_based : (x : NodeId) (n : Node E) → Based n.base (elections.timeout b x n)
  unfolding elections.timeout
  timeout_based x n = go n.role
    where
      go : (r : Role) → Based n.base (elections.timeout_as b r x n)
      go Leader = refl
      go Candidate = allowed_based x n
      go Follower = allowed_based x n

  step_down_based : (x y : NodeId) (n : Node E) → Based n.base (elections.step_down b x y n)
  unfolding elections.step_down
  step_down_based x y n =
      let may : Bool = not (same y x) && in_some y (active b n.log n.commit) in
      at_leader n.role n (if may then elections.hand_over b x y n else outcome.refuse n outcome.NotPeer)
      (by n.base may (elections.hand_over b x y n) (outcome.refuse n outcome.NotPeer) refl refl)

  replicate_based : (x y : NodeId) (n : Node E) → Based n.base (replication.replicate b x y n)
  unfolding replication.replicate
  replicate_based x y n =
      let suffix = replication.next_of b n y - 1 in
      let send = replication.send_append b x y suffix n in
      at_leader n.role n (if replication.is_peer b x y n then send else outcome.refuse n outcome.NotPeer)
      (by n.base (replication.is_peer b x y n) send (outcome.refuse n outcome.NotPeer)
      (by n.base (nat_lt suffix n.base) (outcome.refuse n (outcome.BelowBase n.base)) (record { node = n; sent = replication.append_message b x y suffix n ∷ []; outcome = outcome.Done }) refl refl)
      refl)

  -- a request

  result_based : (n : Node E) (r : Result (E × A) F) → Based n.base (requests.append_result b n r)
  result_based n (Ok made) = refl
  result_based n (Err why) = refl

  submit_based : (q : Q) (n : Node E) → Based n.base (requests.submit b q n)
  unfolding requests.submit
  submit_based q n = at_leader n.role n (requests.execute_request b q n) (result_based n (b.execute n.log n.view q))

  govern_based : (g : G) (n : Node E) → Based n.base (requests.govern b g n)
  unfolding requests.govern
  govern_based g n =
      at_leader n.role n (requests.govern_as_leader b g n)
      (by n.base (nat_le requests.pending_limit (length (configurations_above b n.log n.commit (length n.log)))) (outcome.refuse n (outcome.TooManyPending requests.pending_limit)) (requests.if_markable b (b.marked_node g) n made)
      refl (markable (b.marked_node g)))
    where
      made : Step E A F
      made = requests.append_result b n (b.govern n.log n.view g)

      based : Based n.base made
      based = result_based n (b.govern n.log n.view g)

      committed : (o : Option ℕ) → Based n.base (requests.if_removal_committed b o n made)
      committed None = based
      committed (Some seqno) = by n.base (nat_lt n.commit seqno) (outcome.refuse n (outcome.RemovalNotCommitted seqno n.commit)) made refl based

      unless : (y : NodeId) (o : Option F) → Based n.base (requests.unless_mark_refused b o y n made)
      unless y None = committed (b.removal n.log y)
      unless y (Some why) = refl

      markable : (o : Option NodeId) → Based n.base (requests.if_markable b o n made)
      markable None = based
      markable (Some y) = unless y (b.mark_refusal n.log y)

  reserve_based : (x : NodeId) (n : Node E) → Based n.base (requests.reserve b x n)
  unfolding requests.reserve
  reserve_based x n =
      by n.base (nat_le (b.leaves x) n.reserved) (outcome.refuse n (outcome.KeyExhausted n.reserved)) (outcome.quiet (record n { reserved = n.reserved + 1 }) outcome.Done) refl refl

  sign_based : (x : NodeId) (n : Node E) → Based n.base (requests.sign b x n)
  unfolding requests.sign
  sign_based x n =
      at_leader n.role n (requests.sign_as_leader b x n)
      (by n.base (n.used == n.reserved) (outcome.refuse n (outcome.NotReserved n.reserved)) (if is_signature_in b n.view (entry_at n.log (length n.log)) then outcome.refuse n (outcome.NothingToSign (length n.log)) else made)
      refl
      (by n.base (is_signature_in b n.view (entry_at n.log (length n.log))) (outcome.refuse n (outcome.NothingToSign (length n.log))) made refl (signed (b.sign x n.used n.log n.view n.commit))))
    where
      made : Step E A F
      made = requests.append_signature b n (b.sign x n.used n.log n.view n.commit)

      signed : (r : Result E F) → Based n.base (requests.append_signature b n r)
      signed (Ok e) = refl
      signed (Err why) = refl

  evidence_based : (n : Node E) → Based n.base (requests.evidence b n)
  unfolding requests.evidence
  evidence_based n = at_leader n.role n (requests.append_evidence b n (b.evidence n.log n.view)) (go (b.evidence n.log n.view))
    where
      go : (r : Result E F) → Based n.base (requests.append_evidence b n r)
      go (Ok e) = refl
      go (Err why) = refl

  advance_based : (x : NodeId) (n : Node E) → Based n.base (replication.advance b x n)
  unfolding replication.advance
  advance_based x n =
      at_leader n.role n (replication.commit_to b n (replication.greatest_to_commit b x n (length n.log))) (go (replication.greatest_to_commit b x n (length n.log)))
    where
      go : (o : Option ℕ) → Based n.base (replication.commit_to b n o)
      go None = refl
      go (Some seqno) = refl

  restart_based : (n : Node E) → Based n.base (replication.restart b n)
  unfolding replication.restart
  restart_based n = refl

  -- a message

  undone_based : (o : Outcome A F) (n : Node E) (step : Step E A F) → Based n.base step → Based n.base (undo_if_refused o n step)
  undone_based (outcome.Refused why) n step based = refl
  undone_based outcome.Done n step based = based
  undone_based outcome.Idle n step based = based
  undone_based outcome.BecameCandidate n step based = based
  undone_based outcome.BecameLeader n step based = based
  undone_based (outcome.Accepted v s a) n step based = based
  undone_based (outcome.Signed v s) n step based = based
  undone_based (outcome.Committed v s) n step based = based

  voted_based : (x c : NodeId) (granted : Bool) (n : Node E) → Based n.base (elections.reply_to_vote_request b x c granted n)
  voted_based x c true n = refl
  voted_based x c false n = refl

  request_vote_based : (x c : NodeId) (view : ℕ) (theirs : Position) (n : Node E) → Based n.base (elections.on_request_vote b x c view theirs n)
  unfolding elections.on_request_vote
  request_vote_based x c view theirs n =
      let granted : Bool = may_vote_for n.vote c && is_up_to_date theirs (last_signature_position b n.log) in
      by n.base (nat_lt view n.view) (elections.reply_to_vote_request b x c false n) (elections.reply_to_vote_request b x c granted n) refl (voted_based x c granted n)

  vote_reply_based : (y : NodeId) (view : ℕ) (granted : Bool) (n : Node E) → Based n.base (elections.on_vote_reply b y view granted n)
  unfolding elections.on_vote_reply
  vote_reply_based y view granted n = go n.role
    where
      go : (r : Role) → Based n.base (elections.vote_reply_as b r y view granted n)
      go Candidate = by n.base (granted && (view == n.view)) (elections.count_votes b (elections.add_vote b y n)) (outcome.idle n) (elected (elections.add_vote b y n)) refl
      go Follower = refl
      go Leader = refl

  merge_based : (x y : NodeId) (prev : Position) (es : List E) (theirs : ℕ) (n : Node E) → Based n.base (replication.merge_if_matching b x y prev es theirs n)
  merge_based x y prev es theirs n =
      by n.base ((prev.seqno == 0) || (nat_le prev.seqno (length n.log) && (view_at b n.log prev.seqno == prev.view)))
      (replication.merge_entries b x y prev.seqno es held theirs n)
      (record { node = n; sent = replication.append_reply b x y false (replication.highest_possible_match b n.log prev.view (min (prev.seqno - 1) (length n.log))) n; outcome = outcome.Done })
      (by n.base (held == length es) (replication.accept_entries b x y (prev.seqno + length es) theirs n) suffix refl
      (by n.base (nat_lt (prev.seqno + held) (length n.log) && nat_lt (prev.seqno + held) n.commit) (outcome.refuse n (outcome.BelowCommit n.commit (prev.seqno + held))) taken refl (accepted (replication.checked_append b n.base (take (prev.seqno + held) n.log) (drop held es)))))
      refl
    where
      held : ℕ
      held = replication.matching_prefix_len b (drop prev.seqno n.log) es

      accepted : (r : Result (List E) F) → Based n.base (replication.accept_or_refuse b n x y (prev.seqno + length es) theirs (cut_to (prev.seqno + held) n) r)
      accepted (Ok log) = refl
      accepted (Err why) = refl

      taken : Step E A F
      taken = replication.accept_or_refuse b n x y (prev.seqno + length es) theirs (cut_to (prev.seqno + held) n) (replication.checked_append b n.base (take (prev.seqno + held) n.log) (drop held es))

      suffix : Step E A F
      suffix =
          if nat_lt (prev.seqno + held) (length n.log) && nat_lt (prev.seqno + held) n.commit
          then outcome.refuse n (outcome.BelowCommit n.commit (prev.seqno + held))
          else taken

  append_based : (x y : NodeId) (view : ℕ) (prev : Position) (es : List E) (theirs : ℕ) (n : Node E) → Based n.base (replication.on_append b x y view prev es theirs n)
  unfolding replication.on_append
  append_based x y view prev es theirs n =
      by n.base (nat_lt view n.view) (record { node = n; sent = replication.append_reply b x y false 0 n; outcome = outcome.Done }) (replication.append_as b n.role x y prev es theirs n)
      refl (go n.role)
    where
      go : (r : Role) → Based n.base (replication.append_as b r x y prev es theirs n)
      go Leader = refl
      go Candidate = merge_based x y prev es theirs (replication.become_follower b y n)
      go Follower = merge_based x y prev es theirs (replication.become_follower b y n)

  reply_based : (y : NodeId) (view : ℕ) (ok : Bool) (seqno : ℕ) (n : Node E) → Based n.base (replication.on_append_reply b y view ok seqno n)
  unfolding replication.on_append_reply
  reply_based y view ok seqno n = go n.role
    where
      progress : (t : Bool) → Based n.base (replication.update_progress b t y seqno n)
      progress true = by n.base (nat_le seqno (length n.log)) (outcome.quiet (replication.update_match b y seqno n) outcome.Done) (outcome.idle n) refl refl
      progress false = refl

      go : (r : Role) → Based n.base (replication.append_reply_as b r y view ok seqno n)
      go Leader = by n.base (view == n.view) (replication.update_progress b ok y seqno n) (outcome.idle n) (progress ok) refl
      go Candidate = refl
      go Follower = refl

  propose_based : (x : NodeId) (view : ℕ) (n : Node E) → Based n.base (elections.on_propose_vote b x view n)
  unfolding elections.on_propose_vote
  propose_based x view n = by n.base (nat_lt view n.view) (outcome.idle n) (elections.timeout b x n) refl (timeout_based x n)

  risen_based : (view : ℕ) (n : Node E) → (update_view b view n).base ≡ n.base
  risen_based view n = go (nat_lt n.view view)
    where
      go : (t : Bool) → (if t then enter_view b view n else n).base ≡ n.base
      go true = entered view n
      go false = refl

  message_based : (m : Message E) (n : Node E) → Based n.base (on_message b m n)
  unfolding on_message
  message_based m n = undone_based step.outcome n step (go m.body ∙ risen_based m.view n)
    where
      risen : Node E
      risen = update_view b m.view n

      step : Step E A F
      step = answer_as b m.body m.receiver m.sender m.view risen

      go : (body : Body E) → Based risen.base (answer_as b body m.receiver m.sender m.view risen)
      go (RequestVote last) = request_vote_based m.receiver m.sender m.view last risen
      go (VoteReply granted) = vote_reply_based m.sender m.view granted risen
      go (Append prev es commit) = append_based m.receiver m.sender m.view prev es commit risen
      go (AppendReply ok seqno) = reply_based m.sender m.view ok seqno risen
      go ProposeVote = propose_based m.receiver m.view risen

-- an event's rule, at any node
pub rule_based : (ids : List NodeId) (sent : List (Message Entry)) (event : Event) (b : ServiceBook) (x : NodeId) (n : Node Entry) → (rule_of ids sent event b x n).node.base ≡ n.base
rule_based ids sent (events.Timeout node) b x n = timeout_based b x n
rule_based ids sent (events.Deliver message) b x n = go (slice_get sent message)
  where
    go : (m : Option (Message Entry)) → (delivery m b x n).node.base ≡ n.base
    go None = refl
    go (Some m) = by b n.base (same m.receiver x) (on_message b (message_to x m.sender m.view m.body) n) (outcome.idle n) (message_based b (message_to x m.sender m.view m.body) n) refl
rule_based ids sent (events.Submit node request) b x n = submit_based b request n
rule_based ids sent (events.Govern node request) b x n = govern_based b request n
rule_based ids sent (events.Reserve node) b x n = reserve_based b x n
rule_based ids sent (events.Sign node) b x n = sign_based b x n
rule_based ids sent (events.Evidence node) b x n = evidence_based b n
rule_based ids sent (events.Replicate node to) b x n = replicate_based b x (node_in ids to) n
rule_based ids sent (events.Advance node) b x n = advance_based b x n
rule_based ids sent (events.StepDown node to) b x n = step_down_based b x (node_in ids to) n
rule_based ids sent (events.Restart node) b x n = restart_based b n
rule_based ids sent (events.Install node from) b x n = refl
