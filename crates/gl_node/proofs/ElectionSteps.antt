-- What the rules of elections change of what a file keeps of a node.
use Rattle.std.proofs.Common.{◌≡◌, ◌≤◌, ◌<◌, ℕ, ◌+◌, ◌-◌, [], ◌∷◌, length, take, min, Bool, true, false, ◌&&◌, not, ◌==◌, nat_lt, nat_le, if◌then◌else◌, Option, Some, None, refl, sym, ap, ◌∙◌, arith, length-take}
use Rattle.std.proofs.lemmas.Bool.Decides.{nat_tests}
use Rattle.std.proofs.lemmas.List.{take-take, take_all, take_min}
use Rattle.gl_entry.specs.declared.entry.Entry.{Entry}
use Rattle.gl_rules.specs.Identity.{NodeId, same}
use Rattle.gl_rules.specs.Book.{Book}
use Rattle.gl_rules.specs.Node.{Node, Role, Follower, Candidate, Leader}
use Rattle.gl_rules.specs.Message.{Position, Message, Body, RequestVote, VoteReply, AppendReply, ProposeVote}
use Rattle.gl_rules.specs.Outcome.{Outcome, Step}
use Rattle.gl_rules.specs.Outcome as outcome
use Rattle.gl_rules.specs.Log.{last_signature, last_signature_position, is_up_to_date}
use Rattle.gl_rules.specs.Configuration.{active, in_some}
use Rattle.gl_rules.specs.Steps.{enter_view, has_votes, lead_if, lead_if_elected, as_leader, if_leader, update_view}
use Rattle.gl_rules.specs.Elections.{may_vote_for, may_campaign, become_candidate, campaign, last_view, timeout_as, timeout, reply_to_vote_request, on_request_vote, add_vote, count_votes, vote_reply_as, on_vote_reply, on_propose_vote, hand_over, step_down}
use Rattle.gl_rules.specs.Replication.{update_match, update_progress, append_reply_as, on_append_reply, greatest_to_commit, commit_to, advance, is_peer, send_append, next_of, append_message, replicate}
use Rattle.gl_rules.specs.Requests.{reserve}
use Rattle.gl_rules.specs.World.{answer_as, undo_if_refused, on_message}
use Rattle.gl_rules.proofs.Ids.{by_test}
use Rattle.gl_node.specs.Changes.{IsAsKept, IsTurned}

pub as_it_was : (n : Node Entry) → IsAsKept n n
as_it_was n = record { view = refl; vote = refl; log = refl; base = refl; reserved = refl; used = refl }

-- the log is as it was
unlogged : (n m : Node Entry) → n.view ≤ m.view → m.log ≡ n.log → m.base ≡ n.base → n.reserved ≤ m.reserved → m.used ≡ n.used → IsTurned n m
unlogged n m view log base reserved used = record {
  view = view;
  log = log ∙ sym (take_all (length m.log) n.log (let e : length m.log ≡ length n.log = ap length log in omega (arith, e)));
  base = base;
  reserved = reserved;
  used = used;
}

-- the log is cut
cut_turned : (n m : Node Entry) (k : ℕ) → n.view ≤ m.view → m.log ≡ take k n.log → m.base ≡ n.base → n.reserved ≤ m.reserved → m.used ≡ n.used → IsTurned n m
cut_turned n m k view log base reserved used =
    let long : length m.log ≡ min k (length n.log) = ap length log ∙ length-take k n.log in
    record { view = view; log = log ∙ sym (take_min k n.log) ∙ ap (λ (i : ℕ). take i n.log) (sym long); base = base; reserved = reserved; used = used }

unturned : (n : Node Entry) → IsTurned n n
unturned n = unlogged n n (omega arith) refl refl (omega arith) refl

turned_then : (l m n : Node Entry) → IsTurned l m → IsTurned m n → IsTurned l n
turned_then l m n p q =
    let k = length n.log in
    let j = length m.log in
    let short : k ≤ j = let e : k ≡ min k j = ap length q.log ∙ length-take k m.log in omega (arith, e) in
    record {
      view = omega (arith, p.view, q.view);
      log = q.log ∙ ap (take k) p.log ∙ take-take k j l.log short;
      base = q.base ∙ p.base;
      reserved = omega (arith, p.reserved, q.reserved);
      used = q.used ∙ p.used;
    }

module _ {Q G R A F : Type 0} (b : Book Entry Q G R A F) where
  enter_turned : (v : ℕ) (n : Node Entry) → n.view ≤ v → IsTurned n (enter_view b v n)
  unfolding enter_view
  enter_turned v n rises = cut_turned n _ (last_signature b n.log) rises refl refl (omega arith) refl

  lead_turned : (n : Node Entry) → IsTurned n (lead_if_elected b n)
  unfolding lead_if_elected
  lead_turned n = go (has_votes b n)
    where
      go : (t : Bool) → IsTurned n (lead_if b t n)
      go true = unlogged n _ (omega arith) refl refl (omega arith) refl
      go false = unturned n

  abbrev Turned : Node Entry → Step Entry A F → Type 0
  Turned n step = IsTurned n step.node

  pub timeout_turned : (x : NodeId) (n : Node Entry) → IsTurned n (timeout b x n).node
  unfolding timeout
  timeout_turned x n = go n.role
    where
      stood : IsTurned n (become_candidate b x n)
      stood = turned_then n (enter_view b (n.view + 1) n) _ (enter_turned (n.view + 1) n (omega arith)) (unlogged (enter_view b (n.view + 1) n) _ (omega arith) refl refl (omega arith) refl)

      allowed : (m l : Bool) → Turned n (if m then (if l then outcome.refuse n outcome.ViewLimit else campaign b x (become_candidate b x n)) else outcome.idle n)
      allowed true true = unturned n
      allowed true false = turned_then n (become_candidate b x n) _ stood (lead_turned (become_candidate b x n))
      allowed false l = unturned n

      go : (r : Role) → Turned n (timeout_as b r x n)
      go Leader = unturned n
      go Candidate = allowed (may_campaign b x n) (n.view == last_view)
      go Follower = allowed (may_campaign b x n) (n.view == last_view)

  request_turned : (x c : NodeId) (view : ℕ) (theirs : Position) (n : Node Entry) → Turned n (on_request_vote b x c view theirs n)
  unfolding on_request_vote
  request_turned x c view theirs n =
      by_test (Turned n) (nat_lt view n.view) (reply_to_vote_request b x c false n) (reply_to_vote_request b x c (may_vote_for n.vote c && is_up_to_date theirs (last_signature_position b n.log)) n) (λ d. unturned n)
      (λ d. go (may_vote_for n.vote c && is_up_to_date theirs (last_signature_position b n.log)))
    where
      go : (m : Bool) → Turned n (reply_to_vote_request b x c m n)
      go true = unlogged n _ (omega arith) refl refl (omega arith) refl
      go false = unturned n

  reply_turned : (y : NodeId) (view : ℕ) (granted : Bool) (n : Node Entry) → Turned n (on_vote_reply b y view granted n)
  unfolding on_vote_reply
  reply_turned y view granted n = go n.role
    where
      counted : IsTurned n (count_votes b (add_vote b y n)).node
      counted = turned_then n (add_vote b y n) _ (unlogged n _ (omega arith) refl refl (omega arith) refl) (lead_turned (add_vote b y n))

      go : (r : Role) → Turned n (vote_reply_as b r y view granted n)
      go Leader = unturned n
      go Follower = unturned n
      go Candidate = by_test (Turned n) (granted && (view == n.view)) (count_votes b (add_vote b y n)) (outcome.idle n) (λ d. counted) (λ d. unturned n)

  append_reply_turned : (y : NodeId) (view : ℕ) (ok : Bool) (seqno : ℕ) (n : Node Entry) → Turned n (on_append_reply b y view ok seqno n)
  unfolding on_append_reply
  append_reply_turned y view ok seqno n = go n.role
    where
      inner : (m : Bool) → Turned n (update_progress b m y seqno n)
      inner true = by_test (Turned n) (nat_le seqno (length n.log)) (outcome.quiet (update_match b y seqno n) outcome.Done) (outcome.idle n) (λ d. unlogged n _ (omega arith) refl refl (omega arith) refl) (λ d. unturned n)
      inner false = unlogged n _ (omega arith) refl refl (omega arith) refl

      go : (r : Role) → Turned n (append_reply_as b r y view ok seqno n)
      go Leader = by_test (Turned n) (view == n.view) (update_progress b ok y seqno n) (outcome.idle n) (λ d. inner ok) (λ d. unturned n)
      go Candidate = unturned n
      go Follower = unturned n

  propose_turned : (x : NodeId) (view : ℕ) (n : Node Entry) → Turned n (on_propose_vote b x view n)
  unfolding on_propose_vote
  propose_turned x view n = by_test (Turned n) (nat_lt view n.view) (outcome.idle n) (timeout b x n) (λ d. unturned n) (λ d. timeout_turned x n)

  pub undone_turned : (n : Node Entry) (w : Outcome A F) (step : Step Entry A F) → Turned n step → Turned n (undo_if_refused w n step)
  undone_turned n (outcome.Refused why) step h = unturned n
  undone_turned n outcome.Done step h = h
  undone_turned n outcome.Idle step h = h
  undone_turned n outcome.BecameCandidate step h = h
  undone_turned n outcome.BecameLeader step h = h
  undone_turned n (outcome.Accepted v p a) step h = h
  undone_turned n (outcome.Signed v p) step h = h
  undone_turned n (outcome.Committed v p) step h = h

  -- an answer in a view that isn't below the node's
  by_view : (m : Message Entry) (n : Node Entry) → ((k : Node Entry) → Turned k (answer_as b m.body m.receiver m.sender m.view k)) → Turned n (on_message b m n)
  unfolding on_message
  by_view m n answers = undone_turned n (answer_as b m.body m.receiver m.sender m.view (update_view b m.view n)).outcome (answer_as b m.body m.receiver m.sender m.view (update_view b m.view n))
      (by_test (λ k. Turned n (answer_as b m.body m.receiver m.sender m.view k)) (nat_lt n.view m.view) (enter_view b m.view n) n
      (λ d. let u : n.view < m.view = grind (arith, nat_tests) in turned_then n (enter_view b m.view n) _ (enter_turned m.view n (omega (arith, u))) (answers (enter_view b m.view n)))
      (λ d. answers n))

  abbrev to : NodeId → NodeId → ℕ → Body Entry → Message Entry
  to x y view body = record { sender = y; receiver = x; view = view; body = body }

  pub request_vote_turned : (x y : NodeId) (view : ℕ) (theirs : Position) (n : Node Entry) → Turned n (on_message b (to x y view (RequestVote theirs)) n)
  request_vote_turned x y view theirs n = by_view (to x y view (RequestVote theirs)) n (request_turned x y view theirs)

  pub vote_reply_turned : (x y : NodeId) (view : ℕ) (granted : Bool) (n : Node Entry) → Turned n (on_message b (to x y view (VoteReply granted)) n)
  vote_reply_turned x y view granted n = by_view (to x y view (VoteReply granted)) n (reply_turned y view granted)

  pub append_answer_turned : (x y : NodeId) (view : ℕ) (ok : Bool) (seqno : ℕ) (n : Node Entry) → Turned n (on_message b (to x y view (AppendReply ok seqno)) n)
  append_answer_turned x y view ok seqno n = by_view (to x y view (AppendReply ok seqno)) n (append_reply_turned y view ok seqno)

  pub propose_vote_turned : (x y : NodeId) (view : ℕ) (n : Node Entry) → Turned n (on_message b (to x y view ProposeVote) n)
  propose_vote_turned x y view n = by_view (to x y view ProposeVote) n (propose_turned x view)

  pub reserve_turned : (x : NodeId) (n : Node Entry) → Turned n (reserve b x n)
  unfolding reserve
  reserve_turned x n = by_test (Turned n) (nat_le (b.leaves x) n.reserved) (outcome.refuse n (outcome.KeyExhausted n.reserved)) (outcome.quiet (record n { reserved = n.reserved + 1 }) outcome.Done) (λ d. unturned n)
      (λ d. unlogged n _ (omega arith) refl refl (omega arith) refl)

  -- ---- what a file keeps is as it was

  abbrev Kept : Node Entry → Step Entry A F → Type 0
  Kept n step = IsAsKept n step.node

  led_kept : (n : Node Entry) (step : Step Entry A F) → Kept n step → Kept n (if_leader n step)
  led_kept n step h = go n.role
    where
      go : (r : Role) → Kept n (as_leader r n step)
      go Leader = h
      go Candidate = as_it_was n
      go Follower = as_it_was n

  pub step_down_kept : (x y : NodeId) (n : Node Entry) → Kept n (step_down b x y n)
  unfolding step_down
  step_down_kept x y n = led_kept n (if not (same y x) && in_some y (active b n.log n.commit) then hand_over b x y n else outcome.refuse n outcome.NotPeer) (go (not (same y x) && in_some y (active b n.log n.commit)))
    where
      go : (m : Bool) → Kept n (if m then hand_over b x y n else outcome.refuse n outcome.NotPeer)
      go true = record { view = refl; vote = refl; log = refl; base = refl; reserved = refl; used = refl }
      go false = as_it_was n

  pub replicate_kept : (x y : NodeId) (n : Node Entry) → Kept n (replicate b x y n)
  unfolding replicate
  replicate_kept x y n = led_kept n (if is_peer b x y n then send_append b x y (next_of b n y - 1) n else outcome.refuse n outcome.NotPeer)
      (by_test (Kept n) (is_peer b x y n) (send_append b x y (next_of b n y - 1) n) (outcome.refuse n outcome.NotPeer)
      (λ d. by_test (Kept n) (nat_lt (next_of b n y - 1) n.base) (outcome.refuse n (outcome.BelowBase n.base)) (record { node = n; sent = append_message b x y (next_of b n y - 1) n ∷ []; outcome = outcome.Done }) (λ e. as_it_was n) (λ e. as_it_was n))
      (λ d. as_it_was n))

  pub advance_kept : (x : NodeId) (n : Node Entry) → Kept n (advance b x n)
  unfolding advance
  advance_kept x n = led_kept n (commit_to b n (greatest_to_commit b x n (length n.log))) (go (greatest_to_commit b x n (length n.log)))
    where
      go : (m : Option ℕ) → Kept n (commit_to b n m)
      go None = as_it_was n
      go (Some seqno) = record { view = refl; vote = refl; log = refl; base = refl; reserved = refl; used = refl }

  pub idle_kept : (n : Node Entry) → IsAsKept n n
  idle_kept n = as_it_was n
