-- An entry of a log stood in the opening ledger, or the book made it. So where those are of a kind,
-- each entry of each log is, and each that a message carries.
use Rattle.std.proofs.Common.{◌≡◌, inl, inr, ⊎_elim, ℕ, zero, suc, ◌+◌, ◌-◌, List, [], ◌∷◌, ◌++◌, map, min, length, take, drop, Bool, true, false, ◌&&◌, ◌||◌, not, ◌==◌, nat_lt, nat_le, if◌then◌else◌, Option, Some, None, Result, Ok, Err, slice_get, refl, sym, ◌∙◌, subst}
use Rattle.std.proofs.lemmas.Option.{get_or_from_slice_get}
use Rattle.gl_rules.specs.Identity.{NodeId, same, member}
use Rattle.gl_rules.specs.Book.{Book}
use Rattle.gl_rules.specs.Node.{Node, Role, Follower, Candidate, Leader}
use Rattle.gl_rules.specs.Message.{Position, Message, Body, RequestVote, VoteReply, Append, AppendReply, ProposeVote}
use Rattle.gl_rules.specs.Outcome.{Outcome, Step}
use Rattle.gl_rules.specs.Outcome as outcome
use Rattle.gl_rules.specs.Log.{entry_at, view_at, is_signature_in, last_signature, last_signature_position, is_up_to_date}
use Rattle.gl_rules.specs.Configuration.{active, in_some, others, configurations_above}
use Rattle.gl_rules.specs.Steps.{cut_to, append_entry, enter_view, update_view, has_votes, lead_if, lead_if_elected, as_leader, if_leader}
use Rattle.gl_rules.specs.Elections.{may_vote_for, may_campaign, become_candidate, campaign, last_view, timeout_as, timeout, reply_to_vote_request, on_request_vote, add_vote, count_votes, vote_reply_as, on_vote_reply, on_propose_vote, hand_over, step_down}
use Rattle.gl_rules.specs.Replication.{next_of, is_peer, append_message, send_append, replicate, append_reply, matching_prefix_len, unless_broken, checked_append, highest_possible_match, accept_entries, accept_or_refuse, merge_entries, merge_if_matching, become_follower, append_as, on_append, update_match, update_progress, append_reply_as, on_append_reply, greatest_to_commit, commit_to, advance, restart, snapshot_of, install_snapshot, install}
use Rattle.gl_rules.specs.Requests.{pending_limit, last_count, append_result, execute_request, submit, unless_conflict, finish_as_leader, finish, if_removal_committed, unless_mark_refused, if_markable, govern_as_leader, govern, reserve, append_signature, sign_as_leader, sign, append_evidence, evidence}
use Rattle.gl_rules.specs.World.{Start, Event, Timeout, Deliver, Submit, Finish, Govern, Reserve, Sign, Evidence, Replicate, Advance, StepDown, Restart, Install, World, at, answer_as, undo_if_refused, on_message, deliver, happens, run, begin, after, joiner, starter, leader_at_start}
use Rattle.gl_rules.specs.Safety.{node_at}
use Rattle.gl_rules.proofs.Ids.{by_test, put_all}
use Rattle.gl_rules.proofs.Lists.{within, get_take, drop_get, get_append}
use Rattle.gl_safety.specs.Made.{EachIs, Executed, Governed, Signed, Evident, MakesOnly, OpenedOrMade}
use Rattle.gl_safety.proofs.Batches.{in_batch}

-- lists whose each item is of a kind
module _ {X : Type 0} (Kind : X → Type 0) where
  pub each_none : EachIs Kind []
  each_none i x a = absurd (cc)

  pub each_first : (x : X) (xs : List X) → Kind x → EachIs Kind xs → EachIs Kind (x ∷ xs)
  each_first x xs h p zero y a = let q : x ≡ y = cc in subst Kind q h
  each_first x xs h p (suc i) y a = p i y a

  pub each_joined : (xs ys : List X) → EachIs Kind xs → EachIs Kind ys → EachIs Kind (xs ++ ys)
  each_joined xs ys p q i x a = ⊎_elim
      (λ (r : slice_get xs i ≡ Some x). p i x r)
      (λ (r : (j : ℕ) × (i ≡ length xs + j) × (slice_get ys j ≡ Some x)). q r.0 x r.2)
      (get_append xs ys i x a)

  pub each_taken : (k : ℕ) (xs : List X) → EachIs Kind xs → EachIs Kind (take k xs)
  each_taken k xs p i x a = p i x (get_take k xs i x a).1

  pub each_dropped : (k : ℕ) (xs : List X) → EachIs Kind xs → EachIs Kind (drop k xs)
  each_dropped k xs p i x a = p (k + i) x (sym (drop_get k xs i (k + i) refl) ∙ a)

-- the entries that a message carries are of a kind
abbrev pub BodyHas : {E : Type 0} → (E → Type 0) → Body E → Type 0
BodyHas Kind (RequestVote last) = Unit {0}
BodyHas Kind (VoteReply granted) = Unit {0}
BodyHas Kind (Append prev entries commit) = EachIs Kind entries
BodyHas Kind (AppendReply ok seqno) = Unit {0}
BodyHas Kind ProposeVote = Unit {0}

abbrev pub Carries : {E : Type 0} → (E → Type 0) → Message E → Type 0
Carries Kind m = BodyHas Kind m.body

-- the entries of each log and of each message ever sent are of a kind
pub record HoldsOnly {E : Type 0} (Kind : E → Type 0) (w : World E) : Type 0 where
  pub logs : (x : NodeId) → EachIs Kind (w.nodes x).log
  pub sent : EachIs (Carries Kind) w.sent

module _ {E Q G R A F : Type 0} {b : Book E Q G R A F} {Kind : E → Type 0} (made : MakesOnly b Kind) where
  abbrev Has : Node E → Type 0
  Has n = EachIs Kind n.log

  -- what a step leaves in the log, and sends
  record Leaves (step : Step E A F) : Type 0 where
    log : Has step.node
    sent : EachIs (Carries Kind) step.sent

  -- nothing is sent
  kept : (n : Node E) (w : Outcome A F) → Has n → Leaves (outcome.quiet n w)
  kept n w h = record { log = h; sent = each_none (Carries Kind) }

  -- one message without entries
  reports : (n : Node E) (m : Message E) (w : Outcome A F) → Carries Kind m → Has n → Leaves (record { node = n; sent = m ∷ []; outcome = w })
  reports n m w c h = record { log = h; sent = each_first (Carries Kind) m [] c (each_none (Carries Kind)) }

  pushed : (n : Node E) (e : E) → Kind e → Has n → Has (append_entry n e)
  pushed n e c h = each_joined Kind n.log (e ∷ []) h (each_first Kind e [] c (each_none Kind))

  rises : (view : ℕ) (n : Node E) → Has n → Has (enter_view b view n)
  unfolding enter_view
  rises view n h = each_taken Kind (last_signature b n.log) n.log h

  wins : (n : Node E) → Has n → Has (lead_if_elected b n)
  unfolding lead_if_elected
  wins n h = go (has_votes b n)
    where
      go : (m : Bool) → Has (lead_if b m n)
      go true = h
      go false = h

  leads : (n : Node E) (step : Step E A F) → Has n → Leaves step → Leaves (if_leader n step)
  leads n step h f = go n.role
    where
      go : (r : Role) → Leaves (as_leader r n step)
      go Leader = f
      go Candidate = kept n (outcome.Refused (outcome.NotPrimary n.view n.leader)) h
      go Follower = kept n (outcome.Refused (outcome.NotPrimary n.view n.leader)) h

  -- elections

  requests_carry : (x : NodeId) (view : ℕ) (last : Position) (ys : List NodeId) → EachIs (Carries Kind) (map (λ y. record { sender = x; receiver = y; view = view; body = RequestVote last }) ys)
  requests_carry x view last [] = each_none (Carries Kind)
  requests_carry x view last (y ∷ ys) = each_first (Carries Kind) (record { sender = x; receiver = y; view = view; body = RequestVote last }) (map (λ z. record { sender = x; receiver = z; view = view; body = RequestVote last }) ys) tt (requests_carry x view last ys)

  campaigns : (x : NodeId) (n : Node E) → Has n → Leaves (campaign b x n)
  campaigns x n h = record { log = wins n h; sent = requests_carry x n.view (last_signature_position b n.log) (others b x n) }

  timeout_leaves : (x : NodeId) (n : Node E) → Has n → Leaves (timeout b x n)
  unfolding timeout
  timeout_leaves x n h = go n.role
    where
      allowed : (m l : Bool) → Leaves (if m then (if l then outcome.refuse n outcome.ViewLimit else campaign b x (become_candidate b x n)) else outcome.idle n)
      allowed true true = kept n (outcome.Refused outcome.ViewLimit) h
      allowed true false = campaigns x (become_candidate b x n) (rises (n.view + 1) n h)
      allowed false l = kept n outcome.Idle h

      go : (r : Role) → Leaves (timeout_as b r x n)
      go Leader = kept n outcome.Idle h
      go Candidate = allowed (may_campaign b x n) (n.view == last_view)
      go Follower = allowed (may_campaign b x n) (n.view == last_view)

  request_leaves : (x c : NodeId) (view : ℕ) (theirs : Position) (n : Node E) → Has n → Leaves (on_request_vote b x c view theirs n)
  unfolding on_request_vote
  request_leaves x c view theirs n h = by_test Leaves (nat_lt view n.view) (reply_to_vote_request b x c false n) (reply_to_vote_request b x c (may_vote_for n.vote c && is_up_to_date theirs (last_signature_position b n.log)) n)
      (λ d. go false) (λ d. go (may_vote_for n.vote c && is_up_to_date theirs (last_signature_position b n.log)))
    where
      go : (m : Bool) → Leaves (reply_to_vote_request b x c m n)
      go true = reports (record n { vote = Some c }) (record { sender = x; receiver = c; view = n.view; body = VoteReply true }) outcome.Done tt h
      go false = reports n (record { sender = x; receiver = c; view = n.view; body = VoteReply false }) outcome.Done tt h

  reply_leaves : (y : NodeId) (view : ℕ) (granted : Bool) (n : Node E) → Has n → Leaves (on_vote_reply b y view granted n)
  unfolding on_vote_reply
  reply_leaves y view granted n h = go n.role
    where
      go : (r : Role) → Leaves (vote_reply_as b r y view granted n)
      go Leader = kept n outcome.Idle h
      go Follower = kept n outcome.Idle h
      go Candidate = by_test Leaves (granted && (view == n.view)) (count_votes b (add_vote b y n)) (outcome.idle n)
          (λ d. record { log = wins (add_vote b y n) h; sent = each_none (Carries Kind) })
          (λ d. kept n outcome.Idle h)

  propose_leaves : (x : NodeId) (view : ℕ) (n : Node E) → Has n → Leaves (on_propose_vote b x view n)
  unfolding on_propose_vote
  propose_leaves x view n h = by_test Leaves (nat_lt view n.view) (outcome.idle n) (timeout b x n) (λ d. kept n outcome.Idle h) (λ d. timeout_leaves x n h)

  step_down_leaves : (x y : NodeId) (n : Node E) → Has n → Leaves (step_down b x y n)
  unfolding step_down
  step_down_leaves x y n h = leads n (if not (same y x) && in_some y (active b n.log n.commit) then hand_over b x y n else outcome.refuse n outcome.NotPeer) h
      (by_test Leaves (not (same y x) && in_some y (active b n.log n.commit)) (hand_over b x y n) (outcome.refuse n outcome.NotPeer)
      (λ d. reports (record n { role = Follower; leader = None }) (record { sender = x; receiver = y; view = n.view; body = ProposeVote }) outcome.Done tt h)
      (λ d. kept n (outcome.Refused outcome.NotPeer) h))

  -- requests

  result_leaves : (n : Node E) (m : Result (E × A) F) → ((e : E) (a : A) → m ≡ Ok (e, a) → Kind e) → Has n → Leaves (append_result b n m)
  result_leaves n (Err why) f h = kept n (outcome.Refused (outcome.ByLedger why)) h
  result_leaves n (Ok r) f h = record { log = pushed n r.0 (f r.0 r.1 refl) h; sent = each_none (Carries Kind) }

  execute_leaves : (q : Q) (n : Node E) → Has n → Leaves (execute_request b q n)
  execute_leaves q n h = result_leaves n (b.execute n.log n.view q) (λ e a d. made e (Executed n.log n.view q a d)) h

  submit_leaves : (q : Q) (n : Node E) → Has n → Leaves (submit b q n)
  unfolding submit
  submit_leaves q n h = leads n (execute_request b q n) h (execute_leaves q n h)

  finish_leaves : (len cuts : ℕ) (reads : R) (q : Q) (n : Node E) → Has n → Leaves (finish b len cuts reads q n)
  unfolding finish
  finish_leaves len cuts reads q n h = leads n (finish_as_leader b len cuts reads q n) h (go (not (n.cuts == cuts) || (n.cuts == last_count)) (b.conflict n.base n.log len reads))
    where
      go : (m : Bool) (c : Option F) → Leaves (if m then outcome.refuse n (outcome.RolledBack cuts n.cuts) else unless_conflict b c n (execute_request b q n))
      go true c = kept n (outcome.Refused (outcome.RolledBack cuts n.cuts)) h
      go false None = execute_leaves q n h
      go false (Some why) = kept n (outcome.Refused (outcome.ByLedger why)) h

  govern_leaves : (q : G) (n : Node E) → Has n → Leaves (govern b q n)
  unfolding govern
  govern_leaves q n h = leads n (govern_as_leader b q n) h (go (nat_le pending_limit (length (configurations_above b n.log n.commit (length n.log)))) (b.marked_node q))
    where
      governs : Leaves (append_result b n (b.govern n.log n.view q))
      governs = result_leaves n (b.govern n.log n.view q) (λ e a d. made e (Governed n.log n.view q a d)) h

      late : (m : Option ℕ) → Leaves (if_removal_committed b m n (append_result b n (b.govern n.log n.view q)))
      late None = governs
      late (Some seqno) = by_test Leaves (nat_lt n.commit seqno) (outcome.refuse n (outcome.RemovalNotCommitted seqno n.commit)) (append_result b n (b.govern n.log n.view q))
          (λ d. kept n (outcome.Refused (outcome.RemovalNotCommitted seqno n.commit)) h) (λ d. governs)

      inner : (y : NodeId) (m : Option F) → Leaves (unless_mark_refused b m y n (append_result b n (b.govern n.log n.view q)))
      inner y (Some why) = kept n (outcome.Refused (outcome.ByLedger why)) h
      inner y None = late (b.removal n.log y)

      go : (m : Bool) (c : Option NodeId) → Leaves (if m then outcome.refuse n (outcome.TooManyPending pending_limit) else if_markable b c n (append_result b n (b.govern n.log n.view q)))
      go true c = kept n (outcome.Refused (outcome.TooManyPending pending_limit)) h
      go false None = governs
      go false (Some y) = inner y (b.mark_refusal n.log y)

  reserve_leaves : (x : NodeId) (n : Node E) → Has n → Leaves (reserve b x n)
  unfolding reserve
  reserve_leaves x n h = by_test Leaves (nat_le (b.leaves x) n.reserved) (outcome.refuse n (outcome.KeyExhausted n.reserved)) (outcome.quiet (record n { reserved = n.reserved + 1 }) outcome.Done)
      (λ d. kept n (outcome.Refused (outcome.KeyExhausted n.reserved)) h) (λ d. kept (record n { reserved = n.reserved + 1 }) outcome.Done h)

  sign_leaves : (x : NodeId) (n : Node E) → Has n → Leaves (sign b x n)
  unfolding sign
  sign_leaves x n h = leads n (sign_as_leader b x n) h (go (n.used == n.reserved) (is_signature_in b n.view (entry_at n.log (length n.log))) (b.sign x n.used n.log n.view n.commit) refl)
    where
      go : (s t : Bool) (m : Result E F) → b.sign x n.used n.log n.view n.commit ≡ m → Leaves (if s then outcome.refuse n (outcome.NotReserved n.reserved) else (if t then outcome.refuse n (outcome.NothingToSign (length n.log)) else append_signature b n m))
      go true t m d = kept n (outcome.Refused (outcome.NotReserved n.reserved)) h
      go false true m d = kept n (outcome.Refused (outcome.NothingToSign (length n.log))) h
      go false false (Err why) d = kept n (outcome.Refused (outcome.ByLedger why)) h
      go false false (Ok e) d = record { log = pushed n e (made e (Signed x n.used n.log n.view n.commit d)) h; sent = each_none (Carries Kind) }

  evidence_leaves : (n : Node E) → Has n → Leaves (evidence b n)
  unfolding evidence
  evidence_leaves n h = leads n (append_evidence b n (b.evidence n.log n.view)) h (go (b.evidence n.log n.view) refl)
    where
      go : (m : Result E F) → b.evidence n.log n.view ≡ m → Leaves (append_evidence b n m)
      go (Err why) d = kept n (outcome.Refused (outcome.ByLedger why)) h
      go (Ok e) d = record { log = pushed n e (made e (Evident n.log n.view d)) h; sent = each_none (Carries Kind) }

  -- replication

  replicate_leaves : (x y : NodeId) (n : Node E) → Has n → Leaves (replicate b x y n)
  unfolding replicate
  replicate_leaves x y n h = leads n (if is_peer b x y n then send_append b x y (next_of b n y - 1) n else outcome.refuse n outcome.NotPeer) h
      (by_test Leaves (is_peer b x y n) (send_append b x y (next_of b n y - 1) n) (outcome.refuse n outcome.NotPeer)
      (λ d. by_test Leaves (nat_lt (next_of b n y - 1) n.base) (outcome.refuse n (outcome.BelowBase n.base)) (record { node = n; sent = append_message b x y (next_of b n y - 1) n ∷ []; outcome = outcome.Done })
      (λ e. kept n (outcome.Refused (outcome.BelowBase n.base)) h)
      (λ e. out (next_of b n y - 1)))
      (λ d. kept n (outcome.Refused outcome.NotPeer) h))
    where
      out : (suffix : ℕ) → Leaves (record { node = n; sent = append_message b x y suffix n ∷ []; outcome = outcome.Done })
      out suffix = reports n (append_message b x y suffix n) outcome.Done (λ i e a. each_dropped Kind suffix n.log h i e (in_batch b (drop suffix n.log) i e a)) h

  appended : (base : ℕ) (log es r : List E) → checked_append b base log es ≡ Ok r → EachIs Kind log → EachIs Kind es → EachIs Kind r
  unfolding checked_append
  appended base log [] r a h p = let q : log ≡ r = cc in subst (EachIs Kind) q h
  appended base log (e ∷ es) r a h p = go (b.breaks base log e) a (appended base (log ++ e ∷ []) es r)
    where
      go : (m : Option F) → unless_broken b m (checked_append b base (log ++ e ∷ []) es) ≡ Ok r → (checked_append b base (log ++ e ∷ []) es ≡ Ok r → EachIs Kind (log ++ e ∷ []) → EachIs Kind es → EachIs Kind r) → EachIs Kind r
      go None d again = again d (each_joined Kind log (e ∷ []) h (each_first Kind e [] (p 0 e refl) (each_none Kind))) (λ i x c. p (suc i) x c)
      go (Some why) d again = absurd (cc)

  module _ (x y : NodeId) (prev : Position) (es : List E) (theirs : ℕ) (carried : EachIs Kind es) where
    accepts : (seqno : ℕ) (n : Node E) → Has n → Leaves (accept_entries b x y seqno theirs n)
    accepts seqno n h = record { log = h; sent = each_first (Carries Kind) (record { sender = x; receiver = y; view = n.view; body = AppendReply true seqno }) [] tt (each_none (Carries Kind)) }

    extends : (held : ℕ) (n : Node E) (m : Result (List E) F) → checked_append b n.base (take (prev.seqno + held) n.log) (drop held es) ≡ m → Has n →
        Leaves (accept_or_refuse b n x y (prev.seqno + length es) theirs (cut_to (prev.seqno + held) n) m)
    extends held n (Err why) d h = kept n (outcome.Refused (outcome.ByLedger why)) h
    extends held n (Ok log) d h = accepts (prev.seqno + length es) (record (cut_to (prev.seqno + held) n) { log = log })
        (appended n.base (take (prev.seqno + held) n.log) (drop held es) log d (each_taken Kind (prev.seqno + held) n.log h) (each_dropped Kind held es carried))

    merges : (held : ℕ) (n : Node E) → Has n → Leaves (merge_entries b x y prev.seqno es held theirs n)
    merges held n h = go (held == length es) (nat_lt (prev.seqno + held) (length n.log) && nat_lt (prev.seqno + held) n.commit)
      where
        go : (s t : Bool) → Leaves (if s then accept_entries b x y (prev.seqno + length es) theirs n else (if t then outcome.refuse n (outcome.BelowCommit n.commit (prev.seqno + held)) else accept_or_refuse b n x y (prev.seqno + length es) theirs (cut_to (prev.seqno + held) n) (checked_append b n.base (take (prev.seqno + held) n.log) (drop held es))))
        go true t = accepts (prev.seqno + length es) n h
        go false true = kept n (outcome.Refused (outcome.BelowCommit n.commit (prev.seqno + held))) h
        go false false = extends held n (checked_append b n.base (take (prev.seqno + held) n.log) (drop held es)) refl h

    replies : (seqno : ℕ) (n : Node E) → Has n → Leaves (record { node = n; sent = append_reply b x y false seqno n; outcome = outcome.Done })
    replies seqno n h = reports n (record { sender = x; receiver = y; view = n.view; body = AppendReply false seqno }) outcome.Done tt h

    follows : (n : Node E) → Has n → Leaves (merge_if_matching b x y prev es theirs n)
    follows n h = by_test Leaves ((prev.seqno == 0) || (nat_le prev.seqno (length n.log) && (view_at b n.log prev.seqno == prev.view)))
        (merge_entries b x y prev.seqno es (matching_prefix_len b (drop prev.seqno n.log) es) theirs n)
        (record { node = n; sent = append_reply b x y false (highest_possible_match b n.log prev.view (min (prev.seqno - 1) (length n.log))) n; outcome = outcome.Done })
        (λ d. merges (matching_prefix_len b (drop prev.seqno n.log) es) n h)
        (λ d. replies (highest_possible_match b n.log prev.view (min (prev.seqno - 1) (length n.log))) n h)

    append_leaves : (view : ℕ) (n : Node E) → Has n → Leaves (on_append b x y view prev es theirs n)
    unfolding on_append
    append_leaves view n h = by_test Leaves (nat_lt view n.view) (record { node = n; sent = append_reply b x y false 0 n; outcome = outcome.Done }) (append_as b n.role x y prev es theirs n)
        (λ d. replies 0 n h) (λ d. go n.role)
      where
        go : (r : Role) → Leaves (append_as b r x y prev es theirs n)
        go Leader = kept n outcome.Idle h
        go Candidate = follows (become_follower b y n) h
        go Follower = follows (become_follower b y n) h

  append_reply_leaves : (y : NodeId) (view : ℕ) (ok : Bool) (seqno : ℕ) (n : Node E) → Has n → Leaves (on_append_reply b y view ok seqno n)
  unfolding on_append_reply
  append_reply_leaves y view ok seqno n h = go n.role
    where
      inner : (m : Bool) → Leaves (update_progress b m y seqno n)
      inner true = by_test Leaves (nat_le seqno (length n.log)) (outcome.quiet (update_match b y seqno n) outcome.Done) (outcome.idle n)
          (λ d. kept (update_match b y seqno n) outcome.Done h) (λ d. kept n outcome.Idle h)
      inner false = record { log = h; sent = each_none (Carries Kind) }

      go : (r : Role) → Leaves (append_reply_as b r y view ok seqno n)
      go Leader = by_test Leaves (view == n.view) (update_progress b ok y seqno n) (outcome.idle n) (λ d. inner ok) (λ d. kept n outcome.Idle h)
      go Candidate = kept n outcome.Idle h
      go Follower = kept n outcome.Idle h

  advance_leaves : (x : NodeId) (n : Node E) → Has n → Leaves (advance b x n)
  unfolding advance
  advance_leaves x n h = leads n (commit_to b n (greatest_to_commit b x n (length n.log))) h (go (greatest_to_commit b x n (length n.log)))
    where
      go : (m : Option ℕ) → Leaves (commit_to b n m)
      go None = kept n outcome.Idle h
      go (Some seqno) = record { log = h; sent = each_none (Carries Kind) }

  restart_leaves : (n : Node E) → Has n → Leaves (restart b n)
  unfolding restart
  restart_leaves n h = record { log = h; sent = each_none (Carries Kind) }

  install_leaves : (m n : Node E) → Has m → Has n → Leaves (install b m n)
  unfolding install
  install_leaves m n p h = by_test Leaves (length n.log == 0) (install_snapshot b m (snapshot_of b m) n) (outcome.idle n) (λ d. go (snapshot_of b m)) (λ d. kept n outcome.Idle h)
    where
      go : (k : Option ℕ) → Leaves (install_snapshot b m k n)
      go None = kept n (outcome.Refused (outcome.NoLaterSignature m.commit)) h
      go (Some i) = record { log = each_taken Kind (i - 1) m.log p; sent = each_none (Carries Kind) }

  -- a message

  answer_leaves : (p : Body E) (x y : NodeId) (view : ℕ) (n : Node E) → BodyHas Kind p → Has n → Leaves (answer_as b p x y view n)
  answer_leaves (RequestVote theirs) x y view n c h = request_leaves x y view theirs n h
  answer_leaves (VoteReply granted) x y view n c h = reply_leaves y view granted n h
  answer_leaves (Append prev es theirs) x y view n c h = append_leaves x y prev es theirs c view n h
  answer_leaves (AppendReply ok seqno) x y view n c h = append_reply_leaves y view ok seqno n h
  answer_leaves ProposeVote x y view n c h = propose_leaves x view n h

  undo_leaves : (n : Node E) (w : Outcome A F) (step : Step E A F) → Has n → Leaves step → Leaves (undo_if_refused w n step)
  undo_leaves n (outcome.Refused why) step h f = kept n (outcome.Refused why) h
  undo_leaves n outcome.Done step h f = f
  undo_leaves n outcome.Idle step h f = f
  undo_leaves n outcome.BecameCandidate step h f = f
  undo_leaves n outcome.BecameLeader step h f = f
  undo_leaves n (outcome.Accepted v p a) step h f = f
  undo_leaves n (outcome.Signed v p) step h f = f
  undo_leaves n (outcome.Committed v p) step h f = f

  message_leaves : (m : Message E) (n : Node E) → Carries Kind m → Has n → Leaves (on_message b m n)
  unfolding on_message
  message_leaves m n c h = undo_leaves n (answer_as b m.body m.receiver m.sender m.view (update_view b m.view n)).outcome (answer_as b m.body m.receiver m.sender m.view (update_view b m.view n)) h
      (answer_leaves m.body m.receiver m.sender m.view (update_view b m.view n) c
      (by_test Has (nat_lt n.view m.view) (enter_view b m.view n) n (λ d. rises m.view n h) (λ d. h)))

  -- the world

  holds_at : (w : World E) (x : NodeId) (step : Step E A F) → HoldsOnly Kind w → Leaves step → HoldsOnly Kind (at w x step).world
  holds_at w x step k r = record {
    logs = put_all (λ y n. EachIs Kind n.log) w.nodes x step.node r.log (λ y d. k.logs y);
    sent = each_joined (Carries Kind) w.sent step.sent k.sent r.sent;
  }

  -- an event
  pub holds_event : (w : World E) (event : Event Q G R) → HoldsOnly Kind w → HoldsOnly Kind (happens b w event).world
  unfolding happens
  holds_event w (Timeout x) k = holds_at w x (timeout b x (w.nodes x)) k (timeout_leaves x (w.nodes x) (k.logs x))
  holds_event w (Deliver which) k = go (slice_get w.sent which) refl
    where
      go : (m : Option (Message E)) → slice_get w.sent which ≡ m → HoldsOnly Kind (deliver b w m).world
      go None d = k
      go (Some m) d = holds_at w m.receiver (on_message b m (w.nodes m.receiver)) k (message_leaves m (w.nodes m.receiver) (k.sent which m d) (k.logs m.receiver))
  holds_event w (Submit x q) k = holds_at w x (submit b q (w.nodes x)) k (submit_leaves q (w.nodes x) (k.logs x))
  holds_event w (Finish x len cuts reads q) k = holds_at w x (finish b len cuts reads q (w.nodes x)) k (finish_leaves len cuts reads q (w.nodes x) (k.logs x))
  holds_event w (Govern x q) k = holds_at w x (govern b q (w.nodes x)) k (govern_leaves q (w.nodes x) (k.logs x))
  holds_event w (Reserve x) k = holds_at w x (reserve b x (w.nodes x)) k (reserve_leaves x (w.nodes x) (k.logs x))
  holds_event w (Sign x) k = holds_at w x (sign b x (w.nodes x)) k (sign_leaves x (w.nodes x) (k.logs x))
  holds_event w (Evidence x) k = holds_at w x (evidence b (w.nodes x)) k (evidence_leaves (w.nodes x) (k.logs x))
  holds_event w (Replicate x y) k = holds_at w x (replicate b x y (w.nodes x)) k (replicate_leaves x y (w.nodes x) (k.logs x))
  holds_event w (Advance x) k = holds_at w x (advance b x (w.nodes x)) k (advance_leaves x (w.nodes x) (k.logs x))
  holds_event w (StepDown x y) k = holds_at w x (step_down b x y (w.nodes x)) k (step_down_leaves x y (w.nodes x) (k.logs x))
  holds_event w (Restart x) k = holds_at w x (restart b (w.nodes x)) k (restart_leaves (w.nodes x) (k.logs x))
  holds_event w (Install x y) k = holds_at w x (install b (w.nodes y) (w.nodes x)) k (install_leaves (w.nodes y) (w.nodes x) (k.logs y) (k.logs x))

  -- a list of events
  pub holds_run : (events : List (Event Q G R)) (w : World E) → HoldsOnly Kind w → HoldsOnly Kind (run b events w)
  unfolding run
  holds_run [] w k = k
  holds_run (event ∷ events) w k = holds_run events (happens b w event).world (holds_event w event k)

  -- the start
  pub holds_first : (s : Start E) → EachIs Kind s.opening → HoldsOnly Kind (begin s)
  holds_first s opening = record { logs = λ x. go (same x s.first) (member x s.starting); sent = each_none (Carries Kind) }
    where
      go : (t u : Bool) → Has (if t then leader_at_start s else (if u then starter s else joiner))
      go true u = opening
      go false true = opening
      go false false = each_none Kind

  -- at any moment
  pub holds_after : (s : Start E) → EachIs Kind s.opening → (events : List (Event Q G R)) → HoldsOnly Kind (after b s events)
  holds_after s opening events = holds_run events (begin s) (holds_first s opening)

  pub each_of_kind : (s : Start E) → EachIs Kind s.opening → (events : List (Event Q G R)) (i : ℕ) (x : NodeId) → EachIs Kind (node_at b s events i x).log
  each_of_kind s opening events i x = (holds_after s opening (take i events)).logs x

-- the least of those kinds
pub each_made : {E Q G R A F : Type 0} (b : Book E Q G R A F) (s : Start E) (events : List (Event Q G R)) (i : ℕ) (x : NodeId) → EachIs (OpenedOrMade b s) (node_at b s events i x).log
each_made b s events i x = each_of_kind {Kind = OpenedOrMade b s} (λ e m. inr m) s (λ j e a. inl (j, within s.opening j e a, get_or_from_slice_get s.opening j e e a)) events i x
