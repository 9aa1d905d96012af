-- What is refused changes nothing.
use Rattle.std.proofs.Common.{◌≡◌, ℕ, ◌+◌, ◌-◌, [], ◌∷◌, ◌++◌, length, Bool, true, false, ◌&&◌, ◌||◌, not, ◌==◌, nat_lt, nat_le, if◌then◌else◌, Option, Some, None, Result, Ok, Err, slice_get, refl, sym, ap, ◌∙◌}
use Rattle.gl_rules.specs.Identity.{NodeId, same}
use Rattle.gl_rules.specs.Book.{Book}
use Rattle.gl_rules.specs.Node.{Node, Role, Follower, Candidate, Leader}
use Rattle.gl_rules.specs.Message.{Message}
use Rattle.gl_rules.specs.Outcome.{Outcome, Step, Refusal, Refused}
use Rattle.gl_rules.specs.Outcome as outcome
use Rattle.gl_rules.specs.Log.{entry_at, is_signature_in}
use Rattle.gl_rules.specs.Configuration.{configurations_above, active, in_some}
use Rattle.gl_rules.specs.Steps.{has_votes, campaign_outcome, as_leader, if_leader, update_view}
use Rattle.gl_rules.specs.Elections.{may_campaign, become_candidate, campaign, last_view, timeout_as, timeout, hand_over, step_down}
use Rattle.gl_rules.specs.Replication.{greatest_to_commit, commit_to, advance, restart, snapshot_of, install_snapshot, install, is_peer, send_append, next_of, append_message, replicate}
use Rattle.gl_rules.specs.Requests.{pending_limit, last_count, append_result, execute_request, submit, unless_conflict, finish_as_leader, finish, if_removal_committed, unless_mark_refused, if_markable, govern_as_leader, govern, reserve, append_signature, sign_as_leader, sign, append_evidence, evidence}
use Rattle.gl_rules.specs.World.{Event, Timeout, Deliver, Submit, Finish, Govern, Reserve, Sign, Evidence, Replicate, Advance, StepDown, Restart, Install, World, at, answer_as, undo_if_refused, on_message, deliver, happens}
use Rattle.gl_rules.specs.Safety.{LeavesAll}
use Rattle.gl_rules.proofs.Ids.{by_test, put_all}
use Rattle.gl_rules.proofs.Lists.{append_none}

module _ {E Q G R A F : Type 0} (b : Book E Q G R A F) where
  -- a step that, where it refuses, leaves the node and sends nothing
  abbrev Keeps : Node E → Step E A F → Type 0
  Keeps n step = (why : Refusal F) → step.outcome ≡ Refused why → (step.node ≡ n) × (step.sent ≡ [])

  leader_keeps : (n : Node E) (step : Step E A F) → Keeps n step → Keeps n (if_leader n step)
  leader_keeps n step k = go n.role
    where
      go : (r : Role) → Keeps n (as_leader r n step)
      go Leader = k
      go Candidate = λ why e. (refl, refl)
      go Follower = λ why e. (refl, refl)

  timeout_keeps : (x : NodeId) (n : Node E) → Keeps n (timeout b x n)
  unfolding timeout
  timeout_keeps x n = go n.role
    where
      stood : (m : Bool) (why : Refusal F) → campaign_outcome b m ≡ Refused why → (⊥)
      stood true why e = cc
      stood false why e = cc

      allowed : (m l : Bool) → Keeps n (if m then (if l then outcome.refuse n outcome.ViewLimit else campaign b x (become_candidate b x n)) else outcome.idle n)
      allowed true true = λ why e. (refl, refl)
      allowed true false = λ why e. absurd (stood (has_votes b (become_candidate b x n)) why e)
      allowed false l = λ why e. (refl, refl)

      go : (r : Role) → Keeps n (timeout_as b r x n)
      go Leader = λ why e. (refl, refl)
      go Candidate = allowed (may_campaign b x n) (n.view == last_view)
      go Follower = allowed (may_campaign b x n) (n.view == last_view)

  kept_keeps : (n : Node E) (w : Outcome A F) (step : Step E A F) → step.outcome ≡ w → Keeps n (undo_if_refused w n step)
  kept_keeps n (Refused why) step d = λ y e. (refl, refl)
  kept_keeps n outcome.Done step d = λ y e. absurd (let z = sym d ∙ e in cc)
  kept_keeps n outcome.Idle step d = λ y e. absurd (let z = sym d ∙ e in cc)
  kept_keeps n outcome.BecameCandidate step d = λ y e. absurd (let z = sym d ∙ e in cc)
  kept_keeps n outcome.BecameLeader step d = λ y e. absurd (let z = sym d ∙ e in cc)
  kept_keeps n (outcome.Accepted v p a) step d = λ y e. absurd (let z = sym d ∙ e in cc)
  kept_keeps n (outcome.Signed v p) step d = λ y e. absurd (let z = sym d ∙ e in cc)
  kept_keeps n (outcome.Committed v p) step d = λ y e. absurd (let z = sym d ∙ e in cc)

  message_keeps : (m : Message E) (n : Node E) → Keeps n (on_message b m n)
  unfolding on_message
  message_keeps m n = kept_keeps n (answer_as b m.body m.receiver m.sender m.view (update_view b m.view n)).outcome (answer_as b m.body m.receiver m.sender m.view (update_view b m.view n)) refl

  step_down_keeps : (x y : NodeId) (n : Node E) → Keeps n (step_down b x y n)
  unfolding step_down
  step_down_keeps x y n = leader_keeps n (if not (same y x) && in_some y (active b n.log n.commit) then hand_over b x y n else outcome.refuse n outcome.NotPeer) (go (not (same y x) && in_some y (active b n.log n.commit)))
    where
      go : (m : Bool) → Keeps n (if m then hand_over b x y n else outcome.refuse n outcome.NotPeer)
      go true = λ why e. absurd (cc)
      go false = λ why e. (refl, refl)

  enters_keeps : (n : Node E) (m : Result (E × A) F) → Keeps n (append_result b n m)
  enters_keeps n (Err why) = λ y e. (refl, refl)
  enters_keeps n (Ok made) = λ y e. absurd (cc)

  submit_keeps : (q : Q) (n : Node E) → Keeps n (submit b q n)
  unfolding submit
  submit_keeps q n = leader_keeps n (execute_request b q n) (enters_keeps n (b.execute n.log n.view q))

  finish_keeps : (len cuts : ℕ) (reads : R) (q : Q) (n : Node E) → Keeps n (finish b len cuts reads q n)
  unfolding finish
  finish_keeps len cuts reads q n = leader_keeps n (finish_as_leader b len cuts reads q n) (go (not (n.cuts == cuts) || (n.cuts == last_count)) (b.conflict n.base n.log len reads))
    where
      go : (m : Bool) (c : Option F) → Keeps n (if m then outcome.refuse n (outcome.RolledBack cuts n.cuts) else unless_conflict b c n (execute_request b q n))
      go true c = λ why e. (refl, refl)
      go false None = enters_keeps n (b.execute n.log n.view q)
      go false (Some y) = λ why e. (refl, refl)

  govern_keeps : (q : G) (n : Node E) → Keeps n (govern b q n)
  unfolding govern
  govern_keeps q n = leader_keeps n (govern_as_leader b q n) (go (nat_le pending_limit (length (configurations_above b n.log n.commit (length n.log)))) (b.marked_node q))
    where
      late : (m : Option ℕ) → Keeps n (if_removal_committed b m n (append_result b n (b.govern n.log n.view q)))
      late None = enters_keeps n (b.govern n.log n.view q)
      late (Some seqno) = by_test (Keeps n) (nat_lt n.commit seqno) (outcome.refuse n (outcome.RemovalNotCommitted seqno n.commit)) (append_result b n (b.govern n.log n.view q)) (λ d why e. (refl, refl)) (λ d. enters_keeps n (b.govern n.log n.view q))

      inner : (y : NodeId) (m : Option F) → Keeps n (unless_mark_refused b m y n (append_result b n (b.govern n.log n.view q)))
      inner y (Some w) = λ why e. (refl, refl)
      inner y None = late (b.removal n.log y)

      go : (m : Bool) (c : Option NodeId) → Keeps n (if m then outcome.refuse n (outcome.TooManyPending pending_limit) else if_markable b c n (append_result b n (b.govern n.log n.view q)))
      go true c = λ why e. (refl, refl)
      go false None = enters_keeps n (b.govern n.log n.view q)
      go false (Some y) = inner y (b.mark_refusal n.log y)

  reserve_keeps : (x : NodeId) (n : Node E) → Keeps n (reserve b x n)
  unfolding reserve
  reserve_keeps x n = by_test (Keeps n) (nat_le (b.leaves x) n.reserved) (outcome.refuse n (outcome.KeyExhausted n.reserved)) (outcome.quiet (record n { reserved = n.reserved + 1 }) outcome.Done) (λ d why e. (refl, refl)) (λ d why e. absurd (cc))

  sign_keeps : (x : NodeId) (n : Node E) → Keeps n (sign b x n)
  unfolding sign
  sign_keeps x n = leader_keeps n (sign_as_leader b x n) (go (n.used == n.reserved) (is_signature_in b n.view (entry_at n.log (length n.log))) (b.sign x n.used n.log n.view n.commit))
    where
      go : (p q : Bool) (m : Result E F) → Keeps n (if p then outcome.refuse n (outcome.NotReserved n.reserved) else (if q then outcome.refuse n (outcome.NothingToSign (length n.log)) else append_signature b n m))
      go true q m = λ why e. (refl, refl)
      go false true m = λ why e. (refl, refl)
      go false false (Err w) = λ why e. (refl, refl)
      go false false (Ok f) = λ why e. absurd (cc)

  evidence_keeps : (n : Node E) → Keeps n (evidence b n)
  unfolding evidence
  evidence_keeps n = leader_keeps n (append_evidence b n (b.evidence n.log n.view)) (go (b.evidence n.log n.view))
    where
      go : (m : Result E F) → Keeps n (append_evidence b n m)
      go (Err w) = λ why e. (refl, refl)
      go (Ok f) = λ why e. absurd (cc)

  replicate_keeps : (x y : NodeId) (n : Node E) → Keeps n (replicate b x y n)
  unfolding replicate
  replicate_keeps x y n = leader_keeps n (if is_peer b x y n then send_append b x y (next_of b n y - 1) n else outcome.refuse n outcome.NotPeer)
      (by_test (Keeps n) (is_peer b x y n) (send_append b x y (next_of b n y - 1) n) (outcome.refuse n outcome.NotPeer)
      (λ d. by_test (Keeps n) (nat_lt (next_of b n y - 1) n.base) (outcome.refuse n (outcome.BelowBase n.base)) (record { node = n; sent = append_message b x y (next_of b n y - 1) n ∷ []; outcome = outcome.Done }) (λ f why e. (refl, refl)) (λ f why e. absurd (cc)))
      (λ d why e. (refl, refl)))

  advance_keeps : (x : NodeId) (n : Node E) → Keeps n (advance b x n)
  unfolding advance
  advance_keeps x n = leader_keeps n (commit_to b n (greatest_to_commit b x n (length n.log))) (go (greatest_to_commit b x n (length n.log)))
    where
      go : (m : Option ℕ) → Keeps n (commit_to b n m)
      go None = λ why e. (refl, refl)
      go (Some seqno) = λ why e. absurd (cc)

  restart_keeps : (n : Node E) → Keeps n (restart b n)
  unfolding restart
  restart_keeps n = λ why e. absurd (cc)

  install_keeps : (m n : Node E) → Keeps n (install b m n)
  unfolding install
  install_keeps m n = by_test (Keeps n) (length n.log == 0) (install_snapshot b m (snapshot_of b m) n) (outcome.idle n) (λ d. go (snapshot_of b m)) (λ d why e. (refl, refl))
    where
      go : (k : Option ℕ) → Keeps n (install_snapshot b m k n)
      go None = λ why e. (refl, refl)
      go (Some i) = λ why e. absurd (cc)

  at_keeps : (w : World E) (x : NodeId) (step : Step E A F) (why : Refusal F) → Keeps (w.nodes x) step → step.outcome ≡ Refused why → LeavesAll w (at w x step).world
  at_keeps w x step why k e =
      let r = k why e in
      record {
        nodes = put_all (λ y n. n ≡ w.nodes y) w.nodes x step.node r.0 (λ y d. refl);
        sent = ap (λ l. w.sent ++ l) r.1 ∙ append_none w.sent;
      }

  -- an event that is refused
  pub leaves_all : (w : World E) (e : Event Q G R) (why : Refusal F) → (happens b w e).outcome ≡ Refused why → LeavesAll w (happens b w e).world
  unfolding happens
  leaves_all w (Timeout x) why d = at_keeps w x (timeout b x (w.nodes x)) why (timeout_keeps x (w.nodes x)) d
  leaves_all w (Deliver which) why d = go (slice_get w.sent which) d
    where
      go : (m : Option (Message E)) → (deliver b w m).outcome ≡ Refused why → LeavesAll w (deliver b w m).world
      go None e = absurd (cc)
      go (Some m) e = at_keeps w m.receiver (on_message b m (w.nodes m.receiver)) why (message_keeps m (w.nodes m.receiver)) e
  leaves_all w (Submit x q) why d = at_keeps w x (submit b q (w.nodes x)) why (submit_keeps q (w.nodes x)) d
  leaves_all w (Finish x len cuts reads q) why d = at_keeps w x (finish b len cuts reads q (w.nodes x)) why (finish_keeps len cuts reads q (w.nodes x)) d
  leaves_all w (Govern x q) why d = at_keeps w x (govern b q (w.nodes x)) why (govern_keeps q (w.nodes x)) d
  leaves_all w (Reserve x) why d = at_keeps w x (reserve b x (w.nodes x)) why (reserve_keeps x (w.nodes x)) d
  leaves_all w (Sign x) why d = at_keeps w x (sign b x (w.nodes x)) why (sign_keeps x (w.nodes x)) d
  leaves_all w (Evidence x) why d = at_keeps w x (evidence b (w.nodes x)) why (evidence_keeps (w.nodes x)) d
  leaves_all w (Replicate x y) why d = at_keeps w x (replicate b x y (w.nodes x)) why (replicate_keeps x y (w.nodes x)) d
  leaves_all w (Advance x) why d = at_keeps w x (advance b x (w.nodes x)) why (advance_keeps x (w.nodes x)) d
  leaves_all w (StepDown x y) why d = at_keeps w x (step_down b x y (w.nodes x)) why (step_down_keeps x y (w.nodes x)) d
  leaves_all w (Restart x) why d = at_keeps w x (restart b (w.nodes x)) why (restart_keeps (w.nodes x)) d
  leaves_all w (Install x y) why d = at_keeps w x (install b (w.nodes y) (w.nodes x)) why (install_keeps (w.nodes y) (w.nodes x)) d
