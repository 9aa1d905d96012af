-- An answer to a leader's entries, from the message to its branches.
use Rattle.std.proofs.Common.{◌≡◌, ◌≤◌, ◌<◌, ℕ, [], ◌==◌, Bool, true, false, nat_lt, nat_le, length, if◌then◌else◌, refl, sym, ap, ◌∙◌, arith}
use Rattle.std.proofs.lemmas.Bool.Decides.{nat_tests}
use Rattle.gl_rules.specs.Identity.{NodeId}
use Rattle.gl_rules.specs.Book.{Book}
use Rattle.gl_rules.specs.Node.{Node}
use Rattle.gl_rules.specs.Node as rules
use Rattle.gl_rules.specs.Message.{AppendReply}
use Rattle.gl_rules.specs.Outcome.{Step}
use Rattle.gl_rules.specs.Outcome as outcomes
use Rattle.gl_rules.specs.Replication.{append_reply_as, lower_next, on_append_reply, update_match, update_progress}
use Rattle.gl_rules.specs.Steps.{enter_view, update_view}
use Rattle.gl_rules.specs.World.{on_message, undo_if_refused}
use Rattle.gl_election.specs.Bridge.{message_to}

module _ {E Q G R A F : Type 0} (b : Book E Q G R A F) (x y : NodeId) (view : ℕ) (ok : Bool) (seqno : ℕ) (n : Node E) where
  pub reply_above : n.view < view → on_message b (message_to x y view (AppendReply ok seqno)) n ≡ record { node = update_view b view n; sent = []; outcome = outcomes.Idle }
  unfolding on_message on_append_reply enter_view
  reply_above h =
      let t : nat_lt n.view view ≡ true = grind (arith, nat_tests) in
      ap {B = Step E A F} (λ k. let m = if k then enter_view b view n else n in let step = append_reply_as b m.role y view ok seqno m in undo_if_refused step.outcome n step) t
      ∙ ap {B = Step E A F} (λ k. record { node = if k then enter_view b view n else n; sent = []; outcome = outcomes.Idle }) (sym t)

  -- at a view that isn't above the node's
  unrisen : view ≤ n.view → on_message b (message_to x y view (AppendReply ok seqno)) n ≡ (let step = append_reply_as b n.role y view ok seqno n in undo_if_refused step.outcome n step)
  unfolding on_message on_append_reply
  unrisen h =
      let t : nat_lt n.view view ≡ false = grind (arith, nat_tests) in
      ap {B = Step E A F} (λ k. let m = if k then enter_view b view n else n in let step = append_reply_as b m.role y view ok seqno m in undo_if_refused step.outcome n step) t

  progress_undone : undo_if_refused (update_progress b ok y seqno n).outcome n (update_progress b ok y seqno n) ≡ update_progress b ok y seqno n
  progress_undone = by ok
    where
      step_by : Bool → Bool → Step E A F
      step_by true t = if t then outcomes.quiet (update_match b y seqno n) outcomes.Done else outcomes.idle n
      step_by false t = outcomes.quiet (lower_next b y seqno n) outcomes.Done

      go : (o t : Bool) → undo_if_refused (step_by o t).outcome n (step_by o t) ≡ step_by o t
      go true true = refl
      go true false = refl
      go false t = refl

      by : (o : Bool) → undo_if_refused (update_progress b o y seqno n).outcome n (update_progress b o y seqno n) ≡ update_progress b o y seqno n
      by true = go true (nat_le seqno (length n.log))
      by false = refl

  pub reply_led : n.view ≡ view → n.role ≡ rules.Leader → on_message b (message_to x y view (AppendReply ok seqno)) n ≡ update_progress b ok y seqno n
  reply_led e l =
      let t : (view == n.view) ≡ true = grind (arith, nat_tests) in
      unrisen (omega (arith, e))
      ∙ ap {B = Step E A F} (λ r. let step = append_reply_as b r y view ok seqno n in undo_if_refused step.outcome n step) l
      ∙ ap {B = Step E A F} (λ k. let step = if k then update_progress b ok y seqno n else outcomes.idle n in undo_if_refused step.outcome n step) t
      ∙ progress_undone

  pub reply_idle : view ≤ n.view → (n.view ≡ view → n.role ≡ rules.Leader → ⊥) → on_message b (message_to x y view (AppendReply ok seqno)) n ≡ record { node = n; sent = []; outcome = outcomes.Idle }
  reply_idle h other = unrisen h ∙ ap {B = Step E A F} (λ step. undo_if_refused step.outcome n step) (go n.role (λ e l. other e l))
    where
      different : (u v : ℕ) → (u ≡ v → ⊥) → (v == u) ≡ false
      different u v f = grind (arith, nat_tests)

      go : (r : rules.Role) → (n.view ≡ view → r ≡ rules.Leader → ⊥) → append_reply_as b r y view ok seqno n ≡ outcomes.idle n
      go rules.Leader free = ap {B = Step E A F} (λ k. if k then update_progress b ok y seqno n else outcomes.idle n) (different n.view view (λ e. free e refl))
      go rules.Candidate free = refl
      go rules.Follower free = refl
