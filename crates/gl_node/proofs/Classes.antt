-- How much each kind of event may change.
use Rattle.std.proofs.Common.{◌≡◌, ◌⊎◌, inl, inr, ℕ, Bool, true, if◌then◌else◌, sym, ap, subst}
use Rattle.gl_base.specs.declared.tx_id.TxId.{TxId}
use Rattle.gl_entry.specs.declared.entry.Entry.{Entry}
use Rattle.gl_rules.specs.Identity.{NodeId, same}
use Rattle.gl_rules.specs.Book.{Book}
use Rattle.gl_rules.specs.Node.{Node}
use Rattle.gl_rules.specs.Outcome.{Step, idle}
use Rattle.gl_messages.specs.declared.message.Body.{Body}
use Rattle.gl_messages.specs.declared.message.Body.TheVariants.{RequestVote, VoteReply, AppendReply, ProposeVote}
use Rattle.gl_messages.specs.declared.message.Message.{Message}
use Rattle.gl_election.specs.Elections.{position}
use Rattle.gl_replication.specs.Events.{answer, delivery, rule_of}
use Rattle.gl_replication.specs.declared.event.Event.{Event}
use Rattle.gl_replication.specs.declared.event.Event.TheVariants as events
use Rattle.gl_node.specs.Changes.{Extends, IsAsKept, IsTurned, MayChange, TakesEntries}
use Rattle.gl_node.specs.declared.change.Change.{Change}
use Rattle.gl_node.specs.declared.change.Change.TheVariants as changes
use Rattle.gl_node.proofs.ElectionSteps.{timeout_turned, request_vote_turned, vote_reply_turned, append_answer_turned, propose_vote_turned, reserve_turned, step_down_kept, replicate_kept, advance_kept}
use Rattle.gl_node.proofs.Extending.{submit_adds, govern_adds, sign_adds, evidence_adds}

module _ {Q G R A F : Type 0} where
  abbrev Heard : Book Entry Q G R A F → NodeId → Node Entry → Message → Body → Type 0
  Heard b x n m body = IsTurned n (answer (record m { body = body }) b x n).node

  -- each message but a leader's entries
  pub hears : (m : Message) → ((last : TxId) × (m.body ≡ RequestVote last)) ⊎ (((granted : Bool) × (m.body ≡ VoteReply granted)) ⊎ (((ok : Bool) × (seqno : ℕ) × (m.body ≡ AppendReply ok seqno)) ⊎ (m.body ≡ ProposeVote))) →
      (x : NodeId) → MayChange {Q = Q} {G = G} {R = R} {A = A} {F = F} (answer m) x changes.ElectionStep
  hears m is x b n = by is
    where
      by : ((last : TxId) × (m.body ≡ RequestVote last)) ⊎ (((granted : Bool) × (m.body ≡ VoteReply granted)) ⊎ (((ok : Bool) × (seqno : ℕ) × (m.body ≡ AppendReply ok seqno)) ⊎ (m.body ≡ ProposeVote))) → Heard b x n m m.body
      by (inl r) = subst (Heard b x n m) (sym r.1) (request_vote_turned b x m.from m.view (position r.0) n)
      by (inr (inl r)) = subst (Heard b x n m) (sym r.1) (vote_reply_turned b x m.from m.view r.0 n)
      by (inr (inr (inl r))) = subst (Heard b x n m) (sym r.2) (append_answer_turned b x m.from m.view r.0 r.1 n)
      by (inr (inr (inr r))) = subst (Heard b x n m) (sym r) (propose_vote_turned b x m.from m.view n)

module _ {S Q G R A F : Type 0} (x : NodeId) (e : Event S Q G R A F) where
  pub brings_entry : ((q : Q) × (e ≡ events.Submit q)) ⊎ (((q : G) × (e ≡ events.Govern q)) ⊎ ((e ≡ events.Sign) ⊎ (e ≡ events.Evidence))) → MayChange (rule_of e) x changes.Entry
  brings_entry (inl r) = subst (λ (v : Event S Q G R A F). MayChange (rule_of v) x changes.Entry) (sym r.1) (λ b n. submit_adds b r.0 n)
  brings_entry (inr (inl r)) = subst (λ (v : Event S Q G R A F). MayChange (rule_of v) x changes.Entry) (sym r.1) (λ b n. govern_adds b r.0 n)
  brings_entry (inr (inr (inl r))) = subst (λ (v : Event S Q G R A F). MayChange (rule_of v) x changes.Entry) (sym r) (λ b n. sign_adds b x n)
  brings_entry (inr (inr (inr r))) = subst (λ (v : Event S Q G R A F). MayChange (rule_of v) x changes.Entry) (sym r) (λ b n. evidence_adds b n)

  pub turns : (e ≡ events.Timeout) ⊎ (e ≡ events.Reserve) → MayChange (rule_of e) x changes.ElectionStep
  turns (inl r) = subst (λ (v : Event S Q G R A F). MayChange (rule_of v) x changes.ElectionStep) (sym r) (λ b n. timeout_turned b x n)
  turns (inr r) = subst (λ (v : Event S Q G R A F). MayChange (rule_of v) x changes.ElectionStep) (sym r) (λ b n. reserve_turned b x n)

  pub keeps_all : ((y : NodeId) × (e ≡ events.Replicate y)) ⊎ ((e ≡ events.Advance) ⊎ ((y : NodeId) × (e ≡ events.StepDown y))) → MayChange (rule_of e) x changes.Nothing
  keeps_all (inl r) = subst (λ (v : Event S Q G R A F). MayChange (rule_of v) x changes.Nothing) (sym r.1) (λ b n. replicate_kept b x r.0 n)
  keeps_all (inr (inl r)) = subst (λ (v : Event S Q G R A F). MayChange (rule_of v) x changes.Nothing) (sym r) (λ b n. advance_kept b x n)
  keeps_all (inr (inr r)) = subst (λ (v : Event S Q G R A F). MayChange (rule_of v) x changes.Nothing) (sym r.1) (λ b n. step_down_kept b x r.0 n)

  -- a message to this node
  pub delivered : (m : Message) → e ≡ events.Message m → same m.to x ≡ true → (change : Change) → MayChange {Q = Q} {G = G} {R = R} {A = A} {F = F} (answer m) x change → MayChange (rule_of e) x change
  delivered m is here change may = subst (λ (v : Event S Q G R A F). MayChange (rule_of v) x change) (sym is) (go change may)
    where
      same_step : (b : Book Entry Q G R A F) (n : Node Entry) → answer m b x n ≡ delivery m b x n
      same_step b n = sym (ap {B = Step Entry A F} (λ (t : Bool). if t then answer m b x n else idle n) here)

      go : (c : Change) → MayChange {Q = Q} {G = G} {R = R} {A = A} {F = F} (answer m) x c → MayChange {Q = Q} {G = G} {R = R} {A = A} {F = F} (delivery m) x c
      go changes.Nothing h = λ b n. subst (λ (s : Step Entry A F). IsAsKept n s.node) (same_step b n) (h b n)
      go changes.ElectionStep h = λ b n. subst (λ (s : Step Entry A F). IsTurned n s.node) (same_step b n) (h b n)
      go (changes.Entries view prev es) h = λ b n. subst (λ (s : Step Entry A F). TakesEntries b x n view prev es.now s) (same_step b n) (h b n)
      go changes.Entry h = λ b n. subst (λ (s : Step Entry A F). Extends n s) (same_step b n) (h b n)
