-- A core stands for a node of the rules, under rules and for a ledger of which its store needn't
-- know all.
use Rattle.std.specs.Prelude.{◌<◌, ◌^◌, List, ◌≡◌, ◌≤◌, map}
use Rattle.gl_base.specs.declared.or_no_memory.OrNoMemory.{OrNoMemory}
use Rattle.gl_base.specs.declared.or_no_memory.OrNoMemory.TheVariants.{NoMemory, Fault}
use Rattle.gl_entry.specs.declared.entry.Entry.{Entry}
use Rattle.gl_rules.specs.Identity.{NodeId}
use Rattle.gl_rules.specs.Book.{Book}
use Rattle.gl_rules.specs.Node.{Node}
use Rattle.gl_rules.specs.Outcome.{Step, Refused, NotPrimary, TooManyPending, NotReserved, KeyExhausted, NothingToSign, RemovalNotCommitted, BelowCommit, BelowBase, NotPeer, ViewLimit, NoLaterSignature}
use Rattle.gl_rules.specs.Outcome as outcomes
use Rattle.gl_messages.specs.declared.message.Message.{Message}
use Rattle.gl_election.specs.declared.elected.Elected.{Elected}
use Rattle.gl_election.specs.declared.elected.ElectionRefusal.{ElectionRefusal}
use Rattle.gl_election.specs.declared.elected.ElectionRefusal.TheVariants as faults
use Rattle.gl_election.specs.Bridge.{seen_message, with_peer, begin_leading, cut_if_rose}
use Rattle.gl_election.specs.Bridge as elections
use Rattle.gl_replication.specs.declared.node.Core.{Core}
use Rattle.gl_replication.specs.declared.done.Done.{Done}
use Rattle.gl_replication.specs.declared.done.Outcome.{Outcome}
use Rattle.gl_replication.specs.declared.done.Outcome.TheVariants as answers
use Rattle.gl_replication.specs.declared.done.Refusal.{Refusal}
use Rattle.gl_replication.specs.declared.done.Refusal.TheVariants as refusals
use Rattle.gl_replication.specs.Holding.{Holding}
use Rattle.gl_replication.specs.Pairs.{held, tried}

-- What a store is to hold for a node.
abbrev pub held_by : NodeId → Node Entry → Holding Entry
held_by x n = record { me = x; base = n.base; log = n.log }

module _ {A F : Type 0} where
  abbrev pub seen_outcome : Outcome A → outcomes.Outcome A F
  seen_outcome answers.Done = outcomes.Done
  seen_outcome answers.Idle = outcomes.Idle
  seen_outcome answers.BecameCandidate = outcomes.BecameCandidate
  seen_outcome answers.BecameLeader = outcomes.BecameLeader
  seen_outcome (answers.Accepted view seqno answer) = outcomes.Accepted view seqno answer
  seen_outcome (answers.Signed view seqno) = outcomes.Signed view seqno
  seen_outcome (answers.Committed view seqno) = outcomes.Committed view seqno

module _ {S Q G R A F : Type 0} where
  -- A node with what the core itself keeps.
  abbrev pub seen : Core S Q G R A F → Node Entry → Node Entry
  seen c n = record (with_peer c.peer n) {
    commit = c.commit;
    reserved = c.leaves.reserved;
    used = c.leaves.used;
    start = c.start;
    cuts = c.cuts;
  }

  -- The refusal is that of the rules; running out of memory may come at any time.
  abbrev pub Answers : Refusal S Q G R A F → outcomes.Outcome A F → Type 0
  Answers refusals.NoMemory o = Unit {0}
  Answers (refusals.NotPrimary view leader) o = o ≡ Refused (NotPrimary view leader)
  Answers (refusals.TooManyPending limit) o = o ≡ Refused (TooManyPending limit)
  Answers (refusals.NotReserved reserved) o = o ≡ Refused (NotReserved reserved)
  Answers (refusals.KeyExhausted reserved) o = o ≡ Refused (KeyExhausted reserved)
  Answers (refusals.NothingToSign seqno) o = o ≡ Refused (NothingToSign seqno)
  Answers (refusals.RemovalNotCommitted seqno commit) o = o
      ≡ Refused (RemovalNotCommitted seqno commit)
  Answers (refusals.BelowCommit commit seqno) o = o ≡ Refused (BelowCommit commit seqno)
  Answers (refusals.BelowBase base) o = o ≡ Refused (BelowBase base)
  Answers refusals.NotPeer o = o ≡ Refused NotPeer
  Answers refusals.ViewLimit o = o ≡ Refused ViewLimit
  Answers (refusals.NoLaterSignature commit) o = o ≡ Refused (NoLaterSignature commit)
  Answers (refusals.ByLedger why) o = o ≡ Refused (outcomes.ByLedger why)

  -- What a peer refuses, as the core does.
  abbrev pub refusal_of : OrNoMemory ElectionRefusal → Refusal S Q G R A F
  refusal_of NoMemory = refusals.NoMemory
  refusal_of (Fault (faults.NotPrimary view leader)) = refusals.NotPrimary view leader
  refusal_of (Fault faults.NotPeer) = refusals.NotPeer
  refusal_of (Fault faults.ViewLimit) = refusals.ViewLimit

  abbrev pub IsNoMemory : Refusal S Q G R A F → Type 0
  IsNoMemory why = why ≡ refusals.NoMemory

  module _ (stands : S → Book Entry Q G R A F → Holding Entry → Type 0) where
    -- The core stands for a node x, under these rules.
    pub record StandsFor (c : Core S Q G R A F) (b : Book Entry Q G R A F) (x : NodeId)
        (n : Node Entry) : Type 0 where
      pub ledger : stands c.book b (held_by x n)
      pub same : seen c n ≡ n
      pub above : n.base ≤ n.commit
      pub matched : (y : NodeId) → held c.matched.items y ≡ n.matched y
      pub next : (y : NodeId) → tried c.next.items y ≡ n.next y
      -- no ledger is longer
      pub within : (y : NodeId) → n.matched y < 2 ^ 40
      -- it signs with leaves that its key has
      pub used : n.used ≤ n.reserved
      pub leaves : n.reserved ≤ b.leaves x

    -- What a step of the rules comes to.
    pub record Stepped (b : Book Entry Q G R A F) (x : NodeId) (step : Step Entry A F)
        (done : Done S Q G R A F) (new : Core S Q G R A F) : Type 0 where
      pub node : StandsFor new b x step.node
      pub outcome : seen_outcome done.outcome ≡ step.outcome
      pub sent : map seen_message done.sent ≡ step.sent

    -- This holds of each node that it stands for.
    abbrev pub Reports : Core S Q G R A F → (Book Entry Q G R A F → NodeId → Node Entry → Type 0) →
        Type 0
    Reports c P = (b : Book Entry Q G R A F) (x : NodeId) (n : Node Entry) → StandsFor c b x n →
        P b x n

    -- Of each node that it stands for the call is a rule's step.
    abbrev pub Steps : (Book Entry Q G R A F → NodeId → Node Entry → Step Entry A F) →
        Core S Q G R A F → Done S Q G R A F → Core S Q G R A F → Type 0
    Steps rule old done new = Reports old (λ b x n. Stepped b x (rule b x n) done new)

    -- Of each node that it stands for the rule refuses so.
    abbrev pub Refuses : (Book Entry Q G R A F → NodeId → Node Entry → Step Entry A F) →
        Core S Q G R A F → Refusal S Q G R A F → Type 0
    Refuses rule old why = Reports old (λ b x n. Answers why (rule b x n).outcome)

    -- Of each node that it stands for this guard lets every step of a rule through.
    abbrev pub Passes : (Book Entry Q G R A F → Node Entry → Step Entry A F → Step Entry A F) →
        Core S Q G R A F → Type 0
    Passes guard c = Reports c (λ b x n. (step : Step Entry A F) → guard b n step ≡ step)

    -- Of each node that it stands for this guard refuses so, whatever the step.
    abbrev pub Stops : (Book Entry Q G R A F → Node Entry → Step Entry A F → Step Entry A F) →
        Core S Q G R A F → Refusal S Q G R A F → Type 0
    Stops guard c why = Reports c (λ b x n. (step : Step Entry A F) →
        Answers why (guard b n step).outcome)

    -- It stands for each node for which it stood.
    abbrev pub KeepsAll : Core S Q G R A F → Core S Q G R A F → Type 0
    KeepsAll old new = Reports old (λ b x n. StandsFor new b x n)

    -- It stands for another node in place of each.
    abbrev pub Turns : (Book Entry Q G R A F → Node Entry → Node Entry) → Core S Q G R A F →
        Core S Q G R A F → Type 0
    Turns f old new = Reports old (λ b x n. StandsFor new b x (f b n))

    -- The log is cut where the view rose, and a new leader begins after it.
    pub record Settled (b : Book Entry Q G R A F) (x : NodeId) (n : Node Entry) (elected : Elected)
        (done : Done S Q G R A F) (new : Core S Q G R A F) : Type 0 where
      pub node : StandsFor new b x (begin_leading b elected.outcome (cut_if_rose b elected.rose n))
      pub outcome : seen_outcome {F = F} done.outcome ≡ elections.seen_outcome b elected.outcome
      pub sent : done.sent ≡ elected.sent

    abbrev pub Settles : Elected → Core S Q G R A F → Done S Q G R A F → Core S Q G R A F → Type 0
    Settles elected old done new = Reports old (λ b x n. Settled b x n elected done new)

    -- It stands for a node with another log in place of each, of which this holds.
    abbrev pub Grows : (Book Entry Q G R A F → Node Entry → List Entry → Type 0) →
        (Book Entry Q G R A F → Node Entry → List Entry → Node Entry) → Core S Q G R A F →
        Core S Q G R A F → Type 0
    Grows P f old new = Reports old (λ b x n. (log : List Entry) × P b n log
        × StandsFor new b x (f b n log))

    -- It stands for another node in place of each, and sends these messages.
    abbrev pub Replies : (Book Entry Q G R A F → NodeId → Node Entry → Node Entry) → List Message →
        Core S Q G R A F → Done S Q G R A F → Core S Q G R A F → Type 0
    Replies f sent old done new = Reports old (λ b x n. StandsFor new b x (f b x n))
        × (done.outcome ≡ answers.Done) × (done.sent ≡ sent)
