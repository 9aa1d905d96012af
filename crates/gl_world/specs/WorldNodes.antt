-- What a node of a world says of the nodes of the rules for which it stands.
use Rattle.std.specs.Prelude.{◌≡◌, List, Bool, true, false, map}
use Rattle.gl_entry.specs.declared.entry.Entry.{Entry}
use Rattle.gl_rules.specs.Identity.{NodeId}
use Rattle.gl_rules.specs.Node.{Node}
use Rattle.gl_rules.specs.Outcome.{Step}
use Rattle.gl_tx.specs.declared.request.Operation.{Operation}
use Rattle.gl_requests.specs.declared.request.GovernanceRequest.{GovernanceRequest}
use Rattle.gl_ledger.specs.declared.response.Response.{Response}
use Rattle.gl_ledger.specs.declared.response.Reads.{Reads}
use Rattle.gl_ledger.specs.declared.response.Rejection.{Rejection}
use Rattle.gl_ledger.specs.LedgerBook.{ServiceBook}
use Rattle.gl_snapshot_body.specs.declared.body.Body.{Body}
use Rattle.gl_election.specs.Bridge.{seen_message}
use Rattle.gl_replication.specs.Offers.{Offers}
use Rattle.gl_replication.specs.Stands.{Answers, seen_outcome}
use Rattle.gl_replication.specs.declared.node.Core.{Core}
use Rattle.gl_replication.specs.declared.done.Done.{Done}
use Rattle.gl_replication.specs.declared.done.Outcome.{Outcome}
use Rattle.gl_replication.specs.declared.done.Outcome.TheVariants as answers
use Rattle.gl_replication.specs.declared.done.Refusal.{Refusal}
use Rattle.gl_replication.specs.declared.snapshots.Offer.{Offer}

abbrev pub ServiceCore : Type 0 → Type 0
ServiceCore S = Core S (List Operation) GovernanceRequest Reads Response Rejection

abbrev pub ServiceDone : Type 0 → Type 0
ServiceDone S = Done S (List Operation) GovernanceRequest Reads Response Rejection

abbrev pub ServiceRefusal : Type 0 → Type 0
ServiceRefusal S = Refusal S (List Operation) GovernanceRequest Reads Response Rejection

-- An event came to what it asks for, with nothing more to tell.
abbrev pub is_done : {A : Type 0} → Outcome A → Bool
is_done answers.Done = true
is_done answers.Idle = false
is_done answers.BecameCandidate = false
is_done answers.BecameLeader = false
is_done (answers.Accepted view seqno answer) = false
is_done (answers.Signed view seqno) = false
is_done (answers.Committed view seqno) = false

-- What a rule makes of a node.
abbrev pub Rule : Type 0
Rule = ServiceBook → NodeId → Node Entry → Step Entry Response Rejection

-- Under which rules a node of a world stands for which node of them.
abbrev pub StandsAs : Type 0 → Type 1
StandsAs N = N → ServiceBook → NodeId → Node Entry → Type 0

module _ {N : Type 0} (stands : StandsAs N) where
  -- This holds of each node for which it stands.
  abbrev pub OfEach : N → (ServiceBook → NodeId → Node Entry → Type 0) → Type 0
  OfEach c P = (b : ServiceBook) (x : NodeId) (n : Node Entry) → stands c b x n → P b x n

  -- What a step of the rules comes to.
  pub record Stepped {S : Type 0} (b : ServiceBook) (x : NodeId)
      (step : Step Entry Response Rejection)
      (done : ServiceDone S) (new : N) : Type 0 where
    pub node : stands new b x step.node
    pub outcome : seen_outcome done.outcome ≡ step.outcome
    pub sent : map seen_message done.sent ≡ step.sent

  -- Of each node for which it stands the call is a rule's step.
  abbrev pub Steps : {S : Type 0} → Rule → N → ServiceDone S → N → Type 0
  Steps rule old done new = OfEach old (λ b x n. Stepped b x (rule b x n) done new)

  -- Of each node for which it stands the rule refuses so. Running out of memory may come at any
  -- time.
  abbrev pub Refuses : {S : Type 0} → Rule → N → ServiceRefusal S → Type 0
  Refuses rule old why = OfEach old (λ b x n. Answers why (rule b x n).outcome)

  module _ (shows : Body → ServiceBook → List Entry → Type 0) where
    -- It stands for a node of some rules, under which another node offers this.
    pub record IsOffered (c : N) (offer : Offer) : Type 0 where
      pub rules : ServiceBook
      pub me : NodeId
      pub node : Node Entry
      pub standing : stands c rules me node
      pub from : Node Entry
      pub offers : Offers shows offer rules from

  -- It stands for each node for which it stood.
  abbrev pub KeepsAll : N → N → Type 0
  KeepsAll old new = OfEach old (λ b x n. stands new b x n)
