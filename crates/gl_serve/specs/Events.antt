-- What an event comes to at a node that serves from a file.
use Rattle.std.specs.Prelude.{◌≡◌, ℕ, Bool, List, None, Some, Result, Ok, Err, IsTrue}
use Rattle.gl_entry.specs.declared.entry.Entry.{Entry}
use Rattle.gl_ledger.specs.LedgerBook.{ServiceBook}
use Rattle.gl_outside.specs.Disk.{IsImage, Leaves, Step}
use Rattle.gl_outside.specs.Fault.{Rose}
use Rattle.gl_journal.specs.Durable.{Durable, LogRules, OpensToOneOf, durable}
use Rattle.gl_replication.specs.Events.{rule_of}
use Rattle.gl_replication.specs.Holding.{Holding}
use Rattle.gl_replication.specs.Stands.{KeepsAll, Refuses, Reports, Steps}
use Rattle.gl_node.specs.Kept.{kept_after}
use Rattle.gl_node.specs.declared.fault.NodeFault.TheVariants.{Refused, DiskFault, Stopped}
use Rattle.gl_serve.specs.Types.{NodeDone, NodeEvent, NodeFaults, NodeRefusal, NodeSeen}

-- Over a store that stands for ledgers, and a disk that tells its bytes, its history and its
-- faults.
module _ {D S : Type 0} (stands : S → ServiceBook → Holding Entry → Type 0) (goes_on : LogRules)
    (honest : Bool) (bytes : D → List ℕ) (past : D → List Step) (faults : D → ℕ)
    (event : NodeEvent S) (old : NodeSeen D S) where
  -- At every moment of the event a stop leaves a file that keeps the node as it was, or as the rule
  -- makes it.
  abbrev pub KeepsThroughout : NodeSeen D S → Type 0
  KeepsThroughout new = IsTrue honest → Reports stands old.core (λ b x n. (d : Durable) →
      durable goes_on (bytes old.disk) ≡ Ok d →
      Leaves (OpensToOneOf goes_on d (kept_after d (rule_of event b x n).node))
      (past old.disk) (past new.disk))

  -- The event is the step of its rule. The file then keeps the node of that step, and so does
  -- whatever a stop leaves.
  pub record IsDone (done : NodeDone S) (new : NodeSeen D S) : Type 0 where
    pub steps : Steps stands (rule_of event) old.core done new.core
    pub file : IsTrue honest → Reports stands old.core (λ b x n. (d : Durable) →
        durable goes_on (bytes old.disk) ≡ Ok d →
        durable goes_on (bytes new.disk) ≡ Ok (kept_after d (rule_of event b x n).node))
    pub kept : IsTrue honest → Reports stands old.core (λ b x n. (d : Durable) →
        durable goes_on (bytes old.disk) ≡ Ok d →
        (image : List ℕ) → IsImage (past new.disk) image →
        durable goes_on image ≡ Ok (kept_after d (rule_of event b x n).node))
    pub throughout : KeepsThroughout new
    pub going : (old.stopped ≡ None) × (new.stopped ≡ None)
    pub quiet : faults new.disk ≡ faults old.disk

  -- The rule refuses the event, or memory ran out. Nothing is changed.
  pub record IsRefused (why : NodeRefusal S) (new : NodeSeen D S) : Type 0 where
    pub refuses : Refuses stands (rule_of event) old.core why
    pub keeps : KeepsAll stands old.core new.core
    pub file : IsTrue honest → bytes new.disk ≡ bytes old.disk
    pub history : IsTrue honest → past new.disk ≡ past old.disk
    pub going : (old.stopped ≡ None) × (new.stopped ≡ None)
    pub quiet : faults new.disk ≡ faults old.disk

  -- The disk failed, and the node stopped.
  pub record IsBroken (new : NodeSeen D S) : Type 0 where
    pub going : old.stopped ≡ None
    pub throughout : KeepsThroughout new
    pub rose : Rose (faults old.disk) (faults new.disk)
    pub stopped : new.stopped ≡ Some (faults new.disk)

  -- The node had stopped before, and nothing happens.
  pub record IsStill (count : ℕ) (new : NodeSeen D S) : Type 0 where
    pub stopped : old.stopped ≡ Some count
    pub same : new ≡ old

  abbrev pub Happens : Result (NodeDone S) (NodeFaults S) → NodeSeen D S → Type 0
  Happens (Ok done) new = IsDone done new
  Happens (Err (Refused why)) new = IsRefused why new
  Happens (Err DiskFault) new = IsBroken new
  Happens (Err (Stopped count)) new = IsStill count new
