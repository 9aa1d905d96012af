-- What an event comes to, at a core and in its file.
use Rattle.std.specs.Prelude.{◌≡◌, ℕ, Bool, List, Result, Ok, Err, IsTrue}
use Rattle.gl_entry.specs.declared.entry.Entry.{Entry}
use Rattle.gl_rules.specs.Identity.{NodeId}
use Rattle.gl_rules.specs.Book.{Book}
use Rattle.gl_rules.specs.Node.{Node}
use Rattle.gl_rules.specs.Outcome as outcomes
use Rattle.gl_outside.specs.Disk.{Step, IsImage, Leaves}
use Rattle.gl_outside.specs.Fault.{Rose}
use Rattle.gl_journal.specs.Durable.{Durable, LogRules, durable, OpensToOneOf}
use Rattle.gl_journal.specs.Kept.{IsKept}
use Rattle.gl_journal.specs.declared.journal.Journal.{Journal}
use Rattle.gl_replication.specs.Holding.{Holding}
use Rattle.gl_replication.specs.Stands.{KeepsAll, Refuses, Reports, StandsFor, Steps}
use Rattle.gl_replication.specs.declared.node.Core.{Core}
use Rattle.gl_replication.specs.declared.done.Done.{Done}
use Rattle.gl_replication.specs.declared.done.Refusal.{Refusal}
use Rattle.gl_node.specs.Kept.{Kept}
use Rattle.gl_node.specs.Persistence.{HoldsAbove, IsServing, SnapshotOf, StandsForSome, kept_of}
use Rattle.gl_node.specs.declared.fault.NodeFault.{NodeFault}
use Rattle.gl_node.specs.declared.fault.NodeFault.TheVariants.{Refused, DiskFault, Stopped}

-- How a journal's file ends an event, by what is answered, whatever the node stands for.
module _ {D : Type 0} (honest : Bool) (bytes : D → List ℕ) (past : D → List Step)
    (faults : D → ℕ) (j : Journal D) where
  -- The file is settled, and no fault was counted.
  pub record IsSettled (j' : Journal D) : Type 0 where
    pub kept : IsTrue honest → IsKept bytes past j'
    pub quiet : faults j'.gated.disk ≡ faults j.gated.disk

  -- Where the event is refused it is as it was, too.
  pub record IsUntouched (j' : Journal D) : Type 0 where
    pub settled : IsSettled j'
    pub same : IsTrue honest → (bytes j'.gated.disk ≡ bytes j.gated.disk)
        × (past j'.gated.disk ≡ past j.gated.disk)

  abbrev pub EndsWith : {S Q G R A F : Type 0} →
      Result (Done S Q G R A F) (NodeFault S Q G R A F) → Journal D → Type 0
  EndsWith (Ok done) j' = IsSettled j'
  EndsWith (Err (Refused why)) j' = IsUntouched j'
  EndsWith (Err DiskFault) j' = Rose (faults j.gated.disk) (faults j'.gated.disk)
  EndsWith (Err (Stopped count)) j' = ⊥

module _ {D S Q G R A F : Type 0} (stands : S → Book Entry Q G R A F → Holding Entry → Type 0)
    (held : S → Kept) (snapshot_of : SnapshotOf) (goes_on : LogRules) (honest : Bool)
    (bytes : D → List ℕ) (past : D → List Step) (faults : D → ℕ)
    (rule : Book Entry Q G R A F → NodeId → Node Entry → outcomes.Step Entry A F)
    (c : Core S Q G R A F) (j : Journal D) where
  -- This holds of the durable state that the file of an honest disk opens to.
  abbrev pub OfState : (Durable → Type 0) → Type 0
  OfState P =
      IsTrue honest → (d : Durable) → durable goes_on (bytes j.gated.disk) ≡ Ok d → P d

  -- At every moment each image that a stop may leave opens to the state before, or to that in which
  -- the new core is kept.
  abbrev pub LeavesEither : Core S Q G R A F → Journal D → Type 0
  LeavesEither c' j' = OfState (λ d.
      Leaves (OpensToOneOf goes_on d (kept_of held d c')) (past j.gated.disk)
      (past j'.gated.disk))

  -- The event is done, and kept.
  pub record IsDone (done : Done S Q G R A F) (c' : Core S Q G R A F) (j' : Journal D)
      : Type 0 where
    pub steps : Steps stands rule c done c'
    pub serving : IsServing stands held snapshot_of goes_on honest bytes past c' j'
    pub kept : OfState (λ d. durable goes_on (bytes j'.gated.disk) ≡ Ok (kept_of held d c'))
    pub after : OfState (λ d. (image : List ℕ) → IsImage (past j'.gated.disk) image →
        durable goes_on image ≡ Ok (kept_of held d c'))
    pub any_moment : LeavesEither c' j'
    pub quiet : faults j'.gated.disk ≡ faults j.gated.disk

  -- The event is refused, and all is as it was.
  pub record IsRefused (why : Refusal S Q G R A F) (c' : Core S Q G R A F) (j' : Journal D) : Type 0
    where
      pub refused : Refuses stands rule c why
      pub keeps : KeepsAll stands c c'
      pub serving : IsServing stands held snapshot_of goes_on honest bytes past c' j'
      pub same : IsTrue honest → (bytes j'.gated.disk ≡ bytes j.gated.disk)
          × (past j'.gated.disk ≡ past j.gated.disk)
      pub quiet : faults j'.gated.disk ≡ faults j.gated.disk

  -- The disk failed after the event.
  pub record IsBroken (c' : Core S Q G R A F) (j' : Journal D) : Type 0 where
    pub turned : Reports stands c (λ b x n. StandsFor stands c' b x (rule b x n).node)
    pub some : StandsForSome stands c'
    pub above : HoldsAbove stands held snapshot_of c'.book
    pub any_moment : LeavesEither c' j'
    pub rose : Rose (faults j.gated.disk) (faults j'.gated.disk)

  -- What it comes to, by what is answered.
  abbrev pub Comes : Result (Done S Q G R A F) (NodeFault S Q G R A F) → Core S Q G R A F →
      Journal D → Type 0
  Comes (Ok done) c' j' = IsDone done c' j'
  Comes (Err (Refused why)) c' j' = IsRefused why c' j'
  Comes (Err DiskFault) c' j' = IsBroken c' j'
  Comes (Err (Stopped count)) c' j' = ⊥
