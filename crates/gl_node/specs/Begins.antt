-- What a snapshot that a node is offered comes to, at a core and in its file.
use Rattle.std.specs.Prelude.{◌≡◌, ◌<◌, ℕ, ◌+◌, ◌^◌, Bool, List, Option, None, Some, Result, Ok, Err, IsTrue, length}
use Rattle.gl_entry.specs.declared.entry.Entry.{Entry}
use Rattle.gl_rules.specs.Book.{Book}
use Rattle.gl_rules.specs.Replication.{install}
use Rattle.gl_snapshot_body.specs.declared.body.Body.{Body}
use Rattle.gl_outside.specs.Disk.{Step, IsImage, Leaves}
use Rattle.gl_outside.specs.Fault.{Rose}
use Rattle.gl_journal.specs.Durable.{Durable, LogRules, durable, fold_record, OpensToOneOf}
use Rattle.gl_journal.specs.Kept.{HasBatchRoom}
use Rattle.gl_journal.specs.Records.{Install}
use Rattle.gl_journal.specs.declared.journal.Journal.{Journal}
use Rattle.gl_replication.specs.Holding.{Holding}
use Rattle.gl_replication.specs.Standing.{At}
use Rattle.gl_replication.specs.Stands.{Answers, KeepsAll, Stepped}
use Rattle.gl_replication.specs.declared.node.Core.{Core}
use Rattle.gl_replication.specs.declared.done.Done.{Done}
use Rattle.gl_replication.specs.declared.done.Refusal.{Refusal}
use Rattle.gl_replication.specs.declared.snapshots.Offer.{Offer}
use Rattle.gl_node.specs.Kept.{Kept}
use Rattle.gl_node.specs.Offered.{ReportsOffered, kept_from_base}
use Rattle.gl_node.specs.Persistence.{IsServing, SnapshotOf, StandsForSome}
use Rattle.gl_node.specs.declared.fault.NodeFault.{NodeFault}
use Rattle.gl_node.specs.declared.fault.NodeFault.TheVariants.{Refused, DiskFault, Stopped}

-- A file goes from one durable state to another as it takes in the snapshot of a ledger: by one
-- record with the bytes of its body, and by none where it is one of no entries.
abbrev pub TakesIn : LogRules → Option (List ℕ) → Durable → Durable → Type 0
TakesIn goes_on None d next = next ≡ d
TakesIn goes_on (Some body) d next = fold_record goes_on d (Install body) ≡ Some next

-- There is memory for the batch of that record, if there is one, and its length fits its field.
abbrev pub HasBodyRoom : {D : Type 0} → (D → ℕ) → (D → ℕ) → Journal D → Option (List ℕ) → Type 0
HasBodyRoom room_end room_calls j None = Unit {0}
HasBodyRoom room_end room_calls j (Some body) =
    (5 + length body < 2 ^ 32) × HasBatchRoom room_end room_calls j (5 + length body)

-- Whatever a store stands for, its key has one number of leaves.
abbrev pub HasOneKey : {S Q G R A F : Type 0} →
    (S → Book Entry Q G R A F → Holding Entry → Type 0) → S → Type 0
HasOneKey stands s = At stands s (λ b h. At stands s (λ a k. a.leaves k.me ≡ b.leaves h.me))

module _ {D S Q G R A F : Type 0} (stands : S → Book Entry Q G R A F → Holding Entry → Type 0)
    (held : S → Kept) (snapshot_of : SnapshotOf) (goes_on : LogRules) (honest : Bool)
    (bytes : D → List ℕ) (past : D → List Step) (faults : D → ℕ)
    (shows : Body → Book Entry Q G R A F → List Entry → Type 0) (offer : Offer)
    (c : Core S Q G R A F) (j : Journal D) where
  -- This holds of the durable state that the file of an honest disk opens to, and of that in which
  -- the node is kept that the rule makes.
  abbrev pub OfStates : (Durable → Durable → Type 0) → Type 0
  OfStates P =
      IsTrue honest → ReportsOffered stands shows offer c (λ b x n m. (d : Durable) →
      durable goes_on (bytes j.gated.disk) ≡ Ok d →
      P d (kept_from_base snapshot_of d (install b m n).node))

  -- At every moment each image that a stop may leave opens to the one or to the other.
  abbrev pub LeavesOneOf : Journal D → Type 0
  LeavesOneOf j' = OfStates (λ d next.
      Leaves (OpensToOneOf goes_on d next) (past j.gated.disk) (past j'.gated.disk))

  -- The offer is answered, and kept.
  pub record IsBegun (done : Done S Q G R A F) (c' : Core S Q G R A F) (j' : Journal D) : Type 0
    where
      pub steps : ReportsOffered stands shows offer c
          (λ b x n m. Stepped stands b x (install b m n) done c')
      pub serving : IsServing stands held snapshot_of goes_on honest bytes past c' j'
      pub kept : OfStates (λ d next. durable goes_on (bytes j'.gated.disk) ≡ Ok next)
      pub after : OfStates (λ d next. (image : List ℕ) → IsImage (past j'.gated.disk) image →
          durable goes_on image ≡ Ok next)
      pub any_moment : LeavesOneOf j'
      pub quiet : faults j'.gated.disk ≡ faults j.gated.disk

  -- It is refused, and all is as it was.
  pub record IsDeclined (why : Refusal S Q G R A F) (c' : Core S Q G R A F) (j' : Journal D)
      : Type 0 where
    pub refused : ReportsOffered stands shows offer c
        (λ b x n m. Answers why (install b m n).outcome)
    pub keeps : KeepsAll stands c c'
    pub serving : IsServing stands held snapshot_of goes_on honest bytes past c' j'
    pub same : IsTrue honest → (bytes j'.gated.disk ≡ bytes j.gated.disk)
        × (past j'.gated.disk ≡ past j.gated.disk)
    pub any_moment : LeavesOneOf j'
    pub quiet : faults j'.gated.disk ≡ faults j.gated.disk

  -- The disk failed after the node began.
  pub record IsCutOff (c' : Core S Q G R A F) (j' : Journal D) : Type 0 where
    pub some : StandsForSome stands c'
    pub any_moment : LeavesOneOf j'
    pub rose : Rose (faults j.gated.disk) (faults j'.gated.disk)

  -- What it comes to, by what is answered.
  abbrev pub Begins : Result (Done S Q G R A F) (NodeFault S Q G R A F) → Core S Q G R A F →
      Journal D → Type 0
  Begins (Ok done) c' j' = IsBegun done c' j'
  Begins (Err (Refused why)) c' j' = IsDeclined why c' j'
  Begins (Err DiskFault) c' j' = IsCutOff c' j'
  Begins (Err (Stopped count)) c' j' = ⊥
