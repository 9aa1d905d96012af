-- What an event comes to, at each node for which the core of a replica stands.
use Rattle.std.proofs.Common.{◌≡◌, ℕ, Bool, List, Option, None, Result, Ok, Err, OnOk, IsTrue, ap, subst, ◌∙◌}
use Rattle.gl_entry.specs.declared.entry.Entry.{Entry}
use Rattle.gl_rules.specs.Identity.{NodeId}
use Rattle.gl_rules.specs.Book.{Book}
use Rattle.gl_rules.specs.Node.{Node}
use Rattle.gl_rules.specs.Outcome as outcomes
use Rattle.gl_outside.specs.Disk.{Step, IsImage, Leaves}
use Rattle.gl_journal.specs.Durable.{Durable, LogRules, durable, OpensToOneOf}
use Rattle.gl_journal.specs.declared.journal.Journal.{Journal}
use Rattle.gl_replication.specs.Holding.{Holding}
use Rattle.gl_replication.specs.Standing.{At}
use Rattle.gl_replication.specs.Stands.{Refuses, Reports, StandsFor}
use Rattle.gl_replication.specs.declared.node.Core.{Core}
use Rattle.gl_replication.specs.declared.done.Done.{Done}
use Rattle.gl_node.specs.Answers.{OnRefusal}
use Rattle.gl_node.specs.Comes.{Comes}
use Rattle.gl_node.specs.Kept.{Kept, kept_after}
use Rattle.gl_node.specs.Persistence.{IsReplica, IsServing, Serves, SnapshotOf}
use Rattle.gl_node.specs.declared.fault.NodeFault.{NodeFault}
use Rattle.gl_node.specs.declared.fault.NodeFault.TheVariants.{Refused, DiskFault, Stopped}
use Rattle.gl_node.proofs.Coming.{every_moment}
use Rattle.gl_node.proofs.Standings.{kept_same}

module _ {D S Q G R A F : Type 0} (stands : S → Book Entry Q G R A F → Holding Entry → Type 0) (held : S → Kept) (snapshot_of : SnapshotOf) (goes_on : LogRules) (honest : Bool) (bytes : D → List ℕ) (past : D → List Step) (faults : D → ℕ) (has_ledger : Option (List ℕ) → Type 0) (base_snapshot : S → Option (List ℕ))
    (rule : Book Entry Q G R A F → NodeId → Node Entry → outcomes.Step Entry A F) {c : Core S Q G R A F} {j : Journal D} {stopped : Option ℕ} (c' : Core S Q G R A F) (j' : Journal D)
    (some : At stands c.book (λ b h. has_ledger (base_snapshot c.book))) (replica : IsReplica stands held snapshot_of goes_on honest bytes past has_ledger base_snapshot c j stopped) (going : stopped ≡ None) where
  -- what it comes to where the core stands for a node that the file keeps
  abbrev ComesThen : Result (Done S Q G R A F) (NodeFault S Q G R A F) → Type 0
  ComesThen result =
      IsServing stands held snapshot_of goes_on honest bytes past c j →
      Comes stands held snapshot_of goes_on honest bytes past faults rule c j result c' j'

  -- so it does where it stands for a node, as there is a ledger with its snapshot then
  serving : {b : Book Entry Q G R A F} {x : NodeId} {n : Node Entry} → StandsFor stands c b x n → IsServing stands held snapshot_of goes_on honest bytes past c j
  serving {b} s = subst (λ (o : Option ℕ). Serves stands held snapshot_of goes_on honest bytes past c j o) going (replica.serves (some b _ s.ledger))

  pub refuses : (result : Result (Done S Q G R A F) (NodeFault S Q G R A F)) → ComesThen result → OnRefusal result (λ why. Refuses stands rule c why)
  refuses (Ok done) comes = tt
  refuses (Err (Refused why)) comes = λ b x n s. (comes (serving s)).refused b x n s
  refuses (Err DiskFault) comes = tt
  refuses (Err (Stopped count)) comes = tt

  pub kept_done : (result : Result (Done S Q G R A F) (NodeFault S Q G R A F)) → ComesThen result → IsTrue honest → OnOk result (Reports stands c (λ b x n. (d : Durable) →
      durable goes_on (bytes j.gated.disk) ≡ Ok d → durable goes_on (bytes j'.gated.disk) ≡ Ok (kept_after d (rule b x n).node)))
  kept_done (Ok done) comes h = λ b x n s d is.
      let came = comes (serving s) in
      came.kept h d is ∙ ap (λ (v : Durable). Ok v) (kept_same stands held snapshot_of d came.serving.above (came.steps b x n s).node)
  kept_done (Err why) comes h = tt

  pub kept_after_done : (result : Result (Done S Q G R A F) (NodeFault S Q G R A F)) → ComesThen result → IsTrue honest → OnOk result (Reports stands c (λ b x n. (d : Durable) →
      durable goes_on (bytes j.gated.disk) ≡ Ok d → (image : List ℕ) → IsImage (past j'.gated.disk) image → durable goes_on image ≡ Ok (kept_after d (rule b x n).node)))
  kept_after_done (Ok done) comes h = λ b x n s d is image left.
      let came = comes (serving s) in
      came.after h d is image left ∙ ap (λ (v : Durable). Ok v) (kept_same stands held snapshot_of d came.serving.above (came.steps b x n s).node)
  kept_after_done (Err why) comes h = tt

  pub each_moment : (result : Result (Done S Q G R A F) (NodeFault S Q G R A F)) → ComesThen result → IsTrue honest → Reports stands c (λ b x n. (d : Durable) →
      durable goes_on (bytes j.gated.disk) ≡ Ok d → Leaves (OpensToOneOf goes_on d (kept_after d (rule b x n).node)) (past j.gated.disk) (past j'.gated.disk))
  each_moment result comes h b x n s =
      let here = serving s in
      every_moment stands held snapshot_of goes_on honest bytes past faults rule here result c' j' (comes here) h b x n s
