-- What is told of an event.
use Rattle.std.proofs.Common.{◌≡◌, ℕ, List, Bool, Option, None, Some, Result, Ok, Err, IsSome, IsTrue, IfOk, OnOk, refl, sym, ◌∙◌, subst}
use Rattle.gl_entry.specs.declared.entry.Entry.{Entry}
use Rattle.gl_ledger.specs.LedgerBook.{ServiceBook}
use Rattle.gl_replication.specs.Events.{IsAccepted, rule_of}
use Rattle.gl_replication.specs.Holding.{Holding}
use Rattle.gl_replication.specs.Stands.{KeepsAll, Refuses, Reports, Steps}
use Rattle.gl_replication.specs.declared.done.Outcome.{Outcome}
use Rattle.gl_replication.specs.declared.done.Outcome.TheVariants as outcomes
use Rattle.gl_outside.specs.Disk.{IsImage, Leaves, Step}
use Rattle.gl_outside.specs.Fault.{Rose}
use Rattle.gl_journal.specs.Durable.{Durable, LogRules, OpensToOneOf, durable}
use Rattle.gl_node.specs.Answers.{OnRefusal, stopped_count}
use Rattle.gl_node.specs.Kept.{kept_after}
use Rattle.gl_node.specs.declared.fault.NodeFault.TheVariants.{Refused, DiskFault, Stopped}
use Rattle.gl_serve.specs.Events.{Happens}
use Rattle.gl_serve.specs.Types.{NodeCore, NodeDone, NodeEvent, NodeFaults, NodeSeen}

-- what is accepted with an answer of one kind is accepted with one of a wider kind
pub accepted_wider : {A : Type 0} (P Q : A → Type 0) → ((answer : A) → P answer → Q answer) → (o : Outcome A) → IsAccepted P o → IsAccepted Q o
accepted_wider P Q wider (outcomes.Accepted view seqno answer) is = wider answer is
accepted_wider P Q wider outcomes.Done is = is
accepted_wider P Q wider outcomes.Idle is = is
accepted_wider P Q wider outcomes.BecameCandidate is = is
accepted_wider P Q wider outcomes.BecameLeader is = is
accepted_wider P Q wider (outcomes.Signed view seqno) is = is
accepted_wider P Q wider (outcomes.Committed view seqno) is = is

-- what is told of an event is what it comes to
module _ {D S : Type 0} (stands : S → ServiceBook → Holding Entry → Type 0) (goes_on : LogRules) (honest : Bool) (bytes : D → List ℕ) (past : D → List Step) (faults : D → ℕ)
    (event : NodeEvent S) (old new : NodeSeen D S) where
  pub happens_from : (result : Result (NodeDone S) (NodeFaults S)) →
      IfOk result (λ done. Steps stands (rule_of event) old.core done new.core) →
      OnRefusal result (λ why. Refuses stands (rule_of event) old.core why) →
      OnRefusal result (λ why. KeepsAll stands old.core new.core) →
      (IsTrue honest → OnRefusal result (λ why. (bytes new.disk ≡ bytes old.disk) × (past new.disk ≡ past old.disk))) →
      (IsTrue honest → OnOk result (Reports stands old.core (λ b x n. (d : Durable) → durable goes_on (bytes old.disk) ≡ Ok d →
      durable goes_on (bytes new.disk) ≡ Ok (kept_after d (rule_of event b x n).node)))) →
      (IsTrue honest → OnOk result (Reports stands old.core (λ b x n. (d : Durable) → durable goes_on (bytes old.disk) ≡ Ok d → (image : List ℕ) → IsImage (past new.disk) image →
      durable goes_on image ≡ Ok (kept_after d (rule_of event b x n).node)))) →
      (IsTrue honest → old.stopped ≡ None → Reports stands old.core (λ b x n. (d : Durable) → durable goes_on (bytes old.disk) ≡ Ok d →
      Leaves (OpensToOneOf goes_on d (kept_after d (rule_of event b x n).node)) (past old.disk) (past new.disk))) →
      (result ≡ Err DiskFault → Rose (faults old.disk) (faults new.disk) × (new.stopped ≡ Some (faults new.disk))) →
      ((result ≡ Err DiskFault → ⊥) → (faults new.disk ≡ faults old.disk) × (new.stopped ≡ old.stopped)) →
      stopped_count result ≡ old.stopped → (IsSome old.stopped → new ≡ old) → Happens stands goes_on honest bytes past faults event old result new
  happens_from (Ok done) steps refused stays same opens after any_moment disk_fault no_disk_fault stopped still =
      let fine = no_disk_fault (λ e. cc) in
      record { steps = steps; file = opens; kept = after; throughout = λ h. any_moment h (sym stopped); going = (sym stopped, fine.1 ∙ sym stopped); quiet = fine.0 }
  happens_from (Err (Refused why)) steps refused stays same opens after any_moment disk_fault no_disk_fault stopped still =
      let fine = no_disk_fault (λ e. cc) in
      record { refuses = refused; keeps = stays; file = λ h. (same h).0; history = λ h. (same h).1; going = (sym stopped, fine.1 ∙ sym stopped); quiet = fine.0 }
  happens_from (Err DiskFault) steps refused stays same opens after any_moment disk_fault no_disk_fault stopped still =
      record { going = sym stopped; throughout = λ h. any_moment h (sym stopped); rose = (disk_fault refl).0; stopped = (disk_fault refl).1 }
  happens_from (Err (Stopped count)) steps refused stays same opens after any_moment disk_fault no_disk_fault stopped still =
      record { stopped = sym stopped; same = still (subst (λ (o : Option ℕ). IsSome o) stopped refl) }
