use Rattle.std.proofs.Common.{◌≡◌, List, ℕ, None, Ok, OnOk, IsTrue, subst}
use Rattle.gl_outside.specs.Disk.{IsImage, Leaves}
use Rattle.gl_journal.specs.Durable.{Durable, durable, OpensToOneOf}
use Rattle.gl_replication.specs.Events.{rule_of}
use Rattle.gl_replication.specs.Stands.{Refuses, Reports}
use Rattle.gl_node.specs.Answers.{OnRefusal}
use Rattle.gl_node.specs.Kept.{kept_after}
use Rattle.gl_node.specs.Seen.{Seen}
use Rattle.gl_node.proofs.Served.{each_moment, kept_after_done, kept_done, refuses}
use Rattle.gl_node.proofs.replica.Replica.event.Goals as goal

pub returns-clause-refused : goal.returns-clause-refused
returns-clause-refused g c =
    let then = c.dispatch-came.new in
    let P : Seen _ _ _ _ _ _ _ → Type 0 = λ v. OnRefusal c.dispatch-came.result (λ why. Refuses g.B.Book.stands (rule_of c.args.event) v.core why) in
    subst P c.self.view_is (refuses g.B.Book.stands g.B.KeptBook.held g.B.KeptBook.snapshot_of g.B.KeptBook.goes_on g.D.Disk.honest g.D.Disk.bytes g.D.Disk.past g.D.Disk.faults g.B.KeptBook.has_ledger g.B.Book.base_snapshot (rule_of c.args.event) then.core then.journal c.held_count-count.ensures.some c.self.invariant c.in_default.is c.dispatch-came.result c.dispatch-came.ensures.comes)

pub returns-clause-kept : goal.returns-clause-kept
returns-clause-kept g c =
    let then = c.dispatch-came.new in
    let P : Seen _ _ _ _ _ _ _ → Type 0 = λ v. IsTrue g.D.Disk.honest → OnOk c.dispatch-came.result (Reports g.B.Book.stands v.core (λ b x n. (d : Durable) → durable g.B.KeptBook.goes_on (g.D.Disk.bytes v.disk) ≡ Ok d →
    durable g.B.KeptBook.goes_on (g.D.Disk.bytes then.journal.gated.disk) ≡ Ok (kept_after d (rule_of c.args.event b x n).node))) in
    subst P c.self.view_is (kept_done g.B.Book.stands g.B.KeptBook.held g.B.KeptBook.snapshot_of g.B.KeptBook.goes_on g.D.Disk.honest g.D.Disk.bytes g.D.Disk.past g.D.Disk.faults g.B.KeptBook.has_ledger g.B.Book.base_snapshot (rule_of c.args.event) then.core then.journal c.held_count-count.ensures.some c.self.invariant c.in_default.is c.dispatch-came.result c.dispatch-came.ensures.comes)

pub returns-clause-after : goal.returns-clause-after
returns-clause-after g c =
    let then = c.dispatch-came.new in
    let P : Seen _ _ _ _ _ _ _ → Type 0 = λ v. IsTrue g.D.Disk.honest → OnOk c.dispatch-came.result (Reports g.B.Book.stands v.core (λ b x n. (d : Durable) → durable g.B.KeptBook.goes_on (g.D.Disk.bytes v.disk) ≡ Ok d →
    (image : List ℕ) → IsImage (g.D.Disk.past then.journal.gated.disk) image → durable g.B.KeptBook.goes_on image ≡ Ok (kept_after d (rule_of c.args.event b x n).node))) in
    subst P c.self.view_is (kept_after_done g.B.Book.stands g.B.KeptBook.held g.B.KeptBook.snapshot_of g.B.KeptBook.goes_on g.D.Disk.honest g.D.Disk.bytes g.D.Disk.past g.D.Disk.faults g.B.KeptBook.has_ledger g.B.Book.base_snapshot (rule_of c.args.event) then.core then.journal c.held_count-count.ensures.some c.self.invariant c.in_default.is c.dispatch-came.result c.dispatch-came.ensures.comes)

pub returns-clause-any_moment : goal.returns-clause-any_moment
returns-clause-any_moment g c =
    let then = c.dispatch-came.new in
    let P : Seen _ _ _ _ _ _ _ → Type 0 = λ v. IsTrue g.D.Disk.honest → v.stopped ≡ None → Reports g.B.Book.stands v.core (λ b x n. (d : Durable) → durable g.B.KeptBook.goes_on (g.D.Disk.bytes v.disk) ≡ Ok d →
    Leaves (OpensToOneOf g.B.KeptBook.goes_on d (kept_after d (rule_of c.args.event b x n).node)) (g.D.Disk.past v.disk) (g.D.Disk.past then.journal.gated.disk)) in
    subst P c.self.view_is (λ h idle. each_moment g.B.Book.stands g.B.KeptBook.held g.B.KeptBook.snapshot_of g.B.KeptBook.goes_on g.D.Disk.honest g.D.Disk.bytes g.D.Disk.past g.D.Disk.faults g.B.KeptBook.has_ledger g.B.Book.base_snapshot (rule_of c.args.event) then.core then.journal c.held_count-count.ensures.some c.self.invariant idle c.dispatch-came.result c.dispatch-came.ensures.comes h)
