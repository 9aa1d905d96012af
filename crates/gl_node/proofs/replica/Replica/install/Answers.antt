use Rattle.std.proofs.Common.{◌≡◌, List, ℕ, None, Ok, IfOk, OnOk, IsTrue, subst}
use Rattle.gl_rules.specs.Replication.{install}
use Rattle.gl_outside.specs.Disk.{IsImage, Leaves}
use Rattle.gl_journal.specs.Durable.{Durable, durable, OpensToOneOf}
use Rattle.gl_replication.specs.Stands.{Stepped}
use Rattle.gl_node.specs.Offered.{ReportsOffered, kept_from_base}
use Rattle.gl_node.specs.Seen.{Seen}
use Rattle.gl_node.proofs.Beginning.{begun_after, begun_kept, begun_moments, begun_steps}
use Rattle.gl_node.proofs.replica.Replica.install.Goals as goal

pub returns-clause-steps : goal.returns-clause-steps
returns-clause-steps g c =
    let now = c.install_at-came.new in
    let P : Seen _ _ _ _ _ _ _ → Type 0 = λ v. IfOk c.install_at-came.result (λ done. ReportsOffered g.B.Book.stands g.B.Snapshots.shows c.args.offer v.core (λ b x n m. Stepped g.B.Book.stands b x (install b m n) done now.core)) in
    subst P c.self.view_is (begun_steps g.B.Book.stands g.B.KeptBook.held g.B.KeptBook.snapshot_of g.B.KeptBook.goes_on g.D.Disk.honest g.D.Disk.bytes g.D.Disk.past g.D.Disk.faults g.B.Snapshots.shows c.args.offer c.self.inside.core now.core c.self.inside.journal now.journal c.install_at-came.result c.install_at-came.ensures.begins)

pub returns-clause-kept : goal.returns-clause-kept
returns-clause-kept g c =
    let now = c.install_at-came.new in
    let P : Seen _ _ _ _ _ _ _ → Type 0 = λ v. IsTrue g.D.Disk.honest → OnOk c.install_at-came.result (ReportsOffered g.B.Book.stands g.B.Snapshots.shows c.args.offer v.core (λ b x n m. (d : Durable) → durable g.B.KeptBook.goes_on (g.D.Disk.bytes v.disk) ≡ Ok d →
    durable g.B.KeptBook.goes_on (g.D.Disk.bytes now.journal.gated.disk) ≡ Ok (kept_from_base g.B.KeptBook.snapshot_of d (install b m n).node))) in
    subst P c.self.view_is (begun_kept g.B.Book.stands g.B.KeptBook.held g.B.KeptBook.snapshot_of g.B.KeptBook.goes_on g.D.Disk.honest g.D.Disk.bytes g.D.Disk.past g.D.Disk.faults g.B.Snapshots.shows c.args.offer c.self.inside.core now.core c.self.inside.journal now.journal c.install_at-came.result c.install_at-came.ensures.begins)

pub returns-clause-after : goal.returns-clause-after
returns-clause-after g c =
    let now = c.install_at-came.new in
    let P : Seen _ _ _ _ _ _ _ → Type 0 = λ v. IsTrue g.D.Disk.honest → OnOk c.install_at-came.result (ReportsOffered g.B.Book.stands g.B.Snapshots.shows c.args.offer v.core (λ b x n m. (d : Durable) → durable g.B.KeptBook.goes_on (g.D.Disk.bytes v.disk) ≡ Ok d →
    (image : List ℕ) → IsImage (g.D.Disk.past now.journal.gated.disk) image → durable g.B.KeptBook.goes_on image ≡ Ok (kept_from_base g.B.KeptBook.snapshot_of d (install b m n).node))) in
    subst P c.self.view_is (begun_after g.B.Book.stands g.B.KeptBook.held g.B.KeptBook.snapshot_of g.B.KeptBook.goes_on g.D.Disk.honest g.D.Disk.bytes g.D.Disk.past g.D.Disk.faults g.B.Snapshots.shows c.args.offer c.self.inside.core now.core c.self.inside.journal now.journal c.install_at-came.result c.install_at-came.ensures.begins)

pub returns-clause-any_moment : goal.returns-clause-any_moment
returns-clause-any_moment g c =
    let now = c.install_at-came.new in
    let P : Seen _ _ _ _ _ _ _ → Type 0 = λ v. IsTrue g.D.Disk.honest → v.stopped ≡ None → ReportsOffered g.B.Book.stands g.B.Snapshots.shows c.args.offer v.core (λ b x n m. (d : Durable) → durable g.B.KeptBook.goes_on (g.D.Disk.bytes v.disk) ≡ Ok d →
    Leaves (OpensToOneOf g.B.KeptBook.goes_on d (kept_from_base g.B.KeptBook.snapshot_of d (install b m n).node)) (g.D.Disk.past v.disk) (g.D.Disk.past now.journal.gated.disk)) in
    subst P c.self.view_is (λ h going. begun_moments g.B.Book.stands g.B.KeptBook.held g.B.KeptBook.snapshot_of g.B.KeptBook.goes_on g.D.Disk.honest g.D.Disk.bytes g.D.Disk.past g.D.Disk.faults g.B.Snapshots.shows c.args.offer c.self.inside.core now.core c.self.inside.journal now.journal c.install_at-came.result c.install_at-came.ensures.begins h)
