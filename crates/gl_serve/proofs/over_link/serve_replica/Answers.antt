use Rattle.std.proofs.Common.{sym, ap, subst, ◌∙◌}
use Rattle.gl_outside.specs.Disk.{Leaves}
use Rattle.gl_outside.specs.Fault.{Rose}
use Rattle.gl_serve.specs.OverLink.{KeepsLeaves}
use Rattle.gl_serve.specs.Types.{NodeSeen}
use Rattle.gl_serve.proofs.Ending.{serve_failed, serve_keeps}
use Rattle.gl_serve.proofs.over_link.serve_replica.Goals as goal

pub returns-clause-serves : goal.returns-clause-serves
returns-clause-serves g c = (
  c.serve-served.new.node,
  sym (c.into_disk.ensures ∙ ap (λ (v : NodeSeen _ _). v.disk) c.into_replica.ensures),
  rw c.new-node.ensures at c.serve-served.ensures.serves,
)

pub returns-clause-any_moment : goal.returns-clause-any_moment
returns-clause-any_moment g c = λ honest ledger d opens.
    let some = rw (c.replica.ensures, c.new-node.ensures) at c.core-core.ensures.some in
    let file = rw (c.replica-2.ensures, c.new-node.ensures) at c.disk-disk.ensures in
    let serves = rw c.new-node.ensures at c.serve-served.ensures.serves in
    subst (λ (disk : _). Leaves (KeepsLeaves g.B.KeptBook.goes_on d) (g.D.Disk.past c.args.replica.disk) (g.D.Disk.past disk)) (sym (c.into_disk.ensures ∙ ap (λ (v : NodeSeen _ _). v.disk) c.into_replica.ensures))
    (serve_keeps g.B.Book.stands g.B.KeptBook.goes_on g.D.Disk.honest g.D.Disk.bytes g.D.Disk.past g.D.Disk.faults g.B.KeptBook.held g.L.Link.honest c.args.settings.now c.args.replica c.serve-served.new.node _ _ _ _ c.serve-served.result serves
    honest (some ledger) (file.keeps honest c.requires.going ledger) (file.at_rest honest c.requires.going) d opens)

pub returns-clause-disk_failed : goal.returns-clause-disk_failed
returns-clause-disk_failed g c = λ stopped.
    let serves = rw c.new-node.ensures at c.serve-served.ensures.serves in
    subst (λ (d : _). Rose (g.D.Disk.faults c.args.replica.disk) (g.D.Disk.faults d)) (sym (c.into_disk.ensures ∙ ap (λ (v : NodeSeen _ _). v.disk) c.into_replica.ensures))
    (serve_failed g.B.Book.stands g.B.KeptBook.goes_on g.D.Disk.honest g.D.Disk.bytes g.D.Disk.past g.D.Disk.faults g.L.Link.honest c.args.settings.now c.args.replica c.serve-served.new.node _ _ _ _ c.serve-served.result serves c.requires.going stopped)
