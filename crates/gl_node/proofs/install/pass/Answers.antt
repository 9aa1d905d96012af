use Rattle.gl_node.proofs.Beginning.{declined_by, passed_by}
use Rattle.gl_node.proofs.Ending.{untouched}
use Rattle.gl_node.proofs.install.pass.Goals as goal

pub returns-in-Err-clause-begins : goal.returns-in-Err-clause-begins
returns-in-Err-clause-begins g c =
    let e = c.in-Err.ensures in
    declined_by g.B.Book.stands g.B.KeptBook.held g.B.KeptBook.snapshot_of g.B.KeptBook.goes_on g.D.Disk.honest g.D.Disk.bytes g.D.Disk.past g.D.Disk.faults c.requires.serving g.B.Snapshots.shows c.args.offer
    (untouched g.D.Disk.honest g.D.Disk.bytes g.D.Disk.past g.D.Disk.faults c.args.journal.now) e.above c.in-Err.why e.refused e.err

pub returns-in-Ok-clause-begins : goal.returns-in-Ok-clause-begins
returns-in-Ok-clause-begins g c =
    let e = c.in-Ok.ensures in
    passed_by g.B.Book.stands g.B.KeptBook.held g.B.KeptBook.snapshot_of g.B.KeptBook.goes_on g.D.Disk.honest g.D.Disk.bytes g.D.Disk.past g.D.Disk.faults c.requires.serving g.B.Snapshots.shows c.args.offer
    (untouched g.D.Disk.honest g.D.Disk.bytes g.D.Disk.past g.D.Disk.faults c.args.journal.now) e.above c.in-Ok.done c.requires.offered e.key e.steps c.requires.stays
