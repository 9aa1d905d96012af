use Rattle.gl_replication.specs.Events.{rule_of}
use Rattle.gl_node.proofs.Coming.{passed_by, refused_by}
use Rattle.gl_node.proofs.Ending.{ends_same, ends_untouched, untouched}
use Rattle.gl_node.proofs.dispatch.pass.Goals as goal

pub returns-in-Err-clause-comes : goal.returns-in-Err-clause-comes
returns-in-Err-clause-comes g c serving =
    refused_by g.B.Book.stands g.B.KeptBook.held g.B.KeptBook.snapshot_of g.B.KeptBook.goes_on g.D.Disk.honest g.D.Disk.bytes g.D.Disk.past g.D.Disk.faults serving
    (untouched g.D.Disk.honest g.D.Disk.bytes g.D.Disk.past g.D.Disk.faults c.args.journal.now)
    c.in-Err.ensures.above (rule_of c.args.event.now) c.in-Err.why c.in-Err.ensures.refused c.in-Err.ensures.err

pub returns-in-Err-clause-file : goal.returns-in-Err-clause-file
returns-in-Err-clause-file g c = ends_untouched g.D.Disk.honest g.D.Disk.bytes g.D.Disk.past g.D.Disk.faults (untouched g.D.Disk.honest g.D.Disk.bytes g.D.Disk.past g.D.Disk.faults c.args.journal.now) c.requires.settled

pub returns-in-Ok-clause-comes : goal.returns-in-Ok-clause-comes
returns-in-Ok-clause-comes g c serving =
    passed_by g.B.Book.stands g.B.KeptBook.held g.B.KeptBook.snapshot_of g.B.KeptBook.goes_on g.D.Disk.honest g.D.Disk.bytes g.D.Disk.past g.D.Disk.faults serving
    (untouched g.D.Disk.honest g.D.Disk.bytes g.D.Disk.past g.D.Disk.faults c.args.journal.now)
    c.in-Ok.ensures.above (rule_of c.args.event.now) c.in-Ok.done c.in-Ok.ensures.steps c.requires.kept

pub returns-in-Ok-clause-file : goal.returns-in-Ok-clause-file
returns-in-Ok-clause-file g c = ends_same g.D.Disk.honest g.D.Disk.bytes g.D.Disk.past g.D.Disk.faults (untouched g.D.Disk.honest g.D.Disk.bytes g.D.Disk.past g.D.Disk.faults c.args.journal.now) c.requires.settled
