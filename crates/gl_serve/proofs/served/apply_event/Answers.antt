use Rattle.std.proofs.lemmas.Result.{IfOk-weaker}
use Rattle.gl_answers.specs.Limits.{FitsGiven}
use Rattle.gl_serve.proofs.EventAnswers.{accepted_wider, happens_from}
use Rattle.gl_serve.proofs.served.apply_event.Goals as goal

pub returns-clause-accepted : goal.returns-clause-accepted
returns-clause-accepted g c =
    IfOk-weaker c.event.result _ _ (λ done is asked. accepted_wider g.B.Book.fits FitsGiven c.keeps_limits.ensures done.outcome (is asked)) c.event.ensures.accepted

pub returns-clause-happens : goal.returns-clause-happens
returns-clause-happens g c =
    let e = c.event.ensures in
    happens_from g.B.Book.stands g.B.KeptBook.goes_on g.D.Disk.honest g.D.Disk.bytes g.D.Disk.past g.D.Disk.faults c.args.event c.args.replica.now c.event.new.self c.event.result
    e.steps e.refused e.stays e.same e.kept e.after e.any_moment e.disk_fault e.no_disk_fault e.stopped e.still
