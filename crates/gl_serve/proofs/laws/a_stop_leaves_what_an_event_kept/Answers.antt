use Rattle.gl_serve.proofs.KeepingEvents.{life_is_kept}
use Rattle.gl_serve.proofs.laws.a_stop_leaves_what_an_event_kept.Goals as goal

pub returns : goal.returns
returns g c honest first last life lives b x n s d opens =
    life_is_kept g.B.Book.stands g.B.KeptBook.goes_on g.D.Disk.honest g.D.Disk.bytes g.D.Disk.past g.D.Disk.faults honest b x first last life lives n s d opens
