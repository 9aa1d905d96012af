use Rattle.gl_serve.proofs.Living.{serve_lives}
use Rattle.gl_serve.proofs.laws.a_serve_is_events_of_its_node.Goals as goal

pub returns : goal.returns
returns g c reported settings first last before after ahead left result s =
    serve_lives g.B.Book.stands g.B.KeptBook.goes_on g.D.Disk.honest g.D.Disk.bytes g.D.Disk.past g.D.Disk.faults settings reported _ _ _ _ result s.went
