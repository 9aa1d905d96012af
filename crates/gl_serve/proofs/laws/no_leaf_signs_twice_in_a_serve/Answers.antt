use Rattle.gl_serve.proofs.Living.{life_signs_once}
use Rattle.gl_serve.proofs.laws.no_leaf_signs_twice_in_a_serve.Goals as goal

pub returns : goal.returns
returns g c first last life lives b x n s =
    life_signs_once g.B.Book.stands g.B.KeptBook.goes_on g.D.Disk.honest g.D.Disk.bytes g.D.Disk.past g.D.Disk.faults b x first last life lives n s
