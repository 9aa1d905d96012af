use Rattle.gl_serve.proofs.Telling.{life_tells}
use Rattle.gl_serve.proofs.laws.a_leaf_is_spent_before_it_is_told.Goals as goal

pub returns : goal.returns
returns g c honest first last life lives rest b x n s d opens same =
    life_tells g.B.Book.stands g.B.KeptBook.goes_on g.D.Disk.honest g.D.Disk.bytes g.D.Disk.past g.D.Disk.faults honest b x first last life lives n s d rest opens same
