use Rattle.gl_node.proofs.SignedLeaves.{reserved_before}
use Rattle.gl_node.proofs.laws.a_leaf_is_reserved_before_it_signs.Goals as goal

pub returns : goal.returns
returns g c b x n event within = reserved_before b x n event within
