use Rattle.gl_node.proofs.SignedLeaves.{leaves_rise}
use Rattle.gl_node.proofs.laws.no_leaf_signs_twice.Goals as goal

pub returns : goal.returns
returns g c b x n hs within = leaves_rise b x n hs within
