use Rattle.std.proofs.Common.{arith, ◌∷◌, length-append}
use Rattle.gl_base.specs.LittleEndian.{little_endian}
use Rattle.gl_base.proofs.LittleEndianLaws.{length-little_endian}
use Rattle.gl_node.proofs.persist.record_of_vote.Goals as goal

pub returns-clause-size : goal.returns-clause-size
returns-clause-size c = omega (arith, length-append (little_endian 4 c.args.view) (1 ∷ c.args.node.now), length-little_endian 4 c.args.view)
