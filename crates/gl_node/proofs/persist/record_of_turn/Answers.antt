use Rattle.std.proofs.Common.{arith, ◌∷◌, [], length-append}
use Rattle.gl_base.specs.LittleEndian.{little_endian}
use Rattle.gl_base.proofs.LittleEndianLaws.{length-little_endian}
use Rattle.gl_node.proofs.persist.record_of_turn.Goals as goal

pub returns-in-None-clause-size : goal.returns-in-None-clause-size
returns-in-None-clause-size c = omega (arith, length-append (little_endian 4 c.args.view) (0 ∷ []), length-little_endian 4 c.args.view)
