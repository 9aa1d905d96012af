use Rattle.std.proofs.Common.{arith}
use Rattle.gl_base.proofs.ByteLists.{are_bytes-true}
use Rattle.gl_base.proofs.cut.at_least.Goals as goal

pub returns-clause-each : goal.returns-clause-each
returns-clause-each c = are_bytes-true c.args.bytes.now (λ i. omega (arith, c.type_inv.bytes i))

pub returns-then-bytes-least-clause-each : goal.returns-then-bytes-least-clause-each
returns-then-bytes-least-clause-each c = are_bytes-true c.args.bytes.now (λ i. omega (arith, c.type_inv.bytes i))
