use Rattle.std.proofs.Common.{arith}
use Rattle.std.proofs.lemmas.Bool.Decides.{nat_tests}
use Rattle.gl_vmaps.proofs.Bytes.{are_bytes-true}
use Rattle.gl_vmaps.proofs.name.Value.is_valid.Goals as goal

pub returns : goal.returns
returns c = rw (are_bytes-true c.args.bytes.now (λ i. omega (arith, c.type_inv.bytes i))) (grind (arith, nat_tests))
