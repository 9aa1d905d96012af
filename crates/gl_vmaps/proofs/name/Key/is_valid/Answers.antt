use Rattle.std.proofs.Common.{arith}
use Rattle.std.proofs.lemmas.Bool.Decides.{nat_tests}
use Rattle.gl_vmaps.proofs.Bytes.{are_bytes-true}
use Rattle.gl_vmaps.proofs.name.Key.is_valid.Goals as goal

pub returns-then-bytes-ge1 : goal.returns-then-bytes-ge1
returns-then-bytes-ge1 c = rw (are_bytes-true c.args.bytes.now (λ i. omega (arith, c.type_inv.bytes i))) (grind (arith, nat_tests))
