use Rattle.std.proofs.Common.{arith}
use Rattle.ccfg.specs.ExpectedOutput.{output_of_seed}
use Rattle.ccfg.proofs.KeyLemmas.{expected_bytes}
use Rattle.ccfg.proofs.plan.keygen.keygen_plan.Goals as goal

pub returns-in-Ok-clause-output : goal.returns-in-Ok-clause-output
returns-in-Ok-clause-output g c =
    let other = c.in-Ok.len-test.1 in
    expected_bytes g.D.Disk.honest (g.D.Disk.bytes c.args.disk) (g.S.Source.left c.args.source.now) (output_of_seed c.args.kind c.args.types) c.in-Ok.len (omega (arith, other)) c.in-Ok.ensures.len
