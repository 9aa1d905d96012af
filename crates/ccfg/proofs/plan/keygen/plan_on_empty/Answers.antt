use Rattle.std.proofs.Common.{Err, ap}
use Rattle.ccfg.proofs.KeyLemmas.{long_expected, seed_expected_all, short_expected, whole_as}
use Rattle.ccfg.proofs.plan.keygen.plan_on_empty.Goals as goal

pub returns-in-Ok-seed_in-clause-output : goal.returns-in-Ok-seed_in-clause-output
returns-in-Ok-seed_in-clause-output g c =
    let seed = c.in-Ok-seed_in.ensures in
    seed_expected_all g.D.Disk.honest (g.D.Disk.bytes c.args.disk) (g.S.Source.left c.args.source.now) c.args.kind c.args.types c.deref.result.now c.in-Ok-seed_in.seed c.begin_file.result.0
    (whole_as _ _ _ c.deref.ensures.value c.in-Ok.ensures.whole) seed.seed seed.sized c.begin_file.ensures.output

pub returns-in-Ok-clause-output : goal.returns-in-Ok-clause-output
returns-in-Ok-clause-output g c =
    short_expected g.D.Disk.honest (g.D.Disk.bytes c.args.disk) (g.S.Source.left c.args.source.now) c.args.kind c.args.types c.deref.result.now c.in-Err.fault c.requires.empty
    (whole_as _ _ _ c.deref.ensures.value c.in-Ok.ensures.whole) c.in-Err.ensures.short.0 c.in-Err.ensures.short.1

pub returns-in-Err-TooLong-clause-output : goal.returns-in-Err-TooLong-clause-output
returns-in-Err-TooLong-clause-output g c =
    long_expected g.D.Disk.honest (g.D.Disk.bytes c.args.disk) (g.S.Source.left c.args.source.now) c.args.kind c.args.types c.requires.empty
    (c.in-Err-TooLong.ensures.long (ap Err c.in-Err-TooLong.field-0-is))
