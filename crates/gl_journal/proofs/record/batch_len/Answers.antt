use Rattle.std.proofs.Common.{arith}
use Rattle.gl_journal.proofs.RecordLaws.{next_len}
use Rattle.gl_journal.proofs.record.batch_len.Goals as goal

pub loop-one-preserved : goal.loop-one-preserved
loop-one-preserved c =
    let next = next_len _ c.args.records.now c.loop-one.one-index c.body_len.result c.loop-one-test.true c.body_len.ensures in
    omega (arith, next, c.loop-one.invariant)
