use Rattle.std.proofs.Common.{arith}
use Rattle.gl_journal.proofs.RecordLaws.{are_records_next, put_next, next_sizes}
use Rattle.gl_journal.proofs.record.put_records.Goals as goal

pub loop-one-preserved : goal.loop-one-preserved
loop-one-preserved c =
    let i = c.loop-one.one-index in
    let records = c.args.records.now in
    let below = c.loop-one-test.true in
    let now = c.loop-one.invariant in
    let sizes = next_sizes _ records i c.loop-one.out.items c.put_record.new.out.items below c.put_record.ensures.put in record {
      put = put_next _ records i c.loop-one.out.items c.put_record.new.out.items _ below c.put_record.ensures.put now.put;
      room = omega (arith, sizes.0, now.room, c.put_record.ensures.room);
      grown = omega (arith, now.grown, c.put_record.ensures.room);
      small = omega (arith, sizes.1, now.small);
      fields = are_records_next _ records i below now.fields c.put_record.ensures.fields;
    }
