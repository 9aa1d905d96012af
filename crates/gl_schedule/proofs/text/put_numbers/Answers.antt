use Rattle.gl_schedule.proofs.TextLemmas.{number_more}
use Rattle.gl_schedule.proofs.text.put_numbers.Goals as goal

pub loop-index-preserved : goal.loop-index-preserved
loop-index-preserved c =
    number_more c.loop-index.out.items c.put_value.new.out.items _ c.loop-index.index c.args.now c.loop-index-test.true c.in_ok-put_value.ensures c.loop-index.invariant
