use Rattle.gl_lines.proofs.ReadingLemmas.{read_step, bad_step, open_step, end_step}
use Rattle.gl_lines.proofs.parser.lines_read.Goals as goal

pub returns-in-Err : goal.returns-in-Err
returns-in-Err c =
    bad_step c.args.ids.now c.in-Err.stop _ _ c.loop-i.all.items c.args.lines.now c.loop-i.i _ c.args.is_open c.loop-i-test.true c.in-Err.ensures c.at_line.ensures c.loop-i.invariant

pub loop-i-preserved : goal.loop-i-preserved
loop-i-preserved c =
    read_step c.args.ids.now _ c.loop-i.all.items _ c.args.lines.now c.loop-i.i _ c.in-Ok.line c.args.is_open c.loop-i-test.true c.in-Ok.ensures
    c.in_ok-push-in-Ok.ensures.items c.loop-i.invariant

pub returns-then-is_open : goal.returns-then-is_open
returns-then-is_open c =
    rw c.bad_line.ensures (open_step c.args.ids.now _ c.loop-i.all.items c.args.lines.now c.loop-i.i c.args.is_open c.loop-i-test.false c.loop-i.auto.i-end c.if-is_open.true c.loop-i.invariant)

pub returns : goal.returns
returns c = end_step c.args.ids.now _ c.loop-i.all.items c.args.lines.now c.loop-i.i c.args.is_open c.loop-i-test.false c.if-is_open.false c.loop-i.invariant
