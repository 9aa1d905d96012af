use Rattle.std.proofs.Common.{◌+◌, arith}
use Rattle.gl_node.proofs.Framing.{appends_more, appends_within}
use Rattle.gl_node.proofs.frames.appends_size.Goals as goal

pub overflow_add-size-in-loop-frame : goal.overflow_add-size-in-loop-frame
overflow_add-size-in-loop-frame c =
    let fs = c.args.frames.now in
    let i = c.loop-frame.frame-index in
    let more = appends_more fs i c.frame-item.result c.loop-frame-test.true c.frame-item.is in
    let all = appends_within fs (i + 1) in
    omega (arith, more, all, c.len.ensures, c.loop-frame.invariant, c.requires)

pub loop-frame-preserved : goal.loop-frame-preserved
loop-frame-preserved c =
    let more = appends_more c.args.frames.now c.loop-frame.frame-index c.frame-item.result c.loop-frame-test.true c.frame-item.is in
    omega (arith, more, c.len.ensures, c.loop-frame.invariant)
