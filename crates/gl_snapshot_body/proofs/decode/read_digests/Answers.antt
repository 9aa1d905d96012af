use Rattle.std.proofs.Common.{None}
use Rattle.std.proofs.lemmas.Result.{err_from_is_err_and}
use Rattle.gl_snapshot_body.specs.Parsing.{repeated_at, peak_at}
use Rattle.gl_snapshot_body.proofs.Loop.{goes_on, ends, is_done}
use Rattle.gl_snapshot_body.proofs.decode.read_digests.Goals as goal

pub returns-in_err-peak : goal.returns-in_err-peak
unfolding peak_at
returns-in_err-peak c =
    let p = err_from_is_err_and c.from_residual.result c.from_residual.ensures.1 in
    rw (p.1, p.2) (ends peak_at _ c.loop.peaks.items c.args.count c.loop.counter c.loop.cut (repeated_at peak_at None c.args.count c.args.cut.now) c.loop-test.true c.in_err-peak.ensures c.loop.invariant)

pub loop-preserved : goal.loop-preserved
unfolding peak_at
loop-preserved c =
    rw c.in_ok-push.ensures.items (goes_on peak_at c.loop.peaks.items c.args.count c.loop.counter c.loop.cut c.read_peak.new.cut c.in_ok-peak.peak (repeated_at peak_at None c.args.count c.args.cut.now) c.loop-test.true c.in_ok-peak.ensures c.loop.invariant)

pub returns : goal.returns
returns c = is_done peak_at c.loop.peaks.items c.args.count c.loop.counter c.loop.cut (repeated_at peak_at None c.args.count c.args.cut.now) c.loop-test.false c.loop.invariant
