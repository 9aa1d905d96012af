use Rattle.std.proofs.lemmas.Result.{err_from_is_err_and}
use Rattle.gl_requests.specs.Parsing.{repeated_at}
use Rattle.gl_base.proofs.Repeated.{goes_on, ends, is_done}
use Rattle.gl_requests.proofs.Repeats.{repeats}
use Rattle.gl_requests.proofs.decode.read_repeated.Goals as goal

pub returns-in_err-read : goal.returns-in_err-read
returns-in_err-read g c =
    let p = err_from_is_err_and c.from_residual.result c.from_residual.ensures.1 in
    rw (p.1, p.2) (ends (repeats g.T.Decode.reading) c.in_err-read.field-0.0 c.loop.parts.items c.args.count c.loop.counter c.loop.cut (repeated_at g.T.Decode.reading c.args.count c.args.cut.now) c.loop-test.true c.in_err-read.ensures c.loop.invariant)

pub loop-preserved : goal.loop-preserved
loop-preserved g c =
    rw c.in_ok-push.ensures.items (goes_on (repeats g.T.Decode.reading) c.loop.parts.items c.args.count c.loop.counter c.loop.cut c.read.new.cut c.in_ok-read.field-0 (repeated_at g.T.Decode.reading c.args.count c.args.cut.now) c.loop-test.true c.in_ok-read.ensures c.loop.invariant)

pub returns : goal.returns
returns g c = rw c.from.ensures (is_done (repeats g.T.Decode.reading) c.loop.parts.items c.args.count c.loop.counter c.loop.cut (repeated_at g.T.Decode.reading c.args.count c.args.cut.now) c.loop-test.false c.loop.invariant)
