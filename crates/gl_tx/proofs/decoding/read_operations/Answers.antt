use Rattle.std.proofs.lemmas.Result.{err_from_is_err_and}
use Rattle.gl_tx.specs.Parsing.{operations_at}
use Rattle.gl_base.proofs.Repeated.{goes_on, ends, is_done}
use Rattle.gl_tx.proofs.Operations.{operations_repeat}
use Rattle.gl_tx.proofs.decoding.read_operations.Goals as goal

pub returns-in_err-read_operation : goal.returns-in_err-read_operation
returns-in_err-read_operation c =
    let p = err_from_is_err_and c.from_residual.result c.from_residual.ensures.1 in
    rw (p.1, p.2) (ends operations_repeat c.in_err-read_operation.field-0.0 c.loop.operations.items c.args.count c.loop.counter c.loop.cut (operations_at c.args.count c.args.cut.now) c.loop-test.true c.in_err-read_operation.ensures c.loop.invariant)

pub loop-preserved : goal.loop-preserved
loop-preserved c =
    rw c.in_ok-push.ensures.items (goes_on operations_repeat c.loop.operations.items c.args.count c.loop.counter c.loop.cut c.read_operation.new.cut c.in_ok-read_operation.field-0 (operations_at c.args.count c.args.cut.now) c.loop-test.true c.in_ok-read_operation.ensures c.loop.invariant)

pub returns : goal.returns
returns c = is_done operations_repeat c.loop.operations.items c.args.count c.loop.counter c.loop.cut (operations_at c.args.count c.args.cut.now) c.loop-test.false c.loop.invariant
