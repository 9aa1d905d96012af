use Rattle.std.proofs.lemmas.Result.{err_from_is_err_and}
use Rattle.gl_tx.specs.Parsing.{answers_at}
use Rattle.gl_base.proofs.Repeated.{goes_on, ends, is_done}
use Rattle.gl_tx.proofs.Replies.{answers_repeat}
use Rattle.gl_tx.proofs.decoding.read_answers.Goals as goal

pub returns-in_err-read_answer : goal.returns-in_err-read_answer
returns-in_err-read_answer c =
    let p = err_from_is_err_and c.from_residual.result c.from_residual.ensures.1 in
    rw (p.1, p.2) (ends answers_repeat c.in_err-read_answer.field-0.0 c.loop.answers.items c.args.count c.loop.counter c.loop.cut (answers_at c.args.count c.args.cut.now) c.loop-test.true c.in_err-read_answer.ensures c.loop.invariant)

pub loop-preserved : goal.loop-preserved
loop-preserved c =
    rw c.in_ok-push.ensures.items (goes_on answers_repeat c.loop.answers.items c.args.count c.loop.counter c.loop.cut c.read_answer.new.cut c.in_ok-read_answer.field-0 (answers_at c.args.count c.args.cut.now) c.loop-test.true c.in_ok-read_answer.ensures c.loop.invariant)

pub returns : goal.returns
returns c = is_done answers_repeat c.loop.answers.items c.args.count c.loop.counter c.loop.cut (answers_at c.args.count c.args.cut.now) c.loop-test.false c.loop.invariant
