use Rattle.std.proofs.Common.{◌≡◌, ◌∙◌, None, Ok, Option, ap, subst}
use Rattle.std.proofs.lemmas.Result.{err_from_is_err_and}
use Rattle.gl_base.specs.Answers.{Fails}
use Rattle.gl_snapshot_body.specs.declared.body.ViewStart.{ViewStart}
use Rattle.gl_snapshot_body.specs.Parsing.{repeated_at, start_at}
use Rattle.gl_snapshot_body.proofs.Loop.{last_of, goes_on, ends, is_done}
use Rattle.gl_snapshot_body.proofs.decode.read_starts.Goals as goal

pub returns-in_err-start : goal.returns-in_err-start
returns-in_err-start c =
    let p = err_from_is_err_and c.from_residual.result c.from_residual.ensures.1 in
    let last = c.last.ensures.value ∙ ap last_of c.deref.ensures.value in
    let fails = subst (λ (w : Option ViewStart). Fails c.in_err-start.field-0.0 ((start_at c.args.base) w c.loop.cut)) last c.in_err-start.ensures in
    rw (p.1, p.2) (ends (start_at c.args.base) _ c.loop.starts.items c.args.count c.loop.counter c.loop.cut (repeated_at (start_at c.args.base) None c.args.count c.args.cut.now) c.loop-test.true fails c.loop.invariant)

pub loop-preserved : goal.loop-preserved
loop-preserved c =
    let last = c.last.ensures.value ∙ ap last_of c.deref.ensures.value in
    let read = subst (λ (w : Option ViewStart). (start_at c.args.base) w c.loop.cut ≡ Ok (c.in_ok-start.start, c.read_start.new.cut)) last c.in_ok-start.ensures in
    rw c.in_ok-push.ensures.items (goes_on (start_at c.args.base) c.loop.starts.items c.args.count c.loop.counter c.loop.cut _ c.in_ok-start.start (repeated_at (start_at c.args.base) None c.args.count c.args.cut.now) c.loop-test.true read c.loop.invariant)

pub returns : goal.returns
returns c = is_done (start_at c.args.base) c.loop.starts.items c.args.count c.loop.counter c.loop.cut (repeated_at (start_at c.args.base) None c.args.count c.args.cut.now) c.loop-test.false c.loop.invariant
