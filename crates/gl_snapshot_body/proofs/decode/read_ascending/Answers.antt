use Rattle.std.proofs.Common.{◌≡◌, ◌∙◌, None, Ok, Option, ap, subst}
use Rattle.std.proofs.lemmas.Result.{err_from_is_err_and}
use Rattle.gl_base.specs.Answers.{Fails}
use Rattle.gl_vmaps.specs.declared.row.Row.{Row}
use Rattle.gl_snapshot_body.specs.Parsing.{repeated_at, row_at}
use Rattle.gl_snapshot_body.proofs.Loop.{last_of, goes_on, ends, is_done}
use Rattle.gl_snapshot_body.proofs.Ascending.{rows-ascend}
use Rattle.gl_snapshot_body.proofs.decode.read_ascending.Goals as goal

pub returns-in_err-row-clause-exact : goal.returns-in_err-row-clause-exact
returns-in_err-row-clause-exact c =
    let p = err_from_is_err_and c.from_residual.result c.from_residual.ensures.1 in
    let last = c.last.ensures.value ∙ ap last_of c.deref.ensures.value in
    let fails = subst (λ (w : Option Row). Fails c.in_err-row.field-0.0 (row_at w c.loop.cut)) last c.in_err-row.ensures in
    rw (p.1, p.2) (ends row_at _ c.loop.rows.items c.args.count c.loop.counter c.loop.cut (repeated_at row_at None c.args.count c.args.cut.now) c.loop-test.true fails c.loop.invariant)

pub loop-preserved : goal.loop-preserved
loop-preserved c =
    let last = c.last.ensures.value ∙ ap last_of c.deref.ensures.value in
    let read = subst (λ (w : Option Row). row_at w c.loop.cut ≡ Ok (c.in_ok-row.row, c.read_row.new.cut)) last c.in_ok-row.ensures in
    rw c.in_ok-push.ensures.items (goes_on row_at c.loop.rows.items c.args.count c.loop.counter c.loop.cut _ c.in_ok-row.row (repeated_at row_at None c.args.count c.args.cut.now) c.loop-test.true read c.loop.invariant)

pub returns-clause-exact : goal.returns-clause-exact
returns-clause-exact c = is_done row_at c.loop.rows.items c.args.count c.loop.counter c.loop.cut (repeated_at row_at None c.args.count c.args.cut.now) c.loop-test.false c.loop.invariant

pub returns-clause-ascending : goal.returns-clause-ascending
returns-clause-ascending c =
    rows-ascend c.args.count c.args.cut.now c.loop.cut c.loop.rows.items
    (is_done row_at c.loop.rows.items c.args.count c.loop.counter c.loop.cut (repeated_at row_at None c.args.count c.args.cut.now) c.loop-test.false c.loop.invariant)
