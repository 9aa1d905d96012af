use Rattle.std.proofs.Common.{◌+◌, None, Ok, Option, ap, ◌∙◌, subst, ◌≡◌}
use Rattle.std.proofs.lemmas.Result.{err_from_is_err_and}
use Rattle.gl_vmaps.specs.declared.write.Write.{Write}
use Rattle.gl_base.specs.Answers.{Fails}
use Rattle.gl_entry.specs.Parsing.{row_of, write_at, writes_from}
use Rattle.gl_entry.proofs.Loop.{last_of, goes_on, ends, is_done}
use Rattle.gl_entry.proofs.Ordered.{writes_ordered}
use Rattle.gl_entry.proofs.writes.read_rows.Goals as goal

pub returns-in_err-write-clause-exact : goal.returns-in_err-write-clause-exact
returns-in_err-write-clause-exact c =
    let p = err_from_is_err_and c.from_residual.result c.from_residual.ensures.1 in
    let last = c.last.ensures.value ∙ ap last_of c.deref.ensures.value in
    let fails = subst (λ (w : Option Write). Fails c.in_err-write.field-0.0 (write_at (c.loop-index.index + 1) (row_of w) c.loop-index.cut)) last c.in_err-write.ensures in
    rw (p.1, p.2) (ends _ c.loop-index.writes.items c.args.count c.loop-index.index c.loop-index.cut (writes_from 1 None c.args.count c.args.cut.now) c.loop-index-test.true fails c.loop-index.invariant)

pub loop-index-preserved : goal.loop-index-preserved
loop-index-preserved c =
    let last = c.last.ensures.value ∙ ap last_of c.deref.ensures.value in
    let read = subst (λ (w : Option Write). write_at (c.loop-index.index + 1) (row_of w) c.loop-index.cut ≡ Ok (c.in_ok-write.write, c.read_write.new.cut)) last c.in_ok-write.ensures in
    rw c.in_ok-push.ensures.items (goes_on c.loop-index.writes.items c.args.count c.loop-index.index c.loop-index.cut _ c.in_ok-write.write (writes_from 1 None c.args.count c.args.cut.now) c.loop-index-test.true read c.loop-index.invariant)

pub returns-clause-exact : goal.returns-clause-exact
returns-clause-exact c = is_done c.loop-index.writes.items c.args.count c.loop-index.index c.loop-index.cut (writes_from 1 None c.args.count c.args.cut.now) c.loop-index-test.false c.loop-index.invariant

pub returns-clause-ordered : goal.returns-clause-ordered
returns-clause-ordered c =
    writes_ordered c.args.count c.args.cut.now c.loop-index.cut c.loop-index.writes.items
    (is_done c.loop-index.writes.items c.args.count c.loop-index.index c.loop-index.cut (writes_from 1 None c.args.count c.args.cut.now) c.loop-index-test.false c.loop-index.invariant)
