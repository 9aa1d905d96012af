use Rattle.std.proofs.Common.{◌≡◌, ◌+◌, ◌∷◌, drop, length, sym, ap, ◌∙◌, subst, arith}
use Rattle.std.proofs.lemmas.List.{drop_more}
use Rattle.std.proofs.lemmas.Result.{err_from_is_err_and}
use Rattle.gl_base.specs.Answers.{Answers}
use Rattle.gl_gov_rules.specs.GovernedRows.{no_rows, numbered_from, ended_rows, rows_from, governed_rows}
use Rattle.gl_gov_rows.proofs.Gathered.{ends, goes_on, is_done}
use Rattle.gl_gov_rows.proofs.read.governed_rows.Goals as goal

pub returns-in_err-add_governed : goal.returns-in_err-add_governed
unfolding governed_rows
returns-in_err-add_governed c =
    let all = c.args.rows.now in
    let index = c.loop-index.index in
    let r = c.index-rows-index.result in
    let p = err_from_is_err_and c.from_residual.result c.from_residual.ensures.1 in
    rw (p.1, p.2)
    (ends c.in_err-add_governed.field-0.0 index c.loop-index.gathered r all (rows_from 0 (no_rows c.args.seqno) all)
    (drop_more all index r c.loop-index-test.true ∙ ap (λ r. r ∷ drop (index + 1) all) (sym c.index-rows-index.is)) c.in_err-add_governed.ensures c.loop-index.invariant)

pub loop-index-preserved : goal.loop-index-preserved
loop-index-preserved c =
    let all = c.args.rows.now in
    let index = c.loop-index.index in
    let r = c.index-rows-index.result in
    goes_on index c.loop-index.gathered c.add_governed.new.self r all (rows_from 0 (no_rows c.args.seqno) all)
    (drop_more all index r c.loop-index-test.true ∙ ap (λ r. r ∷ drop (index + 1) all) (sym c.index-rows-index.is)) c.in_ok-add_governed.ensures c.loop-index.invariant

pub returns : goal.returns
unfolding governed_rows
returns c =
    let all = c.args.rows.now in
    let g = c.loop-index.gathered in
    let end : length all ≡ c.loop-index.index = omega (arith, c.loop-index-test.false, c.loop-index.auto.index-end) in
    subst (Answers (λ x. x) c.finish.result)
    (ap (λ index. ended_rows index g (numbered_from (length g.nodes) 1 g.nodes)) end
    ∙ is_done c.loop-index.index g all (rows_from 0 (no_rows c.args.seqno) all) c.loop-index-test.false c.loop-index.invariant)
    c.finish.ensures
