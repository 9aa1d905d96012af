use Rattle.std.proofs.Common.{length, ap, subst, arith}
use Rattle.gl_base.specs.Answers.{Fails}
use Rattle.gl_gov_rules.specs.GovernedRows.{governed_rows}
use Rattle.gl_snapshot.proofs.Rows.{index_within}
use Rattle.gl_snapshot.proofs.body.governed.Goals as goal

pub row_place-requires-clause-index : goal.row_place-requires-clause-index
row_place-requires-clause-index c =
    let fault = c.in-Err-Fault in
    let rows = c.as_slice.result.now in
    let read = subst (λ e. Fails e (governed_rows c.args.body.base rows)) fault.field-0-is fault.ensures in
    omega (arith, index_within c.args.body.base rows fault.index read, ap length c.as_slice.ensures.value)
