use Rattle.std.proofs.Common.{◌-◌, length, Some, ap, ◌∙◌, arith}
use Rattle.std.specs.Option.{option_or}
use Rattle.std.proofs.Math.ListN.{get_or, set}
use Rattle.gl_gov_rows.proofs.NodesByNumber.{outside, at_its_place}
use Rattle.gl_gov_rows.proofs.numbered.put.Goals.{else-number-ge1-via-then-number-ge1+else-number-places, else-number-ge1-via-else-number-ge1}
use Rattle.gl_gov_rows.proofs.numbered.put.Goals as goal

pub returns-then-number-places : goal.returns-then-number-places
returns-then-number-places c = λ ns are.
    let i = c.from-number.result - 1 in
    let d = c.index-places-number.result in
    ap (set c.args.places.now i) c.fill.ensures ∙ ap (λ places. set places i (option_or (get_or places i d) (Some c.args.node))) are
    ∙ at_its_place ns c.args.node 1 (length c.args.places.now) i d (omega (arith, c.if-number-ge1.true, c.if-number-places.true)) (omega (arith, c.if-number-ge1.true, c.from-number.ensures))

pub returns-else-number-ge1 : goal.returns-else-number-ge1
returns-else-number-ge1 c = λ ns are.
    are ∙ outside ns c.args.node 1 (length c.args.places.now)
    (λ i within same. elim c.else-number-ge1.branch [
      | else-number-ge1-via-then-number-ge1+else-number-places w ↦ omega (arith, within, same, c.from-number.ensures, w.if-number-ge1, w.if-number-places)
      | else-number-ge1-via-else-number-ge1 w ↦ omega (arith, within, same, c.from-number.ensures, w.if-number-ge1)
    ])
