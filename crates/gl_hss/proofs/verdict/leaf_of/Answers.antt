use Rattle.std.proofs.Common.{◌<◌, sym, ◌∙◌, arith}
use Rattle.gl_hss.proofs.Bounds.{leaf-small, if_ok}
use Rattle.gl_hss.proofs.Leaves.{leaf_verdict_ok, leaf_there}
use Rattle.gl_hss.proofs.verdict.leaf_of.Goals as goal

pub returns-clause-leaf : goal.returns-clause-leaf
returns-clause-leaf c = λ q. (
  λ read. leaf_verdict_ok c.args.signature.now q (λ i. omega (arith, c.type_inv.signature i)) (sym c.leaf_verdict.ensures ∙ read),
  λ encoded. c.leaf_verdict.ensures ∙ leaf_there c.args.signature.now q encoded,
)

pub returns-clause-below : goal.returns-clause-below
returns-clause-below c =
    if_ok c.leaf_verdict.result (λ q. q < 1024)
    (λ q read. leaf-small c.args.signature.now q (leaf_verdict_ok c.args.signature.now q (λ i. omega (arith, c.type_inv.signature i)) (sym c.leaf_verdict.ensures ∙ read)))
