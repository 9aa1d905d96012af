use Rattle.std.proofs.Common.{◌≤◌, length, sym, ◌∙◌, arith}
use Rattle.gl_hss.proofs.Verdicts.{verdict_ok, valid_verdict, ok_nothing, nothing_ok, on_ok}
use Rattle.gl_hss.proofs.Bounds.{length-valid}
use Rattle.gl_hss.proofs.verdict.verify_knowing.Goals as goal

pub returns-clause-valid : goal.returns-clause-valid
returns-clause-valid c =
    let key = c.args.key.now in
    let message = c.args.message.now in
    let signature = c.args.signature.now in (
      λ ok. verdict_ok key message signature c.fits-key c.told-key (λ i. omega (arith, c.type_inv.signature i)) (sym c.verdict.ensures ∙ ok_nothing c.verdict.result ok),
      λ valid. nothing_ok c.verdict.result (c.verdict.ensures ∙ valid_verdict key message signature valid),
    )

pub returns-clause-most : goal.returns-clause-most
returns-clause-most c =
    let key = c.args.key.now in
    let message = c.args.message.now in
    let signature = c.args.signature.now in
    on_ok c.verdict.result (length signature ≤ 5076)
    (λ ok. length-valid key message signature (verdict_ok key message signature c.fits-key c.told-key (λ i. omega (arith, c.type_inv.signature i)) (sym c.verdict.ensures ∙ ok_nothing c.verdict.result ok)))
