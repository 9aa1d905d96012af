use Rattle.std.proofs.Common.{◌≤◌, length, sym, ◌∙◌, arith}
use Rattle.gl_hss.proofs.Verdicts.{ok_nothing, nothing_ok, on_ok}
use Rattle.gl_hss.proofs.Endorsements.{endorsement_ok, endorsement_there}
use Rattle.gl_hss.proofs.Bounds.{length-endorsement}
use Rattle.gl_hss.proofs.endorsement.verify_endorsement.Goals as goal

pub returns-clause-valid : goal.returns-clause-valid
returns-clause-valid c =
    let identity = c.args.identity.now in
    let key = c.args.key.now in
    let e = c.args.endorsement.now in (
      λ ok. endorsement_ok identity key e c.fits-identity c.told-identity (λ i. omega (arith, c.type_inv.endorsement i)) (sym c.endorsement_verdict.ensures ∙ ok_nothing c.endorsement_verdict.result ok),
      λ endorsed. nothing_ok c.endorsement_verdict.result (c.endorsement_verdict.ensures ∙ endorsement_there identity key e endorsed),
    )

pub returns-clause-most : goal.returns-clause-most
returns-clause-most c =
    let identity = c.args.identity.now in
    let key = c.args.key.now in
    let e = c.args.endorsement.now in
    on_ok c.endorsement_verdict.result (length e ≤ 2508)
    (λ ok. length-endorsement identity key e (endorsement_ok identity key e c.fits-identity c.told-identity (λ i. omega (arith, c.type_inv.endorsement i)) (sym c.endorsement_verdict.ensures ∙ ok_nothing c.endorsement_verdict.result ok)))
