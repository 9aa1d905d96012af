use Rattle.std.proofs.Common.{refl, ap, ◌∙◌}
use Rattle.gl_receipt.specs.Verdict.{transaction_of}
use Rattle.gl_receipt.proofs.AcceptLemmas.{accepted, no_evidence}
use Rattle.gl_receipt.proofs.verdict.verify.Goals as goal

pub returns-in_err-id-clause-accepts : goal.returns-in_err-id-clause-accepts
returns-in_err-id-clause-accepts c =
    let text = ap (transaction_of c.args.identity.now) (c.as_bytes.ensures.value ∙ c.as_str-evidence.ensures) in
    no_evidence c.args.identity.now c.args.receipt.now c.in_err-id.field-0.0 (c.in_err-id.ensures ∙ text) c.from_residual.result c.from_residual.ensures.0

pub returns-clause-accepts : goal.returns-clause-accepts
returns-clause-accepts c =
    let text = ap (transaction_of c.args.identity.now) (c.as_bytes.ensures.value ∙ c.as_str-evidence.ensures) in
    accepted c.args.identity.now c.args.receipt.now c.in_ok-id.id (c.in_ok-id.ensures ∙ text) (c.in_ok-check_signature.ensures.valid.0 refl)
