use Rattle.std.proofs.Common.{◌∙◌}
use Rattle.gl_audit.proofs.SignatureSeqnos.{last_over}
use Rattle.gl_audit.proofs.ledger_state.LedgerState.last_signed.Goals as goal

pub returns : goal.returns
returns c = λ body es k. c.last_or_zero.ensures ∙ last_over body es c.deref.result.now (c.deref.ensures.value ∙ k.signed)
