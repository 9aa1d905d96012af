use Rattle.std.proofs.Common.{◌∙◌}
use Rattle.gl_audit.proofs.PastOver.{signed_kept}
use Rattle.gl_audit.proofs.ledger_state.LedgerState.is_signed.Goals as goal

pub returns : goal.returns
returns c = λ body es k. c.signs_at.ensures body es k ∙ signed_kept body es c.args.self.now k
