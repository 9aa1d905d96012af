use Rattle.std.proofs.Common.{◌∙◌}
use Rattle.gl_audit.proofs.Nodes.{above_kept}
use Rattle.gl_audit.proofs.ledger_state.LedgerState.is_above_removals.Goals as goal

pub returns : goal.returns
returns c = λ body es k.
    c.are_above_removals.ensures
    ∙ above_kept body es c.args.self.now c.history.result.now c.last_signed.result c.args.commit k c.history.ensures.history (c.last_signed.ensures body es k)
