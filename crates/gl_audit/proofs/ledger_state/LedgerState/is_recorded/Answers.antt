use Rattle.std.proofs.Common.{◌∙◌}
use Rattle.gl_audit.proofs.Nodes.{recorded_kept}
use Rattle.gl_audit.proofs.ledger_state.LedgerState.is_recorded.Goals as goal

pub returns : goal.returns
returns c = λ body es k.
    c.is_some.ensures ∙ recorded_kept body es c.args.self.now c.history.result.now c.args.node.now c.node.result k c.history.ensures.history c.node.ensures
