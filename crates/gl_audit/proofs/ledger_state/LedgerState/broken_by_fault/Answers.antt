use Rattle.gl_audit.proofs.PastOver.{keyed_kept}
use Rattle.gl_audit.proofs.ledger_state.LedgerState.broken_by_fault.Goals as goal

pub unreachable-requires : goal.unreachable-requires
unreachable-requires c = keyed_kept c.requires.state.0 c.requires.state.1 c.args.self.now c.requires.state.2 c.requires.some c.in_default.is
