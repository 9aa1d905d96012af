use Rattle.gl_audit.proofs.KeptLedgers.{unkeyed}
use Rattle.gl_audit.proofs.ledger_state.LedgerState.identity.Goals as goal

pub returns-in-None-clause-none : goal.returns-in-None-clause-none
returns-in-None-clause-none c = λ body es k. unkeyed body es _ k c.in-None.is
