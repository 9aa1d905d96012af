use Rattle.gl_snapshot_body.specs.Body.{no_body}
use Rattle.gl_store.proofs.ledger_tail.LedgerTail.new.Goals as goal

pub of_state-requires : goal.of_state-requires
of_state-requires c = (_, c.in_ok-state.ensures.state, c.in_ok-state.ensures.whole)

pub returns-clause-stands : goal.returns-clause-stands
returns-clause-stands c = c.of_state.ensures.stands no_body c.in_ok-state.ensures.state c.in_ok-state.ensures.whole
