use Rattle.gl_store.proofs.ledger_tail.LedgerTail.at_base.Goals as goal

pub of_state-requires : goal.of_state-requires
of_state-requires c = (c.args.body, c.in_ok-state.ensures.state, c.in_ok-state.ensures.whole)
