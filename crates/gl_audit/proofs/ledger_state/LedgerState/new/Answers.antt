use Rattle.std.proofs.Common.{sym, ◌∙◌}
use Rattle.gl_audit.proofs.KeptLedgers.{state_empty}
use Rattle.gl_audit.proofs.ledger_state.LedgerState.new.Goals as goal

pub returns : goal.returns
returns c =
    let made = c.in_ok-state.ensures in
    record {
      state = state_empty c.in_ok-state.state made.no_base made.no_view made.no_commit made.end made.signatures made.views made.gov made.service_state made.identity made.tables made.from_start made.whole made.base made.peaks made.leaves;
      whole = record { tables = made.whole ∙ sym made.no_base; leaves = made.base ∙ sym made.no_base };
    }
