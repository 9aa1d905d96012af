use Rattle.std.proofs.Common.{Some, ◌∙◌, ap}
use Rattle.gl_gov_rules.specs.GovernedRows.{begin_with}
use Rattle.gl_gov_rules.specs.declared.row.GovernedRows.{GovernedRows}
use Rattle.gl_audit.proofs.GovStates.{state_of_rows}
use Rattle.gl_audit.proofs.gov_state.GovState.of_rows.Goals as goal

pub invariant_of-result : goal.invariant_of-result
invariant_of-result c = state_of_rows _ _ c.requires.read (c.in_ok-past.ensures ∙ ap (λ (g : GovernedRows). begin_with (Some g)) c.deref.ensures)
