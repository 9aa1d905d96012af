use Rattle.gl_gov.proofs.Selected.{all_selected}
use Rattle.gl_audit.specs.GovState.{history_of}
use Rattle.gl_audit.proofs.gov_state.GovState.rows.Goals as goal

pub returns : goal.returns
returns c = record { rows = rw (all_selected (history_of c.args.self.now)) at c.selected_rows.ensures.rows }
