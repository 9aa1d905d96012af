use Rattle.serde_json.specs.View.{view}
use Rattle.gl_forms.proofs.FitLemmas.{answered}
use Rattle.gl_forms.proofs.FitForms.{recovery_fits}
use Rattle.gl_forms.proofs.settings.read_recovery.Goals as goal

pub returns-clause-fits : goal.returns-clause-fits
returns-clause-fits c = answered c.recovery_in.result c.recovery_in.ensures (recovery_fits (view c.in_ok-tree.tree))
