use Rattle.serde_json.specs.View.{view}
use Rattle.gl_forms.proofs.FitLemmas.{answered}
use Rattle.gl_forms.proofs.FitForms.{settings_fit}
use Rattle.gl_forms.proofs.settings.read_settings.Goals as goal

pub returns-clause-fits : goal.returns-clause-fits
returns-clause-fits c = answered c.settings_in.result c.settings_in.ensures (settings_fit (view c.in_ok-tree.tree))
