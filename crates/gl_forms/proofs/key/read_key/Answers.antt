use Rattle.serde_json.specs.View.{view}
use Rattle.gl_forms.proofs.FitLemmas.{answered}
use Rattle.gl_forms.proofs.FitForms.{key_fits}
use Rattle.gl_forms.proofs.key.read_key.Goals as goal

pub returns-clause-fits : goal.returns-clause-fits
returns-clause-fits c = answered c.key_in.result c.key_in.ensures (key_fits (view c.in_ok-tree.tree))
