use Rattle.serde_json.specs.View.{view}
use Rattle.gl_forms.proofs.FitLemmas.{answered}
use Rattle.gl_forms.proofs.FitForms.{act_fits}
use Rattle.gl_forms.proofs.request.read_request.Goals as goal

pub returns-clause-fits : goal.returns-clause-fits
returns-clause-fits c = answered c.act_in.result c.act_in.ensures (act_fits (view c.in_ok-tree.tree))
