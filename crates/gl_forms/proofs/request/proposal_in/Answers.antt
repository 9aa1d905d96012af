use Rattle.serde_json.specs.View.{view}
use Rattle.gl_forms.proofs.FitLemmas.{answered}
use Rattle.gl_forms.proofs.FitForms.{actions_fit}
use Rattle.gl_forms.proofs.request.proposal_in.Goals as goal

pub returns-clause-fits : goal.returns-clause-fits
returns-clause-fits c = answered c.actions_in.result c.actions_in.ensures (actions_fit (view c.args.value.now))
