use Rattle.gl_gov_base.proofs.ServiceOver.{founded_over, sized_over, row_over, identity_over, state_over, identity_kept_over}
use Rattle.gl_gov_base.proofs.laws_over.law_of_service_over.Goals as goal

pub returns : goal.returns
returns c = record {
  founded = founded_over;
  sized = sized_over;
  row = row_over;
  identity = identity_over;
  state = state_over;
  kept = identity_kept_over;
}
