use Rattle.gl_gov_rules.proofs.RowOfService.{service_value, founded_row, identity_reported, state_reported}
use Rattle.gl_gov_rules.proofs.KeptIdentity.{identity_kept}
use Rattle.gl_gov_rules.proofs.laws.law_of_service.Goals as goal

pub returns : goal.returns
returns c = record {
  founded = founded_row;
  row = service_value;
  identity = identity_reported;
  state = state_reported;
  kept = identity_kept;
}
