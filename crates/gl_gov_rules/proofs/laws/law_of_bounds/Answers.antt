use Rattle.gl_gov_rules.proofs.Bounded.{is_bounded}
use Rattle.gl_gov_rules.proofs.laws.law_of_bounds.Goals as goal

pub returns : goal.returns
returns c = record { bounded = is_bounded }
