use Rattle.gl_shares.proofs.Joins.{joined-values, joined-secret}
use Rattle.gl_shares.proofs.laws.law_of_joining.Goals as goal

pub returns-clause-values : goal.returns-clause-values
returns-clause-values c = joined-values

pub returns-clause-secret : goal.returns-clause-secret
returns-clause-secret c = joined-secret
