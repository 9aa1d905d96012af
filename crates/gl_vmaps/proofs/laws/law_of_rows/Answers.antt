use Rattle.gl_vmaps.proofs.RowsLaws.{base-value, base-count, determined}
use Rattle.gl_vmaps.proofs.laws.law_of_rows.Goals as goal

pub returns-clause-values : goal.returns-clause-values
returns-clause-values c = base-value

pub returns-clause-sizes : goal.returns-clause-sizes
returns-clause-sizes c = base-count

pub returns-clause-determined : goal.returns-clause-determined
returns-clause-determined c = determined
