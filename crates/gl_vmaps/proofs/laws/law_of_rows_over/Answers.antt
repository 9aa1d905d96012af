use Rattle.gl_vmaps.proofs.RowsOverLaws.{ordered-over, values-over, nothing-over, append-over}
use Rattle.gl_vmaps.proofs.laws.law_of_rows_over.Goals as goal

pub returns-clause-ascending : goal.returns-clause-ascending
returns-clause-ascending c = ordered-over

pub returns-clause-values : goal.returns-clause-values
returns-clause-values c = values-over

pub returns-clause-nothing : goal.returns-clause-nothing
returns-clause-nothing c = nothing-over

pub returns-clause-append : goal.returns-clause-append
returns-clause-append c = append-over
