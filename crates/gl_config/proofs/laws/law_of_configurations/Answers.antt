use Rattle.std.proofs.Common.{length}
use Rattle.gl_config.proofs.Ledgers.{configurations_ascend, active-read, active_upto-read, configurations_of-cut}
use Rattle.gl_config.proofs.laws.law_of_configurations.Goals as goal

pub returns-clause-ascending : goal.returns-clause-ascending
returns-clause-ascending g c = λ book log. configurations_ascend book log (length log)

pub returns-clause-active : goal.returns-clause-active
returns-clause-active g c = λ book log. active-read book log

pub returns-clause-active_upto : goal.returns-clause-active_upto
returns-clause-active_upto g c = λ book log. active_upto-read book log

pub returns-clause-cut : goal.returns-clause-cut
returns-clause-cut g c = λ book log. configurations_of-cut book log
