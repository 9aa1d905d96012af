use Rattle.gl_gov_rules.specs.GovernedRows.{history_over}
use Rattle.gl_gov_rules.proofs.Statuses.{trusted_recorded}
use Rattle.gl_gov_base.proofs.NodesOver.{removal_kept_over, removal_new_over, mark_kept_over, mark_new_over, marked_over, nodes_distinct_over, not_trusted_over, nodes_kept_over, removal_within_over, mark_within_over}
use Rattle.gl_gov_base.proofs.laws_over.law_of_nodes_over.Goals as goal

pub returns-clause-removal_kept : goal.returns-clause-removal_kept
returns-clause-removal_kept c = removal_kept_over

pub returns-clause-removal_new : goal.returns-clause-removal_new
returns-clause-removal_new c = removal_new_over

pub returns-clause-mark_kept : goal.returns-clause-mark_kept
returns-clause-mark_kept c = mark_kept_over

pub returns-clause-mark_new : goal.returns-clause-mark_new
returns-clause-mark_new c = mark_new_over

pub returns-clause-marked : goal.returns-clause-marked
returns-clause-marked c = marked_over

pub returns-clause-distinct : goal.returns-clause-distinct
returns-clause-distinct c = λ base rs i j m n read all. nodes_distinct_over base rs read all i j m n

pub returns-clause-not_trusted : goal.returns-clause-not_trusted
returns-clause-not_trusted c = not_trusted_over

pub returns-clause-trusted_recorded : goal.returns-clause-trusted_recorded
returns-clause-trusted_recorded c = λ base rs id. trusted_recorded (history_over base rs) id

pub returns-clause-nodes_kept : goal.returns-clause-nodes_kept
returns-clause-nodes_kept c = nodes_kept_over

pub returns-clause-removal_within : goal.returns-clause-removal_within
returns-clause-removal_within c = removal_within_over

pub returns-clause-mark_within : goal.returns-clause-mark_within
returns-clause-mark_within c = mark_within_over
