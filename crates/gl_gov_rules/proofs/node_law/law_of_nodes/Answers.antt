use Rattle.gl_gov_rules.specs.Changes.{history}
use Rattle.gl_gov_rules.proofs.HistoryLists.{nodes_more}
use Rattle.gl_gov_rules.proofs.Removals.{removal_kept, removal_new, removal_within, mark_kept, mark_new, mark_within}
use Rattle.gl_gov_rules.proofs.NewNodes.{nodes_distinct}
use Rattle.gl_gov_rules.proofs.Statuses.{marked, not_trusted, trusted_recorded}
use Rattle.gl_gov_rules.proofs.SomeTrusted.{some_trusted}
use Rattle.gl_gov_rules.proofs.node_law.law_of_nodes.Goals as goal

pub returns-clause-removal_kept : goal.returns-clause-removal_kept
returns-clause-removal_kept c = removal_kept

pub returns-clause-removal_new : goal.returns-clause-removal_new
returns-clause-removal_new c = λ rs r id s follows. removal_new rs r id s follows.above

pub returns-clause-mark_kept : goal.returns-clause-mark_kept
returns-clause-mark_kept c = mark_kept

pub returns-clause-mark_new : goal.returns-clause-mark_new
returns-clause-mark_new c = mark_new

pub returns-clause-marked : goal.returns-clause-marked
returns-clause-marked c = marked

pub returns-clause-distinct : goal.returns-clause-distinct
returns-clause-distinct c = λ rs i j m n all. nodes_distinct rs all i j m n

pub returns-clause-not_trusted : goal.returns-clause-not_trusted
returns-clause-not_trusted c = not_trusted

pub returns-clause-trusted_recorded : goal.returns-clause-trusted_recorded
returns-clause-trusted_recorded c = λ rs id. trusted_recorded (history rs) id

pub returns-clause-nodes_kept : goal.returns-clause-nodes_kept
returns-clause-nodes_kept c = nodes_more

pub returns-clause-removal_within : goal.returns-clause-removal_within
returns-clause-removal_within c = removal_within

pub returns-clause-mark_within : goal.returns-clause-mark_within
returns-clause-mark_within c = mark_within

pub returns-clause-some_trusted : goal.returns-clause-some_trusted
returns-clause-some_trusted c = some_trusted
