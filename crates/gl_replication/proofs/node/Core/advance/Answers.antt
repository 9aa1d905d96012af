use Rattle.std.proofs.Common.{refl, length}
use Rattle.gl_rules.specs.Replication.{advance, commit_to, greatest_to_commit}
use Rattle.gl_replication.proofs.Rows.{steps_led, refuses_denied}
use Rattle.gl_replication.proofs.node.Core.advance.Goals as goal

pub returns-in-Leader-clause-steps : goal.returns-in-Leader-clause-steps
unfolding advance
returns-in-Leader-clause-steps g c =
    steps_led g.B.Book.stands (λ b x n. advance b x n) (λ b x n. commit_to b n (greatest_to_commit b x n (length n.log))) (λ b x n. refl) c.in-Leader.is c.advance_as_leader.ensures.steps

pub returns-in_default-clause-refused : goal.returns-in_default-clause-refused
unfolding advance
returns-in_default-clause-refused g c =
    refuses_denied g.B.Book.stands (λ b x n. advance b x n) (λ b x n. commit_to b n (greatest_to_commit b x n (length n.log))) (λ b x n. refl) c.in_default.not-Leader
