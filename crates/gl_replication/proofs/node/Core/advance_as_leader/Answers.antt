use Rattle.std.proofs.Common.{rules, refl, sym, ◌∙◌}
use Rattle.gl_replication.proofs.Commits.{committing}
use Rattle.gl_replication.proofs.node.Core.advance_as_leader.Goals as goal

pub returns-in-Some-clause-steps : goal.returns-in-Some-clause-steps
returns-in-Some-clause-steps g c = λ b x n s.
    committing g.B.Book.stands s _ c.in-Some.seqno c.view_at.result _ (search rules) (sym c.in-Some.is ∙ c.greatest_to_commit.ensures.value b x n s) (c.view_at.ensures b _ s.ledger) refl (search rules)
