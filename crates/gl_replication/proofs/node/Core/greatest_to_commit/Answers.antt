use Rattle.std.proofs.Common.{sym, ◌∙◌, arith}
use Rattle.gl_replication.proofs.Commits.{greatest_here, greatest_below, greatest_none, commit_is}
use Rattle.gl_replication.proofs.node.Core.greatest_to_commit.Goals as goal

pub returns-then-may_commit-clause-value : goal.returns-then-may_commit-clause-value
returns-then-may_commit-clause-value g c = λ b x n s.
    let i = c.loop-seqno.invariant b x n s in
    sym (i.1 ∙ greatest_here b x n c.loop-seqno.seqno (omega (arith, c.loop-seqno-test.true)) (sym (c.may_commit.ensures b x n s i.0) ∙ c.if-may_commit.true))

pub loop-seqno-preserved : goal.loop-seqno-preserved
loop-seqno-preserved g c = λ b x n s.
    let i = c.loop-seqno.invariant b x n s in
    (omega (arith, i.0), i.1 ∙ greatest_below b x n c.loop-seqno.seqno (omega (arith, c.loop-seqno-test.true)) (sym (c.may_commit.ensures b x n s i.0) ∙ c.if-may_commit.false))

pub returns-clause-value : goal.returns-clause-value
returns-clause-value g c = λ b x n s.
    let i = c.loop-seqno.invariant b x n s in
    sym (i.1 ∙ greatest_none b x n c.loop-seqno.seqno (omega (arith, c.loop-seqno-test.false, commit_is g.B.Book.stands s)))
