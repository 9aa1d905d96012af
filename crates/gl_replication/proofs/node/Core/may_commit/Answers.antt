use Rattle.std.proofs.Common.{rules, ap, ◌∙◌}
use Rattle.gl_rules.specs.Majority.{quorum}
use Rattle.gl_config.specs.Active.{active_of, sets_of}
use Rattle.gl_replication.specs.Pairs.{held, holds}
use Rattle.gl_replication.proofs.Commits.{may}
use Rattle.gl_replication.proofs.node.Core.may_commit.Goals as goal

pub returns : goal.returns
returns g c = λ b x n s w.
    may g.B.Book.stands s c.args.seqno c.me.result c.is_quorum_holding.result c.is_signature_in.result c.configurations.result.now w c.if-seqno-self.false (search rules)
    (c.is_signature_in.ensures b _ s.ledger) (c.me.ensures b _ s.ledger) (c.configurations.ensures.active b _ s.ledger)
    (c.is_quorum_holding.ensures ∙ ap (λ m. quorum (holds c.me.result c.args.seqno (held m)) (sets_of (active_of c.configurations.result.now c.args.self.now.commit))) c.deref.ensures.value)
