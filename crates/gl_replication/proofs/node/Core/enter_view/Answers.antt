use Rattle.std.proofs.Common.{ℕ, [], None, ap, subst}
use Rattle.gl_base.specs.declared.tx_id.TxId.{TxId}
use Rattle.gl_rules.specs.Node.{Follower}
use Rattle.gl_rules.specs.Steps.{cut_to, enter_view}
use Rattle.gl_replication.specs.Stands.{StandsFor}
use Rattle.gl_replication.proofs.node.Core.enter_view.Goals as goal

pub returns-clause-turns : goal.returns-clause-turns
unfolding enter_view
returns-clause-turns g c = λ b x n s.
    subst (λ (k : ℕ). StandsFor g.B.Book.stands c.begin_view.new.self b x (record (cut_to k n) { view = c.args.view; vote = None; role = Follower; leader = None; votes = [] }))
    (ap (λ (m : TxId). m.seqno) (c.last_signature-seqno.ensures.value b _ s.ledger))
    (c.begin_view.ensures.turns b x _ (c.cut_to.ensures.turns b x n s))
