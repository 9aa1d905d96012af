use Rattle.gl_config.specs.Active.{sets_of}
use Rattle.gl_replication.proofs.Rows.{if_ok}
use Rattle.gl_replication.proofs.PeerSteps.{active_is, others_are}
use Rattle.gl_replication.proofs.node.Core.others.Goals as goal

pub returns : goal.returns
returns g c = if_ok c.other_nodes.result
    (λ nodes k b x n s low. others_are g.B.Book.stands s c.args.upto nodes.items c.recorded_nodes.result.now c.me.result (sets_of c.of-active.result) k (c.me.ensures b _ s.ledger)
    (active_is g.B.Book.stands s c.args.upto c.configurations.result.now c.of-active.result c.of-active.ensures (c.configurations.ensures.active b _ s.ledger low)) (c.recorded_nodes.ensures b _ s.ledger low))
    c.other_nodes.ensures
