use Rattle.std.proofs.Common.{ap, ◌∙◌}
use Rattle.gl_base.specs.declared.tx_id.TxId.{TxId}
use Rattle.gl_replication.proofs.NodeReadings.{stage_is}
use Rattle.gl_replication.proofs.node.Core.stage.Goals as goal

pub returns : goal.returns
returns g c = λ b x n s.
    c.of.ensures
    ∙ stage_is g.B.Book.stands s c.removal.result c.mark.result c.last_signature-signed.result.seqno c.args.node.now (c.removal.ensures b _ s.ledger) (ap (λ (m : TxId). m.seqno) (c.last_signature-signed.ensures.value b _ s.ledger)) (c.mark.ensures b _ s.ledger)
