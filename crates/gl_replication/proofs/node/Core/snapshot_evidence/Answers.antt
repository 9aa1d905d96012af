use Rattle.std.proofs.Common.{◌≡◌, ◌-◌, take, ap, sym, ◌∙◌}
use Rattle.gl_rules.specs.Log.{last_signature}
use Rattle.gl_rules.specs.Replication.{greatest_evidence}
use Rattle.gl_replication.proofs.Merging.{commit_of}
use Rattle.gl_replication.proofs.Installs.{evidence_same, snapshot_is}
use Rattle.gl_replication.proofs.node.Core.snapshot_evidence.Goals as goal

pub returns-clause-value : goal.returns-clause-value
returns-clause-value g c = λ b x n s.
    snapshot_is b n c.args.self.now.commit c.signature_upto-signed.result c.evidence_upto.result (commit_of g.B.Book.stands s) (c.signature_upto-signed.ensures b _ s.ledger)
    (c.evidence_upto.ensures b _ s.ledger ∙ ap (greatest_evidence b n.log n.base) c.saturating_sub.ensures)

pub returns-clause-evidence : goal.returns-clause-evidence
returns-clause-evidence g c = λ b h s.
    c.evidence_upto.ensures b h s
    ∙ ap (greatest_evidence b h.log h.base) c.saturating_sub.ensures
    ∙ evidence_same b h.log h.base c.signature_upto-signed.result (last_signature b (take c.args.self.now.commit h.log)) (c.signature_upto-signed.ensures b h s)
