use Rattle.std.proofs.Common.{◌≡◌, ◌+◌, ◌-◌, ℕ, take, ap, subst, sym, ◌∙◌, arith}
use Rattle.gl_rules.specs.Log.{entry_at, last_signature}
use Rattle.gl_rules.specs.Replication.{greatest_evidence, is_evidence_at}
use Rattle.gl_replication.proofs.Merging.{commit_of}
use Rattle.gl_replication.proofs.Installs.{evidence_within, found_at}
use Rattle.gl_replication.proofs.node.Core.snapshot.Goals as goal

pub snapshot-requires-clause-base : goal.snapshot-requires-clause-base
snapshot-requires-clause-base g c = λ b h s.
    let found = found_at b h.log h.base (last_signature b (take c.args.self.now.commit h.log) - 1) c.in-Some.seqno (sym (c.snapshot_evidence.ensures.evidence b h s) ∙ c.in-Some.is) in
    omega (arith, found.0, c.saturating_sub.ensures)

pub snapshot-requires-clause-within : goal.snapshot-requires-clause-within
snapshot-requires-clause-within g c = λ b h s.
    let found = found_at b h.log h.base (last_signature b (take c.args.self.now.commit h.log) - 1) c.in-Some.seqno (sym (c.snapshot_evidence.ensures.evidence b h s) ∙ c.in-Some.is) in
    omega (arith, evidence_within b h.log c.in-Some.seqno found.1, c.saturating_sub.ensures)

pub snapshot-requires-clause-evidence : goal.snapshot-requires-clause-evidence
snapshot-requires-clause-evidence g c = λ b h s.
    let found = found_at b h.log h.base (last_signature b (take c.args.self.now.commit h.log) - 1) c.in-Some.seqno (sym (c.snapshot_evidence.ensures.evidence b h s) ∙ c.in-Some.is) in
    let next : c.saturating_sub.result + 1 ≡ c.in-Some.seqno = omega (arith, found.0, c.saturating_sub.ensures) in
    ap (λ k. is_evidence_at b (entry_at h.log k)) next ∙ found.1

pub returns-in-None : goal.returns-in-None
returns-in-None g c = λ b x n s. (sym (c.snapshot_evidence.ensures.value b x n s) ∙ c.in-None.is, commit_of g.B.Book.stands s)

pub returns-in_ok-body-in-Some : goal.returns-in_ok-body-in-Some
returns-in_ok-body-in-Some g c = λ b x n s. (
  c.in_ok-body-in-Some.ensures.writable b _ s.ledger,
  c.in-Some.seqno,
  sym (c.snapshot_evidence.ensures.value b x n s) ∙ c.in-Some.is,
  subst (λ (k : ℕ). g.B.Snapshots.shows c.in_ok-body-in-Some.body b (take k n.log)) c.saturating_sub.ensures (c.in_ok-body-in-Some.ensures.shown b _ s.ledger),
)
