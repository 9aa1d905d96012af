use Rattle.std.proofs.Common.{◌≡◌, ◌≤◌, ◌-◌, ℕ, List, Option, None, Some, length, min, take, refl, ap, subst, sym, ◌∙◌, arith}
use Rattle.gl_entry.specs.declared.entry.Entry.{Entry}
use Rattle.gl_rules.specs.Log.{last_signature}
use Rattle.gl_rules.specs.Node.{Node}
use Rattle.gl_rules.specs.Replication.{greatest_evidence}
use Rattle.gl_snapshot.specs.Snapshot.{file_bytes}
use Rattle.gl_snapshot.specs.declared.snapshot.Snapshot.{Snapshot}
use Rattle.gl_answers.specs.Snapshots.{Gives, IsSnapshotWith, part_of}
use Rattle.gl_answers.specs.declared.part.Part.{Part}
use Rattle.std.proofs.lemmas.List.{take_min}
use Rattle.gl_replication.proofs.Merging.{commit_of}
use Rattle.gl_replication.proofs.Rows.{if_ok}
use Rattle.gl_answers.proofs.part.part_of_snapshot.Goals as goal

pub snapshot_part-requires-clause-within : goal.snapshot_part-requires-clause-within
snapshot_part-requires-clause-within g c = λ b h s. let k = c.committed_len.ensures b h s in omega (arith, k)

pub snapshot_part-requires-clause-evidence : goal.snapshot_part-requires-clause-evidence
snapshot_part-requires-clause-evidence g c = λ b h s.
    ap (λ (l : List Entry). greatest_evidence b h.log h.base (last_signature b l - 1))
    (ap (λ k. take k h.log) (c.committed_len.ensures b h s) ∙ take_min c.args.core.now.commit h.log)
    ∙ sym (c.snapshot_evidence.ensures.evidence b h s)
    ∙ c.in-Some.is

pub returns-in-None-clause-part : goal.returns-in-None-clause-part
returns-in-None-clause-part g c = λ b x n s. subst (λ (e : Option ℕ). Gives n c.args.offset e None) (sym c.in-None.is ∙ c.snapshot_evidence.ensures.value b x n s) refl

pub returns-in-Some-clause-part : goal.returns-in-Some-clause-part
returns-in-Some-clause-part g c =
    if_ok c.snapshot_part.result (λ part given b x n s.
    let commit : c.committed_len.result ≡ min n.commit (length n.log) = c.committed_len.ensures b _ s.ledger ∙ ap (λ k. min k (length n.log)) (commit_of g.B.Book.stands s) in
    let made = given b _ s.ledger in
    subst (λ (e : Option ℕ). Gives n c.args.offset e part) (sym c.in-Some.is ∙ c.snapshot_evidence.ensures.value b x n s)
    (made.0, subst (λ k. IsSnapshotWith n.base n.log k c.in-Some.evidence made.0) commit made.1, made.2))
    c.snapshot_part.ensures.part
