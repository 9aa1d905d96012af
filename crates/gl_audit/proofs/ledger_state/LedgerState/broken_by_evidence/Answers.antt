use Rattle.std.proofs.Common.{rules, ◌≡◌, ℕ, ◌∙◌, Some, true, ap, sym, subst}
use Rattle.gl_base.specs.Answers.{Fails}
use Rattle.gl_base.specs.declared.or_no_memory.OrNoMemory.{OrNoMemory}
use Rattle.gl_ledger.specs.Past.{past_over}
use Rattle.gl_ledger.specs.Snapshot.{snapshot_over}
use Rattle.gl_ledger.specs.declared.breach.Broken.{Broken}
use Rattle.gl_snapshot_body.specs.Body.{body_bytes}
use Rattle.gl_snapshot_body.specs.Digest.{digest_within}
use Rattle.gl_audit.proofs.PastOver.{body_kept, len_kept}
use Rattle.gl_audit.proofs.RuleTests.{evidence_too_long}
use Rattle.gl_audit.proofs.ledger_state.LedgerState.broken_by_evidence.Goals as goal

pub returns-in-Err-Fault : goal.returns-in-Err-Fault
returns-in-Err-Fault c = λ body es k.
    let signed : c.is_signed.result ≡ true = search rules in
    let bytes = body_bytes (snapshot_over body es) in
    ap (λ (b : Broken). Some b) c.breach-in-Err-Fault.ensures
    ∙ evidence_too_long (past_over body es) c.args.digest.now c.args.entry.now c.args.self.now.end.len _ bytes (sym (len_kept body es c.args.self.now k))
    (ap body_bytes (sym (body_kept body es c.args.self.now k))) (sym signed ∙ c.is_signed.ensures body es k)
    (subst (λ (e : OrNoMemory ℕ). Fails e (digest_within bytes)) c.in-Err-Fault.field-0-is (c.in-Err-Fault.ensures body es k))
