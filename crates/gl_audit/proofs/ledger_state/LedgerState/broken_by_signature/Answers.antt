use Rattle.std.proofs.Common.{rules, refl, ℕ, ◌≡◌, ◌∙◌, true, false, Some, ap, sym}
use Rattle.gl_ledger.specs.declared.breach.Broken.{Broken}
use Rattle.gl_ledger.specs.Broken.{replay}
use Rattle.gl_ledger.specs.Past.{past_over}
use Rattle.gl_audit.proofs.PastOver.{len_kept}
use Rattle.gl_audit.proofs.RuleTests.{signature_asked}
use Rattle.gl_audit.proofs.ledger_state.LedgerState.broken_by_signature.Goals as goal

pub returns-then-not-is_recorded : goal.returns-then-not-is_recorded
returns-then-not-is_recorded c = λ body es k.
    let recorded : c.is_recorded.result ≡ false = search rules in
    ap (λ (b : Broken). Some b) c.breach.ensures
    ∙ sym (signature_asked (past_over body es) c.args.signature.now c.args.entry.now c.args.self.now.end.len false _ _ _ (sym (len_kept body es c.args.self.now k))
    (sym recorded ∙ c.is_recorded.ensures body es k) refl refl refl)

pub returns-then-not-same_bytes : goal.returns-then-not-same_bytes
returns-then-not-same_bytes c = λ body es k.
    let recorded : c.is_recorded.result ≡ true = search rules in
    let other : c.same_bytes.result ≡ false = search rules in
    ap (λ (b : Broken). Some b) (c.replay.ensures ∙ ap (λ (n : ℕ). replay 9 n c.root-root.result c.args.signature.now.root) c.next_seqno.ensures)
    ∙ sym (signature_asked (past_over body es) c.args.signature.now c.args.entry.now c.args.self.now.end.len true false _ c.root-root.result (sym (len_kept body es c.args.self.now k))
    (sym recorded ∙ c.is_recorded.ensures body es k) (c.root-root.ensures body es k) (sym other ∙ c.same_bytes.ensures.value) refl)

pub returns-then-not-may_record : goal.returns-then-not-may_record
returns-then-not-may_record c = λ body es k.
    let recorded : c.is_recorded.result ≡ true = search rules in
    let same : c.same_bytes.result ≡ true = search rules in
    let not_so : c.may_record.result ≡ false = search rules in
    ap (λ (b : Broken). Some b) c.breach-then-not-may_record.ensures
    ∙ sym (signature_asked (past_over body es) c.args.signature.now c.args.entry.now c.args.self.now.end.len true true false c.root-root.result (sym (len_kept body es c.args.self.now k))
    (sym recorded ∙ c.is_recorded.ensures body es k) (c.root-root.ensures body es k) (sym same ∙ c.same_bytes.ensures.value) (sym not_so ∙ c.may_record.ensures body es k))

pub returns : goal.returns
returns c = λ body es k.
    let recorded : c.is_recorded.result ≡ true = search rules in
    let same : c.same_bytes.result ≡ true = search rules in
    let may : c.may_record.result ≡ true = search rules in
    c.broken_by_fault.ensures body es k
    ∙ sym (signature_asked (past_over body es) c.args.signature.now c.args.entry.now c.args.self.now.end.len true true true c.root-root.result (sym (len_kept body es c.args.self.now k))
    (sym recorded ∙ c.is_recorded.ensures body es k) (c.root-root.ensures body es k) (sym same ∙ c.same_bytes.ensures.value) (sym may ∙ c.may_record.ensures body es k))
