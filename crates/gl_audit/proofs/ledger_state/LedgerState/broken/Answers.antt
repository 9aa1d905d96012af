use Rattle.std.proofs.Common.{ℕ, ◌+◌, ◌∙◌, Some, ap, sym}
use Rattle.gl_ledger.specs.Broken.{breach}
use Rattle.gl_ledger.specs.declared.breach.Broken.{Broken}
use Rattle.gl_audit.proofs.PastOver.{len_kept}
use Rattle.gl_audit.proofs.RuleTests.{broken_unread, found_by}
use Rattle.gl_audit.proofs.ledger_state.LedgerState.broken.Goals as goal

pub returns-in-None-clause-broken : goal.returns-in-None-clause-broken
returns-in-None-clause-broken c = λ body es k.
    ap (λ (b : Broken). Some b) c.breach.ensures
    ∙ ap (λ (n : ℕ). Some (breach 1 (n + 1) c.args.entry.now)) (sym (len_kept body es c.args.self.now k))
    ∙ sym (broken_unread body es c.args.entry.now (sym c.in_ok-recording_of.ensures.recording ∙ c.in-None.is))

pub returns-in-Some-clause-broken : goal.returns-in-Some-clause-broken
returns-in-Some-clause-broken c =
    found_by c.args.self.now c.args.entry.now c.in-Some.recording c.broken_where.result (sym c.in_ok-recording_of.ensures.recording ∙ c.in-Some.is) c.broken_where.ensures.broken
