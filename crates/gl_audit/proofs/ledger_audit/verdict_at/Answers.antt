use Rattle.std.proofs.Common.{ℕ, ap}
use Rattle.gl_audit.specs.declared.verdict.Verdict.TheVariants as verdicts
use Rattle.gl_audit.proofs.Steps.{reported_verdict}
use Rattle.gl_audit.proofs.ledger_audit.verdict_at.Goals as goal

pub returns-in-End-clause-verdict : goal.returns-in-End-clause-verdict
returns-in-End-clause-verdict c = λ ledger k. reported_verdict _ _ _ _ ledger c.in-End.is (c.judge.ensures ledger k)

pub returns-in-Unread-clause-verdict : goal.returns-in-Unread-clause-verdict
returns-in-Unread-clause-verdict c = λ ledger k. reported_verdict _ _ _ _ ledger c.in-Unread.is (ap (λ (n : ℕ). verdicts.Fault n 1) (c.next_seqno-seqno.ensures ledger k))

pub returns-in-Broken-clause-verdict : goal.returns-in-Broken-clause-verdict
returns-in-Broken-clause-verdict c = λ ledger k. reported_verdict _ _ _ _ ledger c.in-Broken.is (ap (λ (n : ℕ). verdicts.Fault n c.in-Broken.rule) (c.next_seqno-seqno.ensures ledger k))
