use Rattle.std.proofs.Common.{Ok, ap, rules}
use Rattle.gl_audit.proofs.Steps.{of_taken}
use Rattle.gl_audit.proofs.ledger_audit.audit.Goals as goal

pub returns-clause-verdict : goal.returns-clause-verdict
returns-clause-verdict g c = of_taken _ c.verdict_at.result _ _ _ c.verdict_at.ensures.verdict c.in_ok-stop.ensures.ends

pub returns-clause-ended : goal.returns-clause-ended
returns-clause-ended g c = c.verdict_at.ensures.ended _ (λ is. c.in_ok-stop.ensures.ended (ap Ok is))

pub returns-in_err-stop-clause-quiet : goal.returns-in_err-stop-clause-quiet
returns-in_err-stop-clause-quiet g c none =
    let at = c.in_err-stop.is in
    let was = c.in_err-stop.was in
    let gave = c.from_residual-in_err-stop.ensures in
    c.take_entries.ensures.quiet (λ fault is. none fault (search (rules, is, at, was, gave)))
