use Rattle.std.proofs.Common.{◌-◌, ◌<◌, ◌∙◌, ap, arith, List}
use Rattle.gl_gov_rules.specs.declared.change.Recorded.{Recorded}
use Rattle.gl_audit.specs.GovState.{governed_up_to}
use Rattle.gl_audit.proofs.Cutting.{taken_back}
use Rattle.gl_audit.proofs.ledger_state.take.Goals as goal

pub returns-in-Err-clause-gov_kept : goal.returns-in-Err-clause-gov_kept
returns-in-Err-clause-gov_kept c =
    let e = c.args.entry.now in
    let low = c.requires.base in
    let some : 0 < e.seqno = omega (arith, low) in
    c.cut.ensures ∙ ap (governed_up_to (e.seqno - 1)) c.in_ok-take_request.ensures.recorded
    ∙ ap (λ (rs : List Recorded). record { base = c.args.gov.now.base; requests = rs }) (taken_back e.seqno c.args.gov.now.requests e.content some c.requires.gov_above.above)
