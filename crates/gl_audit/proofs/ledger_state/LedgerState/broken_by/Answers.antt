use Rattle.std.proofs.Common.{◌≡◌, Some, subst}
use Rattle.gl_ledger.specs.declared.recording.Recording.{Recording}
use Rattle.gl_ledger.specs.Recordings.{recording_of}
use Rattle.gl_audit.proofs.RuleTests.{recorded_fits}
use Rattle.gl_audit.proofs.ledger_state.LedgerState.broken_by.Goals as goal

pub broken_by_governance-requires-clause-fits : goal.broken_by_governance-requires-clause-fits
broken_by_governance-requires-clause-fits c =
    recorded_fits c.args.entry.now c.in-Governance.request
    (subst (λ (r : Recording). recording_of c.args.entry.now.content ≡ Some r) c.in-Governance.is c.requires.recorded) c.requires.fits
