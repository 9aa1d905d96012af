use Rattle.std.proofs.Common.{◌≡◌}
use Rattle.gl_base.specs.declared.or_no_memory.OrNoMemory.TheVariants.{Fault}
use Rattle.gl_recovery.proofs.ExpectedOutputLaws.{answers_expected, fails_expected, never_blamed, never_whole, no_source}
use Rattle.gl_recovery.proofs.start_ledger.start.Goals as goal

pub returns-in-Err-clause-reported : goal.returns-in-Err-clause-reported
returns-in-Err-clause-reported g c = fails_expected c.args.recovery c.args.by c.args.leaf _ c.in-Err.error c.in-Err.ensures.read

pub returns-clause-reported : goal.returns-clause-reported
returns-clause-reported g c = answers_expected c.args.recovery c.args.by c.args.leaf _ c.in-Ok.store.ledger c.recovered_frames.result c.in-Ok.ensures.read c.recovered_frames.ensures

pub returns-clause-failed : goal.returns-clause-failed
returns-clause-failed g c = λ is. absurd (never_blamed c.recovered_frames.result _ c.recovered_frames.ensures (no_source c.args.recovery c.args.by c.args.leaf c.in-Ok.store.ledger) is)

pub returns-in-Err-clause-read_whole : goal.returns-in-Err-clause-read_whole
returns-in-Err-clause-read_whole g c fault is whole =
    let reported : c.in-Err.error ≡ Fault fault = cc in
    absurd (never_whole _ c.in-Err.error fault c.in-Err.ensures.read reported whole)
