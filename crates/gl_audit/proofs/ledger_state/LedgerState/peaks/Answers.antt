use Rattle.std.proofs.Common.{arith}
use Rattle.gl_audit.proofs.PastOver.{count_kept}
use Rattle.gl_audit.proofs.Snapshots.{peaks_kept}
use Rattle.gl_audit.proofs.ledger_state.LedgerState.peaks.Goals as goal

pub peaks-requires-clause-from_base : goal.peaks-requires-clause-from_base
peaks-requires-clause-from_base c = let s = c.requires.state in let count = count_kept s.0 s.1 c.args.self.now s.2 in omega (arith, count)

pub peaks-requires-clause-within : goal.peaks-requires-clause-within
peaks-requires-clause-within c = let s = c.requires.state in let count = count_kept s.0 s.1 c.args.self.now s.2 in omega (arith, count)

pub returns-clause-peaks : goal.returns-clause-peaks
returns-clause-peaks c = λ body es k. peaks_kept body es c.args.self.now _ k c.in_ok-peaks.ensures.over
