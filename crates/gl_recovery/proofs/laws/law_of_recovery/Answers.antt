use Rattle.gl_recovery.proofs.Completing.{completes}
use Rattle.gl_recovery.proofs.CompletingEntry.{completes_after}
use Rattle.gl_recovery.proofs.laws.law_of_recovery.Goals as goal

pub returns : goal.returns
returns c = record {
  requests = λ rs r all recovered closed opened. completes rs r all recovered closed opened;
  ledgers = λ layers ledger e sound recovered closed opened. completes_after layers ledger e sound recovered closed opened;
}
