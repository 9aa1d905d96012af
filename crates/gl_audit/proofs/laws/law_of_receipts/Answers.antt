use Rattle.gl_ledger.specs.NodeKeys.{service_layers}
use Rattle.gl_audit.proofs.Binding.{bound}
use Rattle.gl_entry.specs.LedgerFile.{ledger_file}
use Rattle.gl_audit.proofs.Verdicts.{sound}
use Rattle.gl_audit.proofs.laws.law_of_receipts.Goals as goal

pub returns : goal.returns
returns c = record {
  bound = λ bytes count e s valid. bound service_layers (ledger_file bytes).entries count e s (sound bytes valid);
}
