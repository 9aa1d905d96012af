use Rattle.std.proofs.Common.{ap}
use Rattle.gl_vmaps.specs.Tables.{Tables}
use Rattle.gl_tx.specs.Run.{run}
use Rattle.gl_ledger.specs.ServiceRow.{identity_in, service_state}
use Rattle.gl_ledger_base.proofs.LedgersBroken.{same_broken, same_evidence_result, same_may}
use Rattle.gl_ledger_base.proofs.ledgers.law_of_alike.Goals as goal

pub returns : goal.returns
returns c = record {
  broken = λ layers p q x. same_broken p q x layers;
  commits = same_may;
  runs = λ p q x request. ap (λ (t : Tables). run request t) x.tables;
  state = λ p q x. ap service_state x.tables;
  identity = λ p q x. ap identity_in x.tables;
  evidence = same_evidence_result;
}
