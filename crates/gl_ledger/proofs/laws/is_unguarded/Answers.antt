use Rattle.gl_ledger.proofs.MadeEntries.{execute_is}
use Rattle.gl_ledger.proofs.Governing.{govern_is}
use Rattle.gl_ledger.proofs.AcceptedSignatures.{sign_is}
use Rattle.gl_ledger.proofs.EvidenceEntries.{evidence_is}
use Rattle.gl_ledger.proofs.laws.is_unguarded.Goals as goal

pub returns : goal.returns
returns c = record {
  executes = λ layers keys ledger view low m request. execute_is layers keys ledger view low m request;
  governs = λ layers keys ledger view low m sound request. govern_is layers keys ledger view low m sound request;
  signs = λ layers keys ledger view low m node leaf commit valid named may. sign_is layers keys ledger view commit low m node leaf named may valid;
  evident = λ layers keys ledger view low m. evidence_is layers keys ledger view low m;
}
