use Rattle.gl_ledger.proofs.EachPassing.{each_over, all_over, over-push, over-take}
use Rattle.gl_audit.proofs.base_laws.law_of_audited_over.Goals as goal

pub returns : goal.returns
returns c = record {
  each = λ layers body es. (each_over layers body es, all_over layers body es);
  pushed = over-push;
  cut = over-take;
}
