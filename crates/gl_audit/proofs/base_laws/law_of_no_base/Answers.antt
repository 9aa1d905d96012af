use Rattle.std.proofs.Common.{refl}
use Rattle.gl_audit.proofs.NoBase.{peaks_whole, root_whole, signs_whole, last_signed_whole}
use Rattle.gl_audit.proofs.base_laws.law_of_no_base.Goals as goal

pub returns : goal.returns
returns c = record {
  past = λ es. refl;
  broken = λ layers es e. refl;
  audited = λ layers es. refl;
  base = refl;
  requests = λ es. refl;
  tables = λ es. refl;
  leaves = λ es. refl;
  peaks = peaks_whole;
  root = root_whole;
  signs = signs_whole;
  last_signed = last_signed_whole;
}
