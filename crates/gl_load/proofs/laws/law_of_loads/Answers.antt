use Rattle.gl_load.proofs.Founded.{load_begins, load_founds}
use Rattle.gl_load.proofs.Counting.{load_entries, load_signatures, load_valid}
use Rattle.gl_load.proofs.laws.law_of_loads.Goals as goal

pub returns : goal.returns
returns c = record {
  founds = λ seed. load_founds seed;
  begins = λ seed. load_begins seed;
  entries = λ seed count most. load_entries seed count most;
  signatures = λ seed count most. load_signatures seed count most;
  valid = λ seed count most. load_valid seed count most;
}
