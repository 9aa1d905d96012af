use Rattle.gl_ledger_base.proofs.LedgersTrusted.{nodes_upto, read_above, read_active, read_configuration, read_in_force, read_mark, read_removal}
use Rattle.gl_ledger_base.proofs.reads.law_of_configurations.Goals as goal

pub returns : goal.returns
returns c = record {
  nodes = λ layers keys. nodes_upto layers;
  removals = λ layers keys. read_removal layers;
  marks = λ layers keys. read_mark layers;
  begins = λ layers keys. read_configuration layers;
  in_force = λ layers keys body es ledger holds valid. read_in_force layers body es ledger holds valid keys;
  above = λ layers keys body es ledger holds valid. read_above layers body es ledger holds valid keys;
  active = λ layers keys body es ledger holds valid. read_active layers body es ledger holds valid keys;
}
