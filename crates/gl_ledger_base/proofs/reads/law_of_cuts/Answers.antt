use Rattle.std.proofs.Common.{List, ap}
use Rattle.gl_rules.specs.Replication.{batch}
use Rattle.gl_entry.specs.declared.entry.Entry.{Entry}
use Rattle.gl_ledger.specs.LedgerBook.{ledger_book}
use Rattle.gl_ledger_base.proofs.LedgersGrown.{held_more, valid_more}
use Rattle.gl_ledger_base.proofs.LedgersReads.{held_cut, held_rest, valid_cut}
use Rattle.gl_ledger_base.proofs.reads.law_of_cuts.Goals as goal

pub returns : goal.returns
returns c = record {
  stands = held_cut;
  valid = valid_cut;
  rest = held_rest;
  batch = λ layers body es ledger holds keys after low. ap (λ (l : List Entry). batch (ledger_book layers keys) l) (held_rest layers body es ledger holds after low);
  more = held_more;
  valid_more = valid_more;
}
