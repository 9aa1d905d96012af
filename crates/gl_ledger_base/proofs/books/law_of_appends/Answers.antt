use Rattle.gl_ledger_base.proofs.LedgersGrown.{read_appended, read_breaks, read_refused}
use Rattle.gl_ledger_base.proofs.books.law_of_appends.Goals as goal

pub returns : goal.returns
returns c = record {
  breaks = read_breaks;
  appended = read_appended;
  refused = read_refused;
}
