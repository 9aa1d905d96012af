use Rattle.gl_ledger_base.proofs.LedgersGuarded.{evidence_whole, execute_whole, govern_whole, refused_mark, sign_whole}
use Rattle.gl_ledger_base.proofs.LedgersWhole.{broken_plain, broken_signature}
use Rattle.gl_ledger_base.proofs.books.law_of_books.Goals as goal

pub returns : goal.returns
returns c = record {
  plain = broken_plain;
  signature = broken_signature;
  execute = λ layers keys body es ledger holds valid. execute_whole layers body es ledger holds valid keys;
  govern = λ layers keys body es ledger holds valid. govern_whole layers body es ledger holds valid keys;
  evidence = λ layers keys body es ledger holds valid. evidence_whole layers body es ledger holds valid keys;
  sign = λ layers keys body es ledger holds valid. sign_whole layers body es ledger holds valid keys;
  mark_refusal = λ layers keys body es ledger holds valid. refused_mark layers body es ledger holds valid keys;
}
