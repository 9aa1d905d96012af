use Rattle.gl_store_book.specs.BasedLedgers.{broken_after}
use Rattle.gl_store_book.proofs.book_ledger.BookLedger.add_governance.Goals as goal

pub returns-in-Err-clause-refused : goal.returns-in-Err-clause-refused
returns-in-Err-clause-refused c = c.by_rule.ensures (broken_after c.args.self.now c.args.entry) c.in-Err.ensures.refused
