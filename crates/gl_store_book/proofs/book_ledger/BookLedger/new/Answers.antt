use Rattle.gl_store_book.proofs.TailLists.{begun_whole}
use Rattle.gl_store_book.proofs.book_ledger.BookLedger.new.Goals as goal

pub invariant_of-result : goal.invariant_of-result
invariant_of-result c = begun_whole c.in_ok-tail.tail c.new-lists.result c.in_ok-tail.ensures.empty c.in_ok-tail.ensures.stands c.new-lists.ensures
