use Rattle.gl_store_book.proofs.TailLists.{copied}
use Rattle.gl_store_book.proofs.book_ledger.BookLedger.copy.Goals as goal

pub invariant_of-result : goal.invariant_of-result
invariant_of-result c =
    copied _ _ c.self.inside.tail c.in_ok-tail.tail c.self.inside.lists c.in_ok-lists.lists c.in_ok-snapshot.ensures c.self.invariant c.in_ok-tail.ensures.entries c.in_ok-tail.ensures.stands
    c.in_ok-lists.ensures.configurations c.in_ok-lists.ensures.recorded
