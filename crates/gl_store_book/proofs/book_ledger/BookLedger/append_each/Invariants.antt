use Rattle.std.proofs.Common.{◌≡◌, length, take, drop}
use Rattle.gl_store_book.specs.Taken.{appended}
use Rattle.gl_store_book.proofs.book_ledger.BookLedger.append_each.Given as goal

-- those so far were appended, and what was there still stands first
abbrev pub invariant-loop-entry : goal.invariant-loop-entry
invariant-loop-entry l = record {
  rest : appended l.fn.self l.entries ≡ appended l.self (drop l.entry-index l.entries);
  prefix : take (length l.fn.self.entries) l.self.entries ≡ l.fn.self.entries;
  base : l.self.snapshot ≡ l.fn.self.snapshot;
}
