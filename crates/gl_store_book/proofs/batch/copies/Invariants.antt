use Rattle.std.proofs.Common.{◌≡◌, take}
use Rattle.gl_store_book.proofs.batch.copies.Given as goal

-- those so far
abbrev pub invariant-loop-entry : goal.invariant-loop-entry
invariant-loop-entry l = l.copies.items ≡ take l.entry-index l.entries
