use Rattle.gl_base.specs.declared.or_no_memory.OrNoMemory.TheVariants.{Fault}
use Rattle.gl_ledger.specs.Makers.{govern_after}
use Rattle.gl_store_book.specs.BasedLedgers.{past_of}
use Rattle.gl_store_book.proofs.TakenEntries.{entry_made, refused_first}
use Rattle.gl_store_book.proofs.book_ledger.BookLedger.govern.Goals as goal

pub returns-in-Some-clause-refused : goal.returns-in-Some-clause-refused
returns-in-Some-clause-refused c =
    let l = c.args.self.now in
    refused_first entry_made l (Fault c.in-Some.why) (govern_after (past_of l) c.args.view c.args.request.now) (c.in-Some.ensures.refused (past_of l) c.args.view)
