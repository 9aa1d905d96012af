use Rattle.std.proofs.Common.{arith}
use Rattle.gl_store_book.proofs.TailLists.{spelled_seen}
use Rattle.gl_store_book.proofs.book_ledger.BookLedger.len.Goals as goal

pub prove-unreachable-requires : goal.prove-unreachable-requires
prove-unreachable-requires c =
    let low = c.ledger_len.ensures.named in
    let high = c.if-prove.true in
    omega (arith, low, high)

pub returns-clause-spelled : goal.returns-clause-spelled
returns-clause-spelled c = spelled_seen _ c.self.inside.tail c.self.inside.lists c.args.self.now c.self.invariant c.self.view_is
