use Rattle.std.proofs.Common.{◌≡◌, List, IfOk, length, take, sym, ap, subst, arith}
use Rattle.gl_entry.specs.declared.entry.Entry.{Entry}
use Rattle.gl_merkle.specs.Path.{path_of}
use Rattle.gl_receipt.specs.Made.{Ledger}
use Rattle.gl_store_book.specs.BasedLedgers.{body_of}
use Rattle.gl_store_book.proofs.CommittedBooks.{frontier_base, frontier_count, given_of_tail}
use Rattle.gl_store_book.proofs.client_book.CommittedBookCommittedLedger.path.Goals as goal

pub path_of-requires-clause-above_base : goal.path_of-requires-clause-above_base
path_of-requires-clause-above_base c =
    let same = frontier_base (body_of c.args.self.now.ledger.now.snapshot) c.tail.result.now c.state.result.now c.tail.ensures.stands c.state.ensures.state in
    let above = c.requires.above_base in
    omega (arith, same, above)

pub path_of-requires-clause-within : goal.path_of-requires-clause-within
path_of-requires-clause-within c =
    let count = frontier_count (body_of c.args.self.now.ledger.now.snapshot) c.tail.result.now c.state.result.now c.tail.ensures.stands c.state.ensures.state in
    let long = ap (λ (es : List Entry). length es) c.tail.ensures.entries in
    let within = c.requires.within in
    omega (arith, count, long, within)

pub returns : goal.returns
returns c = λ l s.
    let b = c.args.self.now.ledger.now in
    subst (λ (m : Ledger). IfOk c.path_of.result (λ steps. steps.items ≡ path_of (take c.args.size m.leaves) c.args.seqno)) (sym s.2)
    (given_of_tail (body_of b.snapshot) c.tail.result.now c.state.result.now c.tail.ensures.stands c.state.ensures.state b.entries s.0 c.tail.ensures.entries s.1 (λ steps leaves. steps.items ≡ path_of (take c.args.size leaves) c.args.seqno)
    c.path_of.result c.path_of.ensures)
