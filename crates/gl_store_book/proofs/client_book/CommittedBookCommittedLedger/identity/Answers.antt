use Rattle.std.proofs.Common.{◌-◌, List, length, take, sym, ap, ◌∙◌, arith}
use Rattle.gl_entry.specs.declared.entry.Entry.{Entry}
use Rattle.gl_ledger.specs.ServiceRow.{identity_in}
use Rattle.gl_ledger.specs.Snapshot.{tables_over}
use Rattle.gl_receipt.specs.Made.{Ledger}
use Rattle.gl_store.proofs.Tails.{same_base}
use Rattle.gl_store_book.specs.BasedLedgers.{body_of}
use Rattle.gl_store_book.proofs.CommittedBooks.{identity_held}
use Rattle.gl_store_book.proofs.client_book.CommittedBookCommittedLedger.identity.Goals as goal

pub identity_at-requires-clause-from_one : goal.identity_at-requires-clause-from_one
identity_at-requires-clause-from_one c = let above = c.requires.above_base in omega (arith, above)

pub identity_at-requires-clause-from_base : goal.identity_at-requires-clause-from_base
identity_at-requires-clause-from_base c = λ body s.
    let same = same_base body (body_of c.args.self.now.ledger.now.snapshot) c.tail.result.now s c.tail.ensures.stands in
    let above = c.requires.above_base in
    omega (arith, same, above)

pub identity_at-requires-clause-within : goal.identity_at-requires-clause-within
identity_at-requires-clause-within c = λ body s.
    let same = same_base body (body_of c.args.self.now.ledger.now.snapshot) c.tail.result.now s c.tail.ensures.stands in
    let long = ap (λ (es : List Entry). length es) c.tail.ensures.entries in
    let within = c.requires.within in
    omega (arith, same, long, within)

pub returns : goal.returns
returns c = λ l s.
    let b = c.args.self.now.ledger.now in
    let body = body_of b.snapshot in
    let above = c.requires.above_base in
    c.identity_at.ensures body c.tail.ensures.stands
    ∙ ap (λ (es : List Entry). identity_in (tables_over body (take (c.args.seqno - body.base) es))) c.tail.ensures.entries
    ∙ identity_held body b.entries s.0 s.1 c.args.seqno (omega (arith, above))
    ∙ sym (ap (λ (m : Ledger). m.identity c.args.seqno) s.2)
