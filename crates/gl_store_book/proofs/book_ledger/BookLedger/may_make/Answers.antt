use Rattle.std.proofs.Common.{rules, ◌≡◌, ◌≤◌, ◌-◌, List, length, slice_get, sym, ap, subst, ◌∙◌, is_some, false}
use Rattle.gl_entry.specs.declared.entry.Entry.{Entry}
use Rattle.gl_audit.specs.Kept.{IsStateOver}
use Rattle.gl_audit.specs.declared.ledger_state.LedgerState.{LedgerState}
use Rattle.gl_store_book.specs.BasedLedgers.{body_of}
use Rattle.gl_store_book.proofs.WholeBased.{may_make_last, no_bytes}
use Rattle.gl_store_book.proofs.book_ledger.BookLedger.may_make.Goals as goal

pub returns-in-Some-clause-whole : goal.returns-in-Some-clause-whole
returns-in-Some-clause-whole c = λ low.
    let none : is_some c.snapshot.result ≡ false = search rules in
    no_bytes c.snapshot.result c.args.self.now.snapshot c.snapshot.ensures none

pub returns-in-Some-clause-may : goal.returns-in-Some-clause-may
returns-in-Some-clause-may c = λ low.
    let last = c.in-Some.last.now in
    let l = c.args.self.now in
    let here : c.entries.result.now ≡ l.entries = c.entries.ensures.entries ∙ c.tail-tail.ensures.entries in
    let up : last.view ≤ c.args.view = search (rules, low) in
    let ends = c.end.ensures (body_of l.snapshot) c.tail-tail.result.now.entries (subst (λ (s : LedgerState). IsStateOver (body_of l.snapshot) c.tail-tail.result.now.entries s) (sym c.state.ensures.state) c.tail-tail.ensures.stands.stands) in
    may_make_last l.entries c.args.view last
    (ap (λ (es : List Entry). slice_get es (length es - 1)) (sym here) ∙ sym c.in-Some.ensures.value)
    (search rules) up
