use Rattle.std.proofs.Common.{◌≡◌, ◌-◌, Option, List, ℕ, take, ap, ◌∙◌, arith}
use Rattle.gl_store_book.specs.BasedLedgers.{base_of, with_entries}
use Rattle.gl_store_book.proofs.Appending.{cut_back}
use Rattle.gl_store_book.proofs.book_ledger.BookLedger.append.Goals as goal

pub cut-requires : goal.cut-requires
cut-requires c =
    let base : base_of c.append_each.new.self ≡ base_of c.args.self.now = ap (λ (s : Option (List ℕ)). base_of (record { snapshot = s; entries = c.args.self.now.entries })) c.append_each.ensures.base in
    let len = c.len-len.ensures.len in
    omega (arith, base, len)

pub returns-in-Err-clause-err : goal.returns-in-Err-clause-err
returns-in-Err-clause-err c =
    cut_back c.args.self.now c.append_each.new.self c.cut.new.self c.append_each.ensures.base c.in-Err.ensures.prefix
    (c.cut.ensures ∙ ap (λ (n : ℕ). with_entries c.append_each.new.self (take (n - base_of c.append_each.new.self) c.append_each.new.self.entries)) c.len-len.ensures.len)
