use Rattle.std.proofs.Common.{◌≡◌, ◌+◌, ℕ, suc, ◌∷◌, length, take, drop, get_or, sym, ap, ap₂, ◌∙◌, arith}
use Rattle.gl_entry.specs.declared.entry.Entry.{Entry}
use Rattle.gl_store_book.specs.BasedLedgers.{BasedLedger, broken_after}
use Rattle.gl_store_book.specs.Taken.{appended}
use Rattle.gl_store_book.proofs.Batches.{none_after, suffix}
use Rattle.gl_store_book.proofs.Appending.{appended_next, appended_none, refused_next, prefix_kept}
use Rattle.gl_store_book.proofs.book_ledger.BookLedger.append_each.Goals as goal

pub returns-in-Err-clause-refused : goal.returns-in-Err-clause-refused
returns-in-Err-clause-refused c =
    let es = c.args.entries.now in
    let i = c.loop-entry.entry-index in
    let copy = c.in_ok-copy.copy in
    let is : copy ≡ get_or es i c.entry-item.result = c.in_ok-copy.ensures ∙ c.entry-item.is in
    let rest : drop i es ≡ copy ∷ drop (suc i) es = suffix es i c.entry-item.result c.loop-entry-test.true ∙ ap (λ (e : Entry). e ∷ drop (suc i) es) (sym is) in
    let why = refused_next c.loop-entry.self copy (drop (suc i) es) c.by_rule.result (c.by_rule.ensures (broken_after c.loop-entry.self copy) c.in-Err.ensures.refused) in
    let same : appended c.args.self.now es ≡ appended c.loop-entry.self (copy ∷ drop (suc i) es) = c.loop-entry.invariant.rest ∙ ap (appended c.loop-entry.self) rest in
    rw same why

pub loop-entry-preserved : goal.loop-entry-preserved
loop-entry-preserved c =
    let es = c.args.entries.now in
    let i = c.loop-entry.entry-index in
    let copy = c.in_ok-copy.copy in
    let is : copy ≡ get_or es i c.entry-item.result = c.in_ok-copy.ensures ∙ c.entry-item.is in
    let next : suc i ≡ i + 1 = omega arith in
    let rest : drop i es ≡ copy ∷ drop (i + 1) es =
    suffix es i c.entry-item.result c.loop-entry-test.true ∙ ap₂ (λ (e : Entry) (n : ℕ). e ∷ drop n es) (sym is) next in
    record {
      rest = c.loop-entry.invariant.rest ∙ ap (appended c.loop-entry.self) rest
          ∙ appended_next c.loop-entry.self copy (drop (i + 1) es) c.in_default.ensures.unbroken
          ∙ ap (λ (l : BasedLedger). appended l (drop (i + 1) es)) (sym c.in_default.ensures.grown);
      prefix = ap (λ (l : BasedLedger). take (length c.args.self.now.entries) l.entries) c.in_default.ensures.grown
          ∙ prefix_kept c.args.self.now.entries c.loop-entry.self.entries copy c.loop-entry.invariant.prefix;
      base = ap (λ (l : BasedLedger). l.snapshot) c.in_default.ensures.grown ∙ c.loop-entry.invariant.base;
    }

pub returns-clause-appended : goal.returns-clause-appended
returns-clause-appended c =
    c.loop-entry.invariant.rest
    ∙ ap (appended c.loop-entry.self) (none_after c.args.entries.now c.loop-entry.entry-index c.loop-entry-test.false)
    ∙ appended_none c.loop-entry.self
