use Rattle.std.proofs.Common.{List, subst, ◌∙◌, ◌≡◌, true}
use Rattle.std.specs.List.{AllByRecursion}
use Rattle.gl_entry.specs.Entry.{is_entry}
use Rattle.gl_entry.specs.declared.entry.Entry.{Entry}
use Rattle.gl_store_book.proofs.whole_ledger.WholeLedger.entries.Goals as goal

pub returns-clause-entries : goal.returns-clause-entries
returns-clause-entries c = c.entries.ensures.entries ∙ c.tail.ensures.entries ∙ c.self.view_is

pub returns-clause-fit : goal.returns-clause-fit
returns-clause-fit c = subst (λ (es : List Entry). AllByRecursion (λ (e : Entry). is_entry e ≡ true) es) (c.tail.ensures.entries ∙ c.self.view_is) c.entries.ensures.fit
