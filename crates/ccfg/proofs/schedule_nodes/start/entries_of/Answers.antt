use Rattle.std.proofs.Common.{◌≡◌, List, true, ap, sym, subst, ◌∙◌}
use Rattle.std.specs.List.{AllByRecursion}
use Rattle.gl_entry.specs.Entry.{is_entry}
use Rattle.gl_entry.specs.declared.entry.Entry.{Entry}
use Rattle.gl_store_book.specs.BasedLedgers.{IsAudited}
use Rattle.gl_store_book.specs.Stands.{NodeStore}
use Rattle.ccfg.proofs.schedule_nodes.start.entries_of.Goals as goal

pub returns-clause-entries : goal.returns-clause-entries
returns-clause-entries c = c.entries.ensures.entries ∙ c.tail.ensures.entries ∙ ap (λ (n : NodeStore). n.ledger.entries) c.book.view_is

pub returns-clause-fit : goal.returns-clause-fit
returns-clause-fit c = subst (λ (l : List Entry). AllByRecursion (λ e. is_entry e ≡ true) l) (sym c.entries.ensures.entries) c.entries.ensures.fit

pub returns-clause-valid : goal.returns-clause-valid
returns-clause-valid c = subst (λ (n : NodeStore). IsAudited n.ledger) c.book.view_is c.tail.ensures.valid
