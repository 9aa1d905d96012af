use Rattle.std.proofs.Common.{◌≡◌, ◌∙◌, true, ap, subst}
use Rattle.std.specs.List.{AllByRecursion}
use Rattle.gl_entry.specs.Entry.{is_entry}
use Rattle.gl_entry.specs.declared.entry.Entry.{Entry}
use Rattle.gl_audit.specs.Committed.{Held}
use Rattle.gl_store.proofs.store.Store.entries.Goals as goal

pub returns-clause-entries : goal.returns-clause-entries
returns-clause-entries c = c.entries.ensures.entries ∙ ap (λ (h : Held). h.ledger) c.self.view_is

pub returns-clause-fit : goal.returns-clause-fit
returns-clause-fit c = subst (λ (h : Held). AllByRecursion (λ (e : Entry). is_entry e ≡ true) h.ledger) c.self.view_is c.entries.ensures.fit
