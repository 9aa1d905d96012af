use Rattle.std.proofs.Common.{◌≡◌, true, subst}
use Rattle.std.specs.List.{AllByRecursion}
use Rattle.gl_entry.specs.Entry.{is_entry}
use Rattle.gl_entry.specs.declared.entry.Entry.{Entry}
use Rattle.gl_store.specs.Tail.{Tail}
use Rattle.gl_store.proofs.Tails.{all_fit, fits_each}
use Rattle.gl_store.proofs.ledger_tail.LedgerTail.entries.Goals as goal

pub returns-clause-fit : goal.returns-clause-fit
returns-clause-fit c =
    let b = c.self.invariant in
    subst (λ (t : Tail). AllByRecursion (λ (e : Entry). is_entry e ≡ true) t.entries) c.self.view_is (all_fit _ (fits_each b.0 _ b.1.stands.valid))
