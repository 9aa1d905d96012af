use Rattle.std.proofs.Common.{List, [], ap, sym, subst, reverse}
use Rattle.gl_vmaps.specs.Chains.{maps_by, found_in}
use Rattle.gl_vmaps.specs.Journal.{IsTidy, AreNamed, IsJournal}
use Rattle.gl_vmaps.specs.Standing.{latest_from}
use Rattle.gl_vmaps.specs.declared.journal.Written.{Written}
use Rattle.gl_vmaps.proofs.InOrder.{named-empty}
use Rattle.gl_vmaps.proofs.JournalLaws.{tidy-empty, journal-empty, found_in-empty}
use Rattle.gl_vmaps.proofs.tables.Tables.new.Goals as goal

pub invariant_of-result : goal.invariant_of-result
invariant_of-result c = record {
  tidy = subst (λ es. IsTidy (maps_by es)) (sym c.new.ensures.empty) tidy-empty;
  named = subst (λ es. AreNamed (maps_by es)) (sym c.new.ensures.empty) named-empty;
  undone = subst (λ es. IsJournal 0 (maps_by es) (reverse c.new-2.result.items)) (sym c.new.ensures.empty)
      (subst (λ (js : List Written). IsJournal 0 (maps_by []) (reverse js)) (sym c.new-2.ensures.items) (journal-empty 0));
}

pub returns-clause-stands : goal.returns-clause-stands
returns-clause-stands c = record {
  rising = tt;
  rows = λ name key. ap (latest_from 0) (subst (λ es. Rattle.std.proofs.Common.◌≡◌ (found_in (maps_by es) name key) []) (sym c.new.ensures.empty) (found_in-empty name key));
}
