use Rattle.std.proofs.Common.{◌≡◌, ℕ, List, length, reverse, max}
use Rattle.gl_vmaps.specs.Kept.{versions_of}
use Rattle.gl_vmaps.specs.Standing.{latest_from}
use Rattle.gl_vmaps.specs.Chains.{maps_by, found_in}
use Rattle.gl_vmaps.specs.Journal.{IsTidy, AreNamed, IsJournal}
use Rattle.gl_vmaps.proofs.tables.Tables.compact.Given as goal

abbrev pub invariant-loop-self : goal.invariant-loop-self
invariant-loop-self l = record {
  base : l.self-inside.base ≡ l.fn.self.base;
  compacted : l.self-inside.compacted ≡ l.fn.self.compacted;
  tidy : IsTidy (maps_by l.self-inside.maps.entries);
  named : AreNamed (maps_by l.self-inside.maps.entries);
  undone : IsJournal (max l.self-inside.compacted l.to) (maps_by l.self-inside.maps.entries) (reverse l.self-inside.journal.items);
  rows : (name key : List ℕ) →
      latest_from l.to (found_in (maps_by l.self-inside.maps.entries) name key) ≡ latest_from l.to (versions_of l.fn.self name key);
}

abbrev pub decreases-loop-self : goal.decreases-loop-self
decreases-loop-self l = length l.self-inside.journal.items
