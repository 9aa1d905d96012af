-- What each node, and its store, is at the start.
use Rattle.std.specs.Prelude.{◌≡◌, ℕ, suc, ◌+◌, List, [], Some, length, nat_le, slice_get, if◌then◌else◌}
use Rattle.gl_entry.specs.declared.entry.Entry.{Entry}
use Rattle.gl_ledger.specs.LedgerBook.{ServiceBook}
use Rattle.gl_rules.specs.World.{node_at_start}
use Rattle.gl_replication.specs.Holding.{Holding}
use Rattle.gl_world.specs.declared.settings.Settings.{Settings}
use Rattle.gl_world.specs.Founding.{id_of}
use Rattle.gl_world.specs.Group.{book_of}
use Rattle.gl_world.specs.World.{start_of}
use Rattle.gl_world.specs.WorldNodes.{StandsAs}

-- Node i signs with its key. A node that starts has the opening ledger, and one that joins has
-- none.
abbrev pub held_at_start : Settings → ℕ → Holding Entry
held_at_start s number = record {
  me = id_of s number;
  base = 0;
  log = if nat_le number s.starting then (start_of s).opening else [];
}

-- There is a store for each node, in the order of their numbers, and it stands for what the node
-- holds at the start, under the book of these settings.
pub record StandAtStart {S : Type 0} (stands : S → ServiceBook → Holding Entry → Type 0)
    (s : Settings) (books : List S) : Type 0 where
  pub count : length books ≡ s.starting + s.joiners
  pub stand : (i : ℕ) (book : S) → slice_get books i ≡ Some book →
      stands book (book_of s) (held_at_start s (suc i))

-- There is each node, in the order of their numbers, and it stands for itself at the start, under
-- the book of these settings.
pub record AreAtStart {N : Type 0} (stands : StandsAs N) (s : Settings) (nodes : List N) :
    Type 0 where
  pub count : length nodes ≡ s.starting + s.joiners
  pub stand : (i : ℕ) (c : N) → slice_get nodes i ≡ Some c →
      stands c (book_of s) (id_of s (suc i)) (node_at_start (start_of s) (id_of s (suc i)))
