-- What a file keeps of a node gives, once it is opened again.
use Rattle.std.specs.Prelude.{◌≡◌, take}
use Rattle.gl_entry.specs.declared.entry.Entry.{Entry}
use Rattle.gl_rules.specs.Node.{Node}
use Rattle.gl_rules.specs.Replication.{restart}
use Rattle.gl_journal.specs.Durable.{Durable}
use Rattle.gl_ledger.specs.LedgerBook.{ServiceBook}
use Rattle.gl_store_book.specs.AtOpening.{restarted_node}
use Rattle.gl_store_book.specs.Stands.{snapshot_below}

-- A file that holds this gives the node that a restart leaves of this one, where the entries up to
-- its base are those of this one.
abbrev pub GivesRestart : ServiceBook → Node Entry → Durable → Type 0
GivesRestart b n d = restarted_node b (take n.base n.log) d ≡ (restart b n).node

-- A file holds a node's base, and the snapshot that stands for the entries up to it.
pub record HoldsBase (n : Node Entry) (d : Durable) : Type 0 where
  pub base : d.base ≡ n.base
  pub snapshot : d.snapshot ≡ snapshot_below (take n.base n.log)
