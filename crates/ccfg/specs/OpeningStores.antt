-- The stores with which the nodes of a service begin.
use Rattle.std.specs.Prelude.{◌≡◌, ℕ, suc, List, [], Some, slice_get, nat_le, if◌then◌else◌}
use Rattle.gl_entry.specs.declared.entry.Entry.{Entry}
use Rattle.gl_world.specs.declared.settings.Settings.{Settings}
use Rattle.gl_world.specs.Founding.{id_of}
use Rattle.gl_world.specs.Keys.{private_key, node_seed}
use Rattle.gl_world.specs.World.{start_of}
use Rattle.gl_store_book.specs.BasedLedgers.{whole_ledger}
use Rattle.gl_store_book.specs.Stands.{NodeStore}

-- It is the store of the node with a number.
pub record IsOfNode (s : Settings) (number : ℕ) (node : NodeStore) : Type 0 where
  pub named : node.me ≡ id_of s number
  pub key : node.key ≡ private_key (node_seed s number)

-- The ledger of one of the first so many nodes is the opening one, and the others have none.
abbrev pub opened_at : Settings → ℕ → ℕ → List Entry
opened_at s count number = if nat_le number count then (start_of s).opening else []

-- They are the stores of the nodes in the order of their numbers, and the first so many have
-- opened.
abbrev pub HaveOpened : Settings → ℕ → List NodeStore → Type 0
HaveOpened s count books =
    (i : ℕ) (node : NodeStore) → slice_get books i ≡ Some node →
    IsOfNode s (suc i) node × (node.ledger ≡ whole_ledger (opened_at s count (suc i)))
