-- A list for each identifier.
use Rattle.std.specs.Prelude.{ℕ, ◌<◌, List, length}
use Rattle.std.specs.List.{position_or_len}
use Rattle.gl_base.specs.Bytes.{same_bytes}
use Rattle.gl_index.specs.declared.keyed_lists.KeyedLists.{KeyedLists}
use Rattle.gl_index.specs.Lists.{lists_of, list_at, HasRoomAt}

-- The place of an identifier, the number of them where it isn't among them.
abbrev pub place_of : List (List ℕ) → List ℕ → ℕ
place_of ids id = position_or_len (same_bytes id) ids

-- The list of an identifier, empty where it was never named.
abbrev pub list_on : {X : Type 0} → KeyedLists X → List ℕ → List X
list_on k id = list_at (lists_of k.lists.items) (place_of k.ids.items id)

-- The identifier is named, and its list has room for one more.
pub record HasRoomOn {X : Type 0} (k : KeyedLists X) (id : List ℕ) : Type 0 where
  pub known : place_of k.ids.items id < length k.ids.items
  pub room : HasRoomAt k.lists.items (place_of k.ids.items id)
