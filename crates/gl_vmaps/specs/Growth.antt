-- How many keys a map gains and loses by a write set, over the values that its rows have.
use Rattle.std.specs.Prelude.{ℕ, List, Bool, not, ◌&&◌, Option, is_some, count_by}
use Rattle.std.specs.Option.{is_none}
use Rattle.gl_vmaps.specs.Versions.{is_to_map}
use Rattle.gl_vmaps.specs.declared.write.Write.{Write}

-- To a map's name and a key the row's value, if it has one.
abbrev pub Values : Type 0
Values = List ℕ → List ℕ → Option (List ℕ)

-- The write sets a row of the map that has no value; or removes one that has.
abbrev pub gains : Values → List ℕ → Write → Bool
gains value map w = is_to_map map w && is_some w.value && not (is_some (value map w.key))

abbrev pub loses : Values → List ℕ → Write → Bool
loses value map w = is_to_map map w && is_none w.value && is_some (value map w.key)

abbrev pub gained : Values → List ℕ → List Write → ℕ
gained value map ws = count_by (gains value map) ws

abbrev pub lost : Values → List ℕ → List Write → ℕ
lost value map ws = count_by (loses value map) ws
