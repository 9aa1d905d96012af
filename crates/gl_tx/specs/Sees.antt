-- What a run sees: the value of each row, and the number of each map's keys.
use Rattle.std.specs.Prelude.{ℕ, ◌+◌, ◌-◌, List, Option, Bool, is_some, find}
use Rattle.gl_vmaps.specs.Growth.{gained, lost}
use Rattle.gl_vmaps.specs.Kept.{Kept, value_of, count_of}
use Rattle.gl_vmaps.specs.LastWrite.{value_after}
use Rattle.gl_vmaps.specs.Tables.{Tables, value_in, size_of}
use Rattle.gl_vmaps.specs.Versions.{is_to_row}
use Rattle.gl_vmaps.specs.declared.write.Write.{Write}

-- To each map and key the value, if the map has that key, and to each map the number of its keys.
pub record Sees : Type 0 where
  pub value : List ℕ → List ℕ → Option (List ℕ)
  pub size : List ℕ → ℕ

-- What is seen of a finite map.
abbrev pub sees_in : Tables → Sees
sees_in tables = record { value = value_in tables; size = size_of tables }

-- What is seen of the tables that a program keeps.
abbrev pub sees_of : Kept → Sees
sees_of t = record { value = value_of t; size = count_of t }

-- The map is seen to have the key.
abbrev pub has_key : Sees → List ℕ → List ℕ → Bool
has_key sees map key = is_some (sees.value map key)

-- The write of a set to a row, if there is one. A set has one at most.
abbrev pub write_to : List ℕ → List ℕ → List Write → Option Write
write_to map key ws = find (is_to_row map key) ws

-- What is seen after a write set: each row as the set has it, or else as it was; and each map's
-- number of keys with those that the set adds, and without those that it removes.
abbrev pub seen_after : Sees → List Write → Sees
seen_after sees ws = record {
  value = λ map key. value_after (write_to map key ws) (sees.value map key);
  size = λ map. sees.size map + gained sees.value map ws - lost sees.value map ws;
}
