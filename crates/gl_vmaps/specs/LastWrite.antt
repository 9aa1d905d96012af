-- The last write of a list to a row, and what it leaves there.
use Rattle.std.specs.Prelude.{ℕ, List, Option, None, Some, Bool, find, reverse}
use Rattle.gl_vmaps.specs.Versions.{is_to_row}
use Rattle.gl_vmaps.specs.declared.write.Write.{Write}

-- The last of a list that is such, if there is one.
abbrev pub last_such : {A : Type 0} → (A → Bool) → List A → Option A
last_such is_such xs = find is_such (reverse xs)

-- The last of the writes to this row, if there is one.
abbrev pub last_write : List ℕ → List ℕ → List Write → Option Write
last_write map key writes = last_such (is_to_row map key) writes

-- The row's value after such a write: what it wrote, and without a write what was there before.
abbrev pub value_after : Option Write → Option (List ℕ) → Option (List ℕ)
value_after None before = before
value_after (Some w) before = w.value
