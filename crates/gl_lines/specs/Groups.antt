-- The words of operations that are still to be read.
use Rattle.std.specs.Prelude.{ℕ, List, [], Option, None, Some}
use Rattle.gl_lines.specs.Operations.{groups_of, with_group}

-- The words of the operations after a semicolon, operation by operation; nothing may follow.
abbrev pub groups_after : Option (List (List ℕ)) → Option (List (List (List ℕ)))
groups_after None = Some []
groups_after (Some words) = groups_of words

-- The words of one operation before those.
abbrev pub group_before : List (List ℕ) → Option (List (List ℕ)) → Option (List (List (List ℕ)))
group_before group after = with_group group (groups_after after)
