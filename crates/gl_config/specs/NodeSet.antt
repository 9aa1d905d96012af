-- Sets of nodes, as lists in which no node stands twice.
use Rattle.std.specs.Prelude.{List, [], ◌∷◌, Bool, true, ◌&&◌, not}
use Rattle.gl_rules.specs.Identity.{NodeId, member}

-- whether no node stands twice
abbrev pub are_distinct : List NodeId → Bool
are_distinct [] = true
are_distinct (x ∷ xs) = not (member x xs) && are_distinct xs
