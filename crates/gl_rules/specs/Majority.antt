-- Majorities: more than half of a configuration. Half of it is none, and an empty configuration has
-- none.
use Rattle.std.specs.Prelude.{ℕ, ◌+◌, ◌*◌, List, [], ◌∷◌, Bool, true, ◌&&◌, nat_lt, length, if◌then◌else◌}
use Rattle.gl_rules.specs.Identity.{NodeId}

-- How many of the configuration's nodes pass the test.
abbrev pub tally : (NodeId → Bool) → List NodeId → ℕ
tally votes [] = 0
tally votes (x ∷ xs) = (if votes x then 1 else 0) + tally votes xs

-- More than half of the configuration's nodes pass the test.
abbrev pub majority : (NodeId → Bool) → List NodeId → Bool
majority votes configuration = nat_lt (length configuration) (2 * tally votes configuration)

-- A majority in each of the configurations.
abbrev pub quorum : (NodeId → Bool) → List (List NodeId) → Bool
quorum votes [] = true
quorum votes (c ∷ cs) = majority votes c && quorum votes cs
