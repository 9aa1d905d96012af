-- What a serve leaves of its node's file.
use Rattle.std.specs.Prelude.{◌≡◌, ◌≤◌, ℕ, List, Ok}
use Rattle.gl_journal.specs.Durable.{Durable, LogRules, durable, journal_header}
use Rattle.gl_journal.specs.Parts.{HasGate}

-- An image has its closed gate, and opens to a state with the same key, and with no fewer spent
-- leaves.
abbrev pub KeepsLeaves : LogRules → Durable → List ℕ → Type 0
KeepsLeaves goes_on d image =
    HasGate journal_header image
    × (now : Durable) × (durable goes_on image ≡ Ok now) × (now.key ≡ d.key)
    × (d.reserved ≤ now.reserved)
